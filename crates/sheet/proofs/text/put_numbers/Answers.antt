use Rattle.std.proofs.Common.{◌≡◌, ◌+◌, [], ◌∷◌, ◌++◌, get_or, take, decimal, sym, ap, ◌∙◌, subst, arith}
use Rattle.std.proofs.lemmas.List.{flat_map_more, take_more}
use Rattle.sheet.specs.Page.{Put}
use Rattle.sheet.specs.Statements.{numbers_text}
use Rattle.sheet.proofs.Laid.{put_then}
use Rattle.sheet.proofs.text.put_numbers.Goals as goal

pub loop-number-preserved : goal.loop-number-preserved
loop-number-preserved c =
    let ns = c.args.numbers.now in
    let i = c.loop-number.number-index in
    let more : numbers_text (take i ns) ++ (32 ∷ decimal (get_or ns i 0)) ≡ numbers_text (take (i + 1) ns) =
    flat_map_more (λ n. 32 ∷ decimal n) [] (take i ns) (get_or ns i 0) ∙ ap numbers_text (sym (take_more ns i 0 c.loop-number-test.true)) in
    let so = c.loop-number.invariant in
    let one = c.put_number-end.ensures in (
      subst (λ bs. Put c.args.page.now c.args.at bs c.put_number-end.new.page c.put_number-end.result) more
          (put_then so.0 one.put),
      omega (arith, one.short, so.1),
    )
