use Rattle.std.proofs.Common.{◌≡◌, ◌+◌, ◌/◌, ◌%◌, [], ◌∷◌, decimal, sym, ap, ◌∙◌, subst, arith}
use Rattle.std.proofs.lemmas.Fmt.{decimal_digit, decimal_step, length-decimal-le}
use Rattle.sheet.specs.Page.{Put}
use Rattle.sheet.proofs.Laid.{put_then}
use Rattle.sheet.proofs.page.+put_decimal.Goals as goal

pub returns-then-n-lt10 : goal.returns-then-n-lt10
returns-then-n-lt10 t c =
    let digits : decimal c.args.n ≡ (48 + c.args.n % 10) ∷ [] = decimal_digit c.args.n c.if-n-lt10.true ∙ ap (λ d. (48 + d) ∷ []) (omega arith) in
    record {
      put = subst (λ bs. Put c.args.page.now c.args.at bs c.put.new.page c.put.result) (sym digits) c.put.ensures;
      short = omega (arith, c.put.ensures.place);
    }

pub put-requires-2 : goal.put-requires-2
put-requires-2 t c =
    let short = length-decimal-le 19 (c.args.n / 10) (omega arith) (omega arith) (omega arith) in
    omega (arith, short, c.put_decimal-last.ensures.put.place, c.put_decimal-last.auto.page)

pub returns : goal.returns
returns t c =
    let n = c.args.n in
    let digits = decimal_step n c.if-n-lt10.false (omega arith) in
    let short = length-decimal-le 19 (n / 10) (omega arith) (omega arith) (omega arith) in
    let front = c.put_decimal-last.ensures.put in
    record {
      put =
          subst
          (λ bs. Put c.args.page.now c.args.at bs c.put-2.new.page c.put-2.result)
          (sym digits)
          (put_then front c.put-2.ensures);
      short = omega (arith, c.put-2.ensures.place, front.place, short);
    }
