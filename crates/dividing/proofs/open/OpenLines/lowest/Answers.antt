use Rattle.std.proofs.Common.{◌≡◌, true, false, length, ◌∙◌, rules, tests}
use Rattle.std.proofs.lemmas.Iterator.{first_from_Range}
use Rattle.book.specs.Lines.{lines}
use Rattle.flow.specs.Rules.{is_open}
use Rattle.dividing.proofs.LowestOf.{lowest_of_found}
use Rattle.dividing.proofs.open.OpenLines.lowest.Goals as goal

pub returns : goal.returns
returns c =
    let t = lines c.args.self.now.book.now in
    let p = is_open t c.args.self.now.left.now c.args.self.now.account in
    c.unwrap_or.ensures
    ∙ lowest_of_found p 0 c.len.result (length t) c.find.result c.len.ensures.count
    (first_from_Range _ _ _ _ (λ n. p n ≡ true) (λ n. p n ≡ false) c.find.ensures.ran (λ x q k. search (rules, tests)) (λ x q k. search (rules, tests)))
