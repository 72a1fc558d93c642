use Rattle.std.proofs.Common.{◌≡◌, ℕ, Bool, true, false, not, ◌&&◌, eqb, length, ◌∙◌, rules, tests}
use Rattle.std.proofs.lemmas.Iterator.{first_from_Range}
use Rattle.book.specs.Lines.{lines}
use Rattle.flow.specs.Rules.{is_open}
use Rattle.dividing.proofs.LowestOf.{lowest_of_found}
use Rattle.dividing.proofs.open.OpenLines.lowest_other.Goals as goal

pub returns : goal.returns
returns c =
    let t = lines c.args.self.now.book.now in
    let p : ℕ → Bool = λ n. is_open t c.args.self.now.left.now c.args.self.now.account n && not (eqb n c.args.line) in
    c.unwrap_or.ensures
    ∙ lowest_of_found p c.args.line c.len.result (length t) c.find.result c.len.ensures.count
    (first_from_Range _ _ _ _ (λ n. p n ≡ true) (λ n. p n ≡ false) c.find.ensures.ran (λ x q k. search (rules, tests)) (λ x q k. search (rules, tests)))
