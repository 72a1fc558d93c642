use Rattle.std.proofs.Common.{◌≡◌, ℕ, ◌<◌, ◌≤◌, length, Bool, true, false, ⊎_elim, arith, rules, tests}
use Rattle.std.proofs.lemmas.Bool.{cases_lt}
use Rattle.std.specs.Bool.{MatchBool}
use Rattle.book.specs.Lines.{lines}
use Rattle.book.specs.Tally.{Tally}
use Rattle.listing.proofs.Leftward.{precedes_past}
use Rattle.listing.proofs.Ranges.{any_in_range}
use Rattle.listing.specs.Growth.{precedes, Preceded}
use Rattle.listing.proofs.search.Search.grows_left.Goals as goal

preceded : (t : Tally) (w account tonnes n : ℕ) → length t ≤ n → (r : Bool) → MatchBool r ((k : ℕ) × (precedes t w account tonnes k ≡ true)) ((k : ℕ) → 0 ≤ k → k < n → precedes t w account tonnes k ≡ false) → Preceded t w account tonnes r
preceded t w account tonnes n all true some = some
preceded t w account tonnes n all false none = λ k.
    ⊎_elim (λ below. none k (omega arith) below) (λ past. precedes_past t w account tonnes k (omega arith)) (cases_lt k n)

pub returns : goal.returns
returns c =
    let s = c.args.self.now in
    let t = lines s.book.now in
    preceded t s.floor c.args.account c.args.tonnes c.len.result (omega arith) c.any.result
    (any_in_range _ _ _ (λ k. precedes t s.floor c.args.account c.args.tonnes k ≡ true) (λ k. precedes t s.floor c.args.account c.args.tonnes k ≡ false)
    (λ x r q k. search (rules, tests)) (λ x k. search (rules, tests)) (λ x k. search (rules, tests)) c.any.result c.any.ensures.runs)
