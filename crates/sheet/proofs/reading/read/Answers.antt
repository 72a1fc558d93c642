use Rattle.std.proofs.Common.{◌≡◌, ◌-◌, ℕ, List, ◌<◌, sym, ap, ◌∙◌, subst, arith, Ok, Err, Some, Result, Option, MatchResult, length, take, drop}
use Rattle.std.specs.Result.{IsOkAnd}
use Rattle.std.proofs.lemmas.List.{take_rest}
use Rattle.std.proofs.lemmas.Slice.{first_rest}
use Rattle.std.proofs.ByRecursion.{All-from_get_or}
use Rattle.sheet.specs.Reading.{seen, found, command, reading, Spelled}
use Rattle.sheet.specs.declared.command.Found.{Found}
use Rattle.sheet.specs.declared.command.Fault.{Fault}
use Rattle.sheet.proofs.Codec.{at_place, spelled}
use Rattle.sheet.proofs.reading.read.Goals as goal

seen-map : (r : Result Found Fault) (m : Result (Option Found) Fault) → MatchResult r (λ x. IsOkAnd m (λ y. y ≡ Some x)) (λ e. m ≡ Err e) → seen m ≡ found r
seen-map (Ok f) (Ok o) is = ap (λ o. seen (Ok o)) is
seen-map (Ok f) (Err e) is = absurd is
seen-map (Err e) m is = ap seen is

pub returns-in-len1-up : goal.returns-in-len1-up
returns-in-len1-up c =
    let s = c.args.sheet.now in
    let p = c.args.place in
    let rest : List ℕ = take (length s - p) (drop p s) in
    let answer : seen c.map.result ≡ reading s p =
    seen-map c.read.result c.map.result c.map.ensures.cases
    ∙ (c.read.ensures
    ∙ (sym (ap (command p) (first_rest rest 0 c.in-len1-up.len_at_least))
    ∙ (ap (command p) (take_rest s p) ∙ sym (at_place s p (omega arith) (omega arith))))) in
    record {
      answer = answer;
      spelled = subst (Spelled s p) (sym answer) (spelled s p (All-from_get_or (λ b. b < 256) s 0 (λ i _. omega (arith, c.type_inv.sheet i))));
    }
