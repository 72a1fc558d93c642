use Rattle.std.proofs.Common.{◌-◌, ◌++◌, List, ℕ, length, take, drop, replicate, refl, ap, ◌∙◌}
use Rattle.std.proofs.lemmas.List.{take_at}
use Rattle.dividing.proofs.avoiding.Avoiding.new.Goals as goal

pub returns-clause-held : goal.returns-clause-held
returns-clause-held c short =
    let chain = c.args.chain.now in
    let rest : List ℕ = drop (length chain - 0) (replicate 63 0) in
    ap (λ l. take (length chain) (l ++ rest)) c.copy_from_slice.ensures.after ∙ take_at chain rest (length chain) refl
