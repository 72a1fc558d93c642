use Rattle.std.proofs.Common.{refl, sym, ◌∙◌, arith, rules, tests}
use Rattle.std.proofs.lemmas.Iterator.{YieldsList-from_range}
use Rattle.std.proofs.lemmas.Iterator.Adapters.{option_map_id}
use Rattle.std.proofs.lemmas.Iterator.Consumers.{YieldsList-at, YieldsList-from_filter_map, min_from_yields_List}
use Rattle.book.specs.Lines.{lines}
use Rattle.dividing.proofs.Sourcing.{source_at, source_is, next_is}
use Rattle.dividing.proofs.state.Division.next_source.Goals as goal

pub returns : goal.returns
returns g c =
    let s = c.args.self.now in
    let t = lines s.book.now in
    let n = c.len.result in
    next_is t s.left s.sound s.fair n c.min.result c.len.ensures.count
    (sym (option_map_id c.min.result)
    ∙ min_from_yields_List c.filter_map.result c.min.result c.min.ensures.ran
    (YieldsList-from_filter_map _ (source_at t s.left s.sound s.fair) (YieldsList-at c.filter_map.ensures.source (YieldsList-from_range 0 n n refl (omega arith))) c.filter_map.ensures.closure (λ x r q k. (search (rules, tests), source_is t s.left s.sound s.fair x r (search (rules, tests))))))
