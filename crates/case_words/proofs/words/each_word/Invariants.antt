use Rattle.std.proofs.Common.{Ok}
use Rattle.std.specs.List.{AllZip}
use Rattle.case_words.proofs.words.each_word.Given as goal

abbrev pub invariant-loop-word : goal.invariant-loop-word
invariant-loop-word g l = AllZip (λ word value. g.F.Fn.post l.read (word, tt) (Ok value)) l.yielded l.values.items
