use Rattle.std.proofs.Common.{rules}
use Rattle.std.proofs.lemmas.Result.{IfOk-weaker}
use Rattle.case_words.proofs.Reading.{AllZip-weaker}
use Rattle.case_words.proofs.words.line_numbers.Goals as goal

pub returns-clause-numbers : goal.returns-clause-numbers
returns-clause-numbers c = IfOk-weaker c.each_word.result _ _ (λ v r. record { words = r.words; all = r.all; read = AllZip-weaker _ _ _ _ (λ w n h. search rules) r.read }) c.each_word.ensures.values
