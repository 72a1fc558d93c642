use Rattle.std.proofs.Common.{subst, rules}
use Rattle.case_words.specs.Words.{HasWord}
use Rattle.std.proofs.lemmas.Slice.Zip.{all_zipped_more}
use Rattle.case_words.proofs.Reading.{word_at_start}
use Rattle.case_words.proofs.words.each_word.Goals as goal

pub loop-word-preserved : goal.loop-word-preserved
loop-word-preserved g c = rw c.in_ok-push.ensures.items (all_zipped_more _ _ _ _ _ c.loop-word.invariant c.in_ok-read.ensures)

pub returns-in_err-read-clause-failed : goal.returns-in_err-read-clause-failed
returns-in_err-read-clause-failed g c = search (rules, subst HasWord c.into_iter-word-iterator.ensures.into_iter_gives (word_at_start _ _ _ c.in-Some.word c.next.new.self c.loop-word.yielded_by c.in-Some.ensures.steps))

pub returns-in_err-push-clause-failed : goal.returns-in_err-push-clause-failed
returns-in_err-push-clause-failed g c = search (rules, subst HasWord c.into_iter-word-iterator.ensures.into_iter_gives (word_at_start _ _ _ c.in-Some.word c.next.new.self c.loop-word.yielded_by c.in-Some.ensures.steps))
