use Rattle.std.proofs.Common.{◌<◌, eqb, [], Some, Ok, sym, subst, arith, rules}
use Rattle.std.specs.List.{AllByRecursion}
use Rattle.book.proofs.Balance.{well_formed}
use Rattle.book.specs.Limits.{most_lines}
use Rattle.book.specs.Lines.{lines}
use Rattle.book.specs.Outcome.{answers}
use Rattle.sheet.specs.LastChains.{Moved}
use Rattle.sheet.proofs.ListedLines.{chain-posted}
use Rattle.sheet.proofs.Refusals.{question_refused}
use Rattle.sheet.proofs.statement.Course.obey_list.Goals as goal

pub say_chain-requires : goal.say_chain-requires
say_chain-requires c =
    let book = c.args.self.now.book in
    let moved : Moved (lines book) c.args.floor c.args.self.now.last.items (Ok (Some c.in-Ok-Some.figure)) c.go_to_next.new.last.items = search rules in
    record {
      short = (omega arith, c.as_slice.ensures.fits);
      posted = subst (AllByRecursion (λ n. n < most_lines)) (sym c.as_slice.ensures.value) (chain-posted (lines book) c.go_to_next.new.last.items (well_formed book) moved.0.greatest.chain);
    }

pub say_chain_refusal-requires : goal.say_chain_refusal-requires
say_chain_refusal-requires c =
    question_refused (lines c.args.self.now.book) (eqb c.args.floor 0) 11 c.in-Err.fault (c.in-Err.ensures.stop (answers []))
