use Rattle.std.proofs.Common.{◌<◌, ◌≤◌, ◌||◌, ltb, [], ◌++◌, length, get_or, codes, decimal, sym, refl, ap, ◌∙◌, subst, inl, inr, arith}
use Rattle.std.specs.List.{AllByRecursion}
use Rattle.book.proofs.Balance.{well_formed}
use Rattle.book.specs.Limits.{most_lines}
use Rattle.book.specs.Lines.{lines}
use Rattle.book.specs.Outcome.{answers}
use Rattle.dividing.specs.Tables.{table_entries}
use Rattle.sheet.specs.Rows.{row_in}
use Rattle.sheet.specs.Statements.{rule_of, row_of, text_line, chain_text}
use Rattle.sheet.specs.Stepping.{running}
use Rattle.sheet.proofs.ListedLines.{chain-posted, divide_prints, divide_fills, row_inside, row_in_lem, row_entry, row_chain, row_weight}
use Rattle.sheet.proofs.Refusals.{question_refused}
use Rattle.sheet.proofs.statement.Course.obey_divide.Goals as goal

pub say_row-requires : goal.say_row-requires
say_row-requires c =
    let book = c.args.self.now.book in
    let filled = c.in-Ok.ensures.filled in
    let i = c.args.self.now.count in
    let entries : table_entries ≤ length c.args.rows.now = omega arith in
    let within = c.if-row-count.true in
    let formed = well_formed book in
    record {
      within = row_inside (rule_of c.args.rule) (lines book) formed _ _ _ _ _ filled entries i within;
      short = row_entry (rule_of c.args.rule) (lines book) formed _ _ _ _ _ filled entries i within;
      posted =
          subst (AllByRecursion (λ n. n < most_lines)) (sym (row_in_lem (rule_of c.args.rule) (lines book) formed _ _ _ _ _ filled entries i within))
          (chain-posted (lines book) (row_of filled.rows i).chain formed (row_chain (rule_of c.args.rule) (lines book) formed _ _ _ _ _ filled entries i within));
    }

pub say_chain_refusal-requires : goal.say_chain_refusal-requires
say_chain_refusal-requires c =
    question_refused (lines c.args.self.now.book) (ltb (length c.args.rows.now) 16384 || ltb (length c.args.tonnes.now) 256) 10 c.in-Err.fault
    (c.in-Err.ensures.stop (answers []))

pub returns-then-row-count : goal.returns-then-row-count
returns-then-row-count c =
    let s = running c.args.self.now in
    let filled = c.in-Ok.ensures.filled in
    let i = c.args.self.now.count in
    let entries : table_entries ≤ length c.args.rows.now = omega arith in
    let within = c.if-row-count.true in
    let formed = well_formed c.args.self.now.book in
    let chain = row_in_lem (rule_of c.args.rule) s.tally formed _ _ _ _ _ filled entries i within in
    let weight = row_weight (rule_of c.args.rule) s.tally formed _ _ _ _ _ filled entries i within in
    record {
      line = record {
        text = text_line (chain_text (codes "take ") (get_or c.divide_by.new.tonnes i 0) (row_in c.divide_by.new.rows i));
        put = c.say_row.ensures;
        obeyed =
            divide_prints s formed c.args.rule _ _ _ _ _ filled entries (omega arith) (c.in-Ok.ensures.stop (answers [])) _ _ c.args.after
            (inl (omega (arith, filled.counted), ap (λ w. text_line (chain_text (codes "take ") w (row_in c.divide_by.new.rows i))) weight ∙ ap (λ d. text_line (chain_text (codes "take ") (row_of filled.rows i).tonnes d)) chain, refl));
      };
      tables = divide_fills s formed c.args.rule _ _ _ _ _ filled entries (omega arith) (c.in-Ok.ensures.stop (answers [])) c.args.after;
    }

pub returns-else-row-count : goal.returns-else-row-count
returns-else-row-count c =
    let s = running c.args.self.now in
    let filled = c.in-Ok.ensures.filled in
    let entries : table_entries ≤ length c.args.rows.now = omega arith in
    let formed = well_formed c.args.self.now.book in
    record {
      line = record {
        text = text_line (codes "divided " ++ decimal c.in-Ok.count);
        put = c.say_number.ensures;
        obeyed =
            divide_prints s formed c.args.rule _ _ _ _ _ filled entries (omega arith) (c.in-Ok.ensures.stop (answers [])) _ _ c.args.after
            (inr (omega (arith, filled.counted, c.if-row-count.false), (ap (λ n. text_line (codes "divided " ++ decimal n)) filled.counted, c.go_on.ensures)));
      };
      tables = divide_fills s formed c.args.rule _ _ _ _ _ filled entries (omega arith) (c.in-Ok.ensures.stop (answers [])) c.args.after;
    }
