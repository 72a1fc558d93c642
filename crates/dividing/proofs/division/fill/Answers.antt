use Rattle.std.proofs.Common.{◌≡◌, ℕ, get_or, refl, sym, subst, rules, arith}
use Rattle.book.specs.Lines.{lines}
use Rattle.flow.specs.Dividing.{amounts}
use Rattle.dividing.specs.Filling.{Filled}
use Rattle.dividing.proofs.Amounts.{fair_zeros, no_amounts}
use Rattle.dividing.proofs.Tabled.{Filling, filling_none, filling_full, filling_more, filling_all}
use Rattle.dividing.proofs.division.fill.Goals as goal

pub invariant_of-division-clause-fair : goal.invariant_of-division-clause-fair
invariant_of-division-clause-fair g c = fair_zeros (lines c.args.book.now)

pub returns-then-len-eq0 : goal.returns-then-len-eq0
returns-then-len-eq0 g c =
    let t = lines c.args.book.now in
    let choice = g.R.Rule.choice c.args.rule.now in
    let none : (n : ℕ) → get_or (amounts t) n 0 ≡ 0 = no_amounts t (omega arith) in
    filling_all choice t c.requires.sound c.args.rows.now c.args.tonnes.now (amounts t) 0 c.args.rows.now c.args.tonnes.now (filling_none choice t c.requires.sound c.args.rows.now c.args.tonnes.now (amounts t) refl) none

pub loop-number-init : goal.loop-number-init
loop-number-init g c =
    let begun = c.begin.ensures in
    record {
      book = begun.book;
      rule = begun.rule;
      filling = filling_none (g.R.Rule.choice c.args.rule.now) (lines c.args.book.now) c.requires.sound c.args.rows.now c.args.tonnes.now c.begin.new.self.left begun.left;
    }

pub loop-number-preserved : goal.loop-number-preserved
loop-number-preserved g c =
    let so = c.loop-number.invariant in
    let put = rw (so.rule, so.book) at c.in-Some.ensures.row in
    record {
      book = search rules;
      rule = search rules;
      filling = filling_more (g.R.Rule.choice c.args.rule.now) (lines c.args.book.now) c.requires.sound c.args.rows.now c.args.tonnes.now c.loop-number.division.left c.loop-number.number c.loop-number.rows c.loop-number.tonnes so.filling c.put_numbered.new.self.left c.put_numbered.new.rows c.in-Some.weight (omega arith) put c.put_numbered.auto.rows;
    }

pub returns-in_default : goal.returns-in_default
returns-in_default g c =
    let nothing = c.in_default.ensures.row in
    subst (λ rows. Filled (g.R.Rule.choice c.args.rule.now) (lines c.args.book.now) c.args.rows.now c.args.tonnes.now c.loop-number.number rows c.loop-number.tonnes) (sym nothing.1)
    (filling_all (g.R.Rule.choice c.args.rule.now) (lines c.args.book.now) c.requires.sound c.args.rows.now c.args.tonnes.now c.loop-number.division.left c.loop-number.number c.loop-number.rows c.loop-number.tonnes c.loop-number.invariant.filling nothing.0)

pub returns : goal.returns
returns g c =
    let choice = g.R.Rule.choice c.args.rule.now in
    let t = lines c.args.book.now in
    let left = c.loop-number.division.left in
    let n = c.loop-number.number in
    let so = c.loop-number.invariant.filling in
    let all : n ≡ 256 = omega arith in
    filling_all choice t c.requires.sound c.args.rows.now c.args.tonnes.now left 256 c.loop-number.rows c.loop-number.tonnes (subst (λ k. Filling choice t c.args.rows.now c.args.tonnes.now left k c.loop-number.rows c.loop-number.tonnes) all so) (filling_full choice t c.requires.sound c.args.rows.now c.args.tonnes.now left n c.loop-number.rows c.loop-number.tonnes so c.loop-number-test.false)
