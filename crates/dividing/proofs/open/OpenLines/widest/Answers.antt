use Rattle.std.proofs.Common.{◌≡◌, ◌-◌, false, [], length, drop, sym, ◌∙◌, subst, arith}
use Rattle.std.proofs.lemmas.Bool.{both_ways}
use Rattle.std.proofs.lemmas.List.{length-take-le, get_or-take}
use Rattle.book.specs.Lines.{lines}
use Rattle.book.specs.Tally.{at}
use Rattle.book.specs.Totals.{leaves}
use Rattle.flow.proofs.RuleLaws.{open_leaves}
use Rattle.dividing.proofs.Widening.{Best, best_same, best_more, best_all}
use Rattle.dividing.proofs.open.OpenLines.widest.Goals as goal
use Rattle.dividing.proofs.open.OpenLines.widest.Goals.{then-tonnes-most+then-line_leaves, else-tonnes-most, else-tonnes-most-via-then-tonnes-most+else-line_leaves, else-tonnes-most-via-else-tonnes-most}

pub loop-n-preserved : goal.loop-n-preserved
loop-n-preserved c =
    let t = lines c.args.self.now.book.now in
    let left = c.args.self.now.left.now in
    let a = c.args.self.now.account in
    let n = c.loop-n.n in
    let read = get_or-take (c.len.result - 0) left n 0 (omega (arith, length-take-le (c.len.result - 0) (drop 0 left) (omega arith))) in
    elim c.if-tonnes-most.branch [
      | then-tonnes-most+then-line_leaves w ↦
          rw (w.best-is, w.most-is) (best_more t left a n c.loop-n.best c.loop-n.most _ read c.loop-n.invariant (sym w.line_leaves.ensures ∙ w.if-line_leaves.true) w.if-tonnes-most.true)
      | else-tonnes-most w ↦
          elim w.else-tonnes-most.branch [
            | else-tonnes-most-via-then-tonnes-most+else-line_leaves v ↦
                let out : leaves a (at t n) ≡ false = sym v.line_leaves.ensures ∙ v.if-line_leaves.false in
                rw (w.best-is, w.most-is) (best_same t left a n c.loop-n.best c.loop-n.most c.loop-n.invariant (λ opened. absurd (both_ways (leaves a (at t n)) out (open_leaves t left a n opened))))
            | else-tonnes-most-via-else-tonnes-most v ↦
                rw (w.best-is, w.most-is) (best_same t left a n c.loop-n.best c.loop-n.most c.loop-n.invariant (λ opened. omega (arith, read, v.if-tonnes-most.false)))
          ]
    ]

pub returns : goal.returns
returns c =
    let t = lines c.args.self.now.book.now in
    let ends : c.loop-n.n ≡ length t = omega (arith, length-take-le (c.len.result - 0) (drop 0 c.args.self.now.left.now) (omega arith)) in
    best_all t c.args.self.now.left.now c.args.self.now.account c.loop-n.best c.loop-n.most (subst (λ i. Best t c.args.self.now.left.now c.args.self.now.account i c.loop-n.best c.loop-n.most) ends c.loop-n.invariant) []
