use Rattle.std.proofs.Common.{◌-◌, get_or, take, ◌∙◌, arith}
use Rattle.book.specs.Lines.{lines}
use Rattle.dividing.proofs.AvoidingSteps.{ends_is, turn_other, turn_itself, turn_lowest, avoiding_turns, avoiding_lowest}
use Rattle.dividing.proofs.avoiding.avoid.Goals as goal
use Rattle.dividing.proofs.avoiding.avoid.Goals.{in_default-via-in-Some-2+else-tonnes_on-gt0, in_default-via-in_default}

pub returns-in-Some : goal.returns-in-Some
returns-in-Some c =
    let t = lines c.args.here.now.book.now in
    let left = c.args.here.now.left.now in
    let a = c.args.here.now.account in
    let walked = c.args.walked.now in
    let chain = c.args.chain.now in
    let i = c.in-Some.i in
    let front = take (i - 0) chain in
    let after = ends_is walked front c.ends_with.result c.ends_with.ensures.value ∙ c.if-ends_with.true in
    c.lowest_other.ensures
    ∙ (turn_other t left a walked front (get_or chain i 0) after ∙ avoiding_turns t left a walked chain i (i - 0) (omega arith) c.in-Some.ensures)

pub returns-in-Some-2 : goal.returns-in-Some-2
returns-in-Some-2 c =
    let t = lines c.args.here.now.book.now in
    let left = c.args.here.now.left.now in
    let a = c.args.here.now.account in
    let walked = c.args.walked.now in
    let chain = c.args.chain.now in
    let i = c.in-Some.i in
    let front = take (i - 0) chain in
    let elsewhere = ends_is walked front c.ends_with.result c.ends_with.ensures.value ∙ c.if-ends_with.false in
    turn_itself t left a walked front (get_or chain i 0) elsewhere (omega (arith, c.tonnes_on.ensures, c.if-tonnes_on-gt0.true))
    ∙ avoiding_turns t left a walked chain i (i - 0) (omega arith) c.in-Some.ensures

pub returns-in_default : goal.returns-in_default
returns-in_default c =
    let t = lines c.args.here.now.book.now in
    let left = c.args.here.now.left.now in
    let a = c.args.here.now.account in
    let walked = c.args.walked.now in
    let chain = c.args.chain.now in
    c.lowest.ensures
    ∙ elim c.in_default.branch [
      | in_default-via-in-Some-2+else-tonnes_on-gt0 w ↦
          let i = w.in-Some.i in
          let front = take (i - 0) chain in
          let elsewhere = ends_is walked front w.ends_with.result w.ends_with.ensures.value ∙ w.if-ends_with.false in
          turn_lowest t left a walked front (get_or chain i 0) elsewhere (omega (arith, w.tonnes_on.ensures, w.if-tonnes_on-gt0.false))
          ∙ avoiding_turns t left a walked chain i (i - 0) (omega arith) w.in-Some.ensures
      | in_default-via-in_default w ↦ avoiding_lowest t left a walked chain w.in_default.ensures
    ]
