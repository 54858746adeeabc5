use Rattle.std.proofs.Common.{◌≡◌, ◌%◌, ◌<◌, cond, eqb, length, get_or, None, Some, arith}
use Rattle.slot_replay.proofs.Refreshing.{refreshed-more, refreshed-done}
use Rattle.slot_replay.proofs.machine.refresh.Goals as goal
use Rattle.slot_replay.proofs.machine.refresh.Goals.{then-left-eq1, else-left-eq1}

pub loop-place-preserved : goal.loop-place-preserved
loop-place-preserved c =
    let slots = c.loop-place.slots in
    let i = c.loop-place.place-index in
    let left = c.loop-place.left in
    let frame = c.args.frame in
    let within : i < length slots = omega (arith, c.loop-place-test.true, c.loop-place.auto.slots) in
    elim c.if-left-eq1.branch [
      | then-left-eq1 w ↦
          let odd = w.if-left-eq1.true in
          let is : Some frame ≡ cond (eqb (left % 2) 1) (Some frame) (get_or slots i None) = grind arith in
          refreshed-more slots _ i left frame _ _ within is w.slots-is c.loop-place.invariant
      | else-left-eq1 w ↦
          let even = w.if-left-eq1.false in
          let is : get_or slots i None ≡ cond (eqb (left % 2) 1) (Some frame) (get_or slots i None) = grind arith in
          refreshed-more slots _ i left frame _ _ within is w.slots-is c.loop-place.invariant
    ]

pub returns : goal.returns
returns c = refreshed-done c.loop-place.slots c.loop-place.place-index c.loop-place.left c.args.frame _ (omega arith) c.loop-place.invariant
