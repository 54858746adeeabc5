use Rattle.std.proofs.Common.{◌≡◌, ◌++◌, take, drop}
use Rattle.pyramid.specs.Display.{refreshed}
use Rattle.slot_replay.proofs.machine.refresh.Given as goal

abbrev pub invariant-loop-place : goal.invariant-loop-place
invariant-loop-place l =
    take l.place-index l.slots ++ refreshed l.left l.frame (drop l.place-index l.slots) ≡ refreshed l.bits l.frame l.initial.slots
