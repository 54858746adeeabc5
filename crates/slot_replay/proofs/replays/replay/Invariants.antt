use Rattle.slot_replay.proofs.Along.{IsAlong}
use Rattle.slot_replay.proofs.replays.replay.Given as goal

abbrev pub invariant-loop-at : goal.invariant-loop-at
invariant-loop-at l = IsAlong l.commands l.at l.display l.frames.items
