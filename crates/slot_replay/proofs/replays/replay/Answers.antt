use Rattle.slot_replay.proofs.Along.{along-accepts, along-refused, accepted-unrefused}
use Rattle.slot_replay.proofs.replays.replay.Goals as goal

pub returns-in-Err-clause-complete : goal.returns-in-Err-clause-complete
returns-in-Err-clause-complete c accepted =
    absurd (accepted-unrefused c.args.commands.now _ accepted (along-refused _ _ _ _ _ _ c.loop-at-test.true c.index-commands-at.is c.in-Err.ensures.refused c.loop-at.invariant))

pub returns-clause-accepted : goal.returns-clause-accepted
returns-clause-accepted c = along-accepts _ _ _ _ c.loop-at-test.false c.loop-at.invariant
