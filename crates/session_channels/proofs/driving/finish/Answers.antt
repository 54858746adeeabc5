use Rattle.std.proofs.Common.{◌∙◌, w32}
use Rattle.std.proofs.lemmas.Int.{to_z-of_z}
use Rattle.session_channels.specs.Acts.{Done, Over}
use Rattle.session_channels.proofs.Flushed.{flushed-ends, flushed-paid, flushed-well}
use Rattle.session_channels.proofs.Parts.{ends-done, finish-drove, flush-stops, paid-owed, rest-stops}
use Rattle.session_channels.proofs.driving.finish.Goals as goal

pub returns-in-Err : goal.returns-in-Err
returns-in-Err g c =
    flush-stops g.P.Put.contents g.P.Put.queue g.I.Take.contents g.I.Take.queue g.U.Put.contents g.U.Put.queue
    _ _ c.args.inner.now c.flush.new.self c.args.packets.now c.args.pass_in.now c.args.pass_out.now

pub code_known-requires-clause-well : goal.code_known-requires-clause-well
code_known-requires-clause-well g c κs within =
    rw (to_z-of_z w32 c.args.coded c.ranges.coded)
    (flushed-well c.args.inner.now c.flush.new.self _ _ c.in-Ok.ensures.call c.args.handing c.args.coded c.requires.well)

pub code_known-requires-clause-paid : goal.code_known-requires-clause-paid
code_known-requires-clause-paid g c κs within =
    flushed-paid c.args.inner.now c.flush.new.self _ _ c.in-Ok.ensures.call c.args.handing c.requires.paid

pub hand_on-requires-clause-owed : goal.hand_on-requires-clause-owed
hand_on-requires-clause-owed g c κs within = paid-owed c.args.handing c.code_known.new.inner c.in-Ok-code_known.ensures.paid

pub hand_on-requires-clause-unlimited : goal.hand_on-requires-clause-unlimited
hand_on-requires-clause-unlimited g c κs within =
    (c.in-Ok-code_known.ensures.drove Over tt).handed.turn.capacity ∙ c.requires.data_unlimited

pub returns-in-Ok-code_known : goal.returns-in-Ok-code_known
returns-in-Ok-code_known g c =
    finish-drove g.P.Put.contents g.P.Put.queue g.I.Take.contents g.I.Take.queue g.U.Put.contents g.U.Put.queue
    _ _ c.hand_on.result c.args.inner.now c.flush.new.self c.code_known.new.inner c.hand_on.new.inner
    _ _ _ _ _ _ _ c.in-Ok.ensures.call (c.in-Ok-code_known.ensures.drove Over tt)
    (ends-done c.code_known.new.inner
    (c.in-Ok-code_known.ensures.same.flushed
    ∙ flushed-ends c.args.inner.now c.flush.new.self _ _ c.in-Ok.ensures.call)
    c.in-Ok-code_known.ensures.held)
    (c.hand_on.ensures.drove Done)

pub returns-in-Err-code_known : goal.returns-in-Err-code_known
returns-in-Err-code_known g c =
    rest-stops g.P.Put.contents g.P.Put.queue g.I.Take.contents g.I.Take.queue g.U.Put.contents g.U.Put.queue
    _ _ c.args.inner.now c.flush.new.self c.code_known.new.inner _ _ _ _ _ _ c.in-Err-code_known.fault
    c.in-Ok.ensures.call (c.in-Err-code_known.ensures.drove Over tt)
