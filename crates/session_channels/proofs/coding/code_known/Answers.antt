use Rattle.std.proofs.Common.{w32}
use Rattle.std.proofs.lemmas.Int.{to_z-of_z}
use Rattle.session_channels.proofs.Parts.{coded-next, coded-none, coded-stops, count-kept, held-none, is-held, is-held-done}
use Rattle.session_channels.proofs.coding.code_known.Goals as goal

pub loop-inner-init : goal.loop-inner-init
loop-inner-init g c =
    rw (to_z-of_z w32 c.args.coded c.ranges.coded)
    (coded-none g.P.Put.contents g.P.Put.queue g.I.Take.contents g.I.Take.queue g.U.Put.contents g.U.Put.queue
    _ _ _ _ _ _ _ c.requires.well c.requires.paid c.requires.packets_unlimited c.requires.data_unlimited)

pub code_next-requires-clause-well : goal.code_next-requires-clause-well
code_next-requires-clause-well g c κs within = c.loop-inner.invariant.well

pub code_next-requires-clause-known : goal.code_next-requires-clause-known
code_next-requires-clause-known g c κs within =
    held-none c.loop-inner.inner c.loop-inner.invariant.well.unfailed c.loop-inner-test.ensures c.if-not-done_processing.ensures

pub loop-inner-preserved : goal.loop-inner-preserved
loop-inner-preserved g c =
    rw (count-kept c.args.handing c.in-Ok.next c.code_next.new.inner c.in-Ok.ensures.well)
    (coded-next g.P.Put.contents g.P.Put.queue g.I.Take.contents g.I.Take.queue g.U.Put.contents g.U.Put.queue
    _ _ _ _ _ _ _ _ _ _ _ _ _ _ _ _ c.loop-inner.invariant c.in-Ok.ensures.drove c.in-Ok.ensures.well c.in-Ok.ensures.paid c.in-Ok.ensures.same)

pub returns-in-Err-clause-drove : goal.returns-in-Err-clause-drove
returns-in-Err-clause-drove g c =
    coded-stops g.P.Put.contents g.P.Put.queue g.I.Take.contents g.I.Take.queue g.U.Put.contents g.U.Put.queue
    _ _ _ _ _ _ _ _ _ _ _ _ _ _ _ _ c.loop-inner.invariant c.in-Err.ensures.drove

pub returns-else-not-done_processing-clause-drove : goal.returns-else-not-done_processing-clause-drove
returns-else-not-done_processing-clause-drove g c = c.loop-inner.invariant.drove

pub returns-else-not-done_processing-clause-held : goal.returns-else-not-done_processing-clause-held
returns-else-not-done_processing-clause-held g c =
    is-held-done c.loop-inner.inner c.if-not-done_processing.ensures

pub returns-after-loop-inner-clause-drove : goal.returns-after-loop-inner-clause-drove
returns-after-loop-inner-clause-drove g c = c.loop-inner.invariant.drove

pub returns-after-loop-inner-clause-held : goal.returns-after-loop-inner-clause-held
returns-after-loop-inner-clause-held g c =
    is-held c.loop-inner.inner c.loop-inner-test.ensures
