use Rattle.std.proofs.Common.{◌≤◌, arith, w32}
use Rattle.std.proofs.lemmas.Int.{to_z-of_z}
use Rattle.session_core.specs.PassCalls.{required_of}
use Rattle.session_channels.proofs.Feeding.{begins-fed, closes-fed, more-fed, stops-fed}
use Rattle.session_channels.proofs.coding.feed.Goals as goal

pub loop-pass_in-init : goal.loop-pass_in-init
loop-pass_in-init g c =
    rw (to_z-of_z w32 c.args.coded c.ranges.coded)
    (begins-fed g.I.Take.contents g.I.Take.queue _ _ _ _ _ c.requires.well c.requires.paid c.requires.known)

pub loop-pass_in-preserved : goal.loop-pass_in-preserved
loop-pass_in-preserved g c =
    more-fed g.I.Take.contents g.I.Take.queue _ _ _ _ _ _ _ _ _ _ c.loop-pass_in.invariant
    c.in-Ok.ensures.taken c.take.ensures.turn c.in-Ok-give.ensures.drove c.in-Ok-give.ensures.well c.in-Ok-give.ensures.paid
    c.give.ensures.moment c.give.ensures.settings

pub returns-in-Err-give-clause-drove : goal.returns-in-Err-give-clause-drove
returns-in-Err-give-clause-drove g c =
    stops-fed g.I.Take.contents g.I.Take.queue _ _ _ _ _ _ _ _ _ _ _ c.loop-pass_in.invariant
    c.in-Ok.ensures.taken c.take.ensures.turn c.in-Err-give.ensures.drove

pub returns-in-Closed-clause-drove : goal.returns-in-Closed-clause-drove
returns-in-Closed-clause-drove g c =
    let needed : 1 ≤ required_of c.loop-pass_in.inner = omega arith in
    closes-fed g.I.Take.contents g.I.Take.queue _ _ _ _ _ _ _ _ c.loop-pass_in.invariant
    c.in-Err.ensures.kept c.take.ensures.turn (rw c.in-Closed.is at c.in-Err.ensures.cause) needed
