use Rattle.std.proofs.Common.{◌+◌, ◌-◌, ◌<◌, ◌≤◌, ◌∙◌, length, sym}
use Rattle.gop_board.specs.JobCalls.{done_before, job_plan}
use Rattle.gop_board.proofs.Receiving.{none-past, received-all, received-none, received-one, received-smaller, some-within}
use Rattle.gop_board.proofs.job_calls.add_last_receives.Given.{Over}
use Rattle.gop_board.proofs.job_calls.add_last_receives.Goals as goal

pub loop-schedule-init : goal.loop-schedule-init
loop-schedule-init g c = received-none _ _ _ _ _ _ _ c.requires.before.within c.requires.before

-- what is left to be done, before a receive is put
below : (g : Over) (c : goal.In_ok-push g) →
    done_before c.args.enc.now (c.args.frames - 1) + c.loop-schedule.invariant.count < length (job_plan c.args.enc.now c.args.frames)
below g c =
    some-within (job_plan c.args.enc.now c.args.frames) _ c.next_command.result
    (c.next_command.ensures _ _ _ _ _ _ c.loop-schedule.invariant.scheduled) (sym c.is_some.ensures ∙ c.loop-schedule-test.true)

pub loop-schedule-preserved : goal.loop-schedule-preserved
loop-schedule-preserved g c =
    received-one _ _ _ _ _ _ _ _ _ _ c.loop-schedule.invariant (below g c)
    (c.advance.ensures.known _ _ _ _ _ _ (below g c) c.loop-schedule.invariant.scheduled) c.in_ok-push.ensures.items

pub loop-schedule-smaller : goal.loop-schedule-smaller
loop-schedule-smaller g c = received-smaller _ _ _ _ _ _ _ _ _ c.loop-schedule.invariant (below g c) c.in_ok-push.ensures.items

pub returns : goal.returns
returns g c =
    let done : length (job_plan c.args.enc.now c.args.frames) ≤ done_before c.args.enc.now (c.args.frames - 1) + c.loop-schedule.invariant.count =
    none-past (job_plan c.args.enc.now c.args.frames) _ c.next_command.result
    (c.next_command.ensures _ _ _ _ _ _ c.loop-schedule.invariant.scheduled) (sym c.is_some.ensures ∙ c.loop-schedule-test.false) in
    (received-all _ _ _ _ _ _ _ _ c.loop-schedule.invariant done).0
