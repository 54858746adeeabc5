use Rattle.std.proofs.Common.{◌≡◌, ◌+◌, ◌-◌, ◌<◌, ◌≤◌, arith, length, drop, count_by}
use Rattle.pyramid.specs.Known.{is_coding}
use Rattle.gop_board.specs.JobCalls.{done_before, job_known}
use Rattle.gop_board.proofs.Receiving.{all-done, done-known, done-rises, not-done, received-all, received-none, received-one, received-smaller}
use Rattle.gop_board.proofs.job_calls.add_receives.Given.{Over}
use Rattle.gop_board.proofs.job_calls.add_receives.Goals as goal

pub loop-schedule-init : goal.loop-schedule-init
loop-schedule-init g c = received-none _ _ _ _ _ _ _ (done-rises c.args.enc.now c.args.number) c.requires.before

-- what is left to be done, before a receive is put
below : (g : Over) (c : goal.In_ok-push g) → done_before c.args.enc.now (c.args.number - 1) + c.loop-schedule.invariant.count < done_before c.args.enc.now c.args.number
below g c =
    let so = c.loop-schedule.invariant in
    let done = done_before c.args.enc.now (c.args.number - 1) + so.count in
    let left : c.coded_ahead.result ≡ count_by is_coding (drop done (job_known c.args.enc.now c.args.number)) = c.coded_ahead.ensures _ _ _ _ _ _ so.scheduled in
    not-done c.args.enc.now c.args.number done (omega (arith, left, c.loop-schedule-test.true))

pub loop-schedule-preserved : goal.loop-schedule-preserved
loop-schedule-preserved g c =
    let so = c.loop-schedule.invariant in
    let done = done_before c.args.enc.now (c.args.number - 1) + so.count in
    let known : done < length (job_known c.args.enc.now c.args.number) = omega (arith, below g c, done-known c.args.enc.now c.args.number) in
    received-one _ _ _ _ _ _ _ _ _ _ so (below g c) (c.advance.ensures.known _ _ _ _ _ _ known so.scheduled) c.in_ok-push.ensures.items

pub loop-schedule-smaller : goal.loop-schedule-smaller
loop-schedule-smaller g c = received-smaller _ _ _ _ _ _ _ _ _ c.loop-schedule.invariant (below g c) c.in_ok-push.ensures.items

-- at the end all that are to be done before the send are
done : (g : Over) (c : goal.After-loop-schedule g) → done_before c.args.enc.now c.args.number ≤ done_before c.args.enc.now (c.args.number - 1) + c.loop-schedule.invariant.count
done g c =
    let so = c.loop-schedule.invariant in
    let commands = done_before c.args.enc.now (c.args.number - 1) + so.count in
    let left : c.coded_ahead.result ≡ count_by is_coding (drop commands (job_known c.args.enc.now c.args.number)) = c.coded_ahead.ensures _ _ _ _ _ _ so.scheduled in
    all-done c.args.enc.now c.args.number commands (omega (arith, left, c.loop-schedule-test.false))

pub returns-clause-calls : goal.returns-clause-calls
returns-clause-calls g c = (received-all _ _ _ _ _ _ _ _ c.loop-schedule.invariant (done g c)).0

pub returns-clause-after : goal.returns-clause-after
returns-clause-after g c = (received-all _ _ _ _ _ _ _ _ c.loop-schedule.invariant (done g c)).1
