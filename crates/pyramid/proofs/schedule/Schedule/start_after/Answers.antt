use Rattle.std.proofs.Common.{ℕ, ◌≤◌, subst, arith}
use Rattle.pyramid.proofs.ScheduleSteps.{built-keys}
use Rattle.pyramid.proofs.schedule.Schedule.start_after.Goals as goal

pub returns : goal.returns
returns c = λ numbers interval frames flushed keys commands later is.
    let s = c.args.self.now in
    let some : 1 ≤ interval = subst (λ (v : ℕ). 1 ≤ v) is.has_interval s.some in
    let are = built-keys numbers interval frames flushed keys commands s some is.built in
    omega (arith, c.key_above-key.ensures, are c.args.limit c.args.start later, c.saturating_add.ensures, c.min.ensures, c.min-2.ensures, is.has_interval, c.ranges.limit.fits)
