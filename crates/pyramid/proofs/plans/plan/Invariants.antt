use Rattle.std.proofs.Common.{◌-◌, ◌≡◌, ℕ, ◌≤◌, ◌++◌}
use Rattle.pyramid.specs.Plan.{key_above, plan}
use Rattle.pyramid.proofs.PlanSteps.{plan_from}
use Rattle.pyramid.proofs.plans.plan.Given as goal

abbrev pub invariant-loop-start : goal.invariant-loop-start
invariant-loop-start l = record {
  within : l.start ≤ l.frames;
  keys : (later : ℕ) → l.start ≤ later → key_above l.frames l.rest later ≡ key_above l.frames l.keys later;
  built : l.commands.items ++ plan_from l.cfg l.max_interval l.frames l.keys l.start ≡ plan l.cfg l.max_interval l.frames l.keys;
}

abbrev pub decreases-loop-start : goal.decreases-loop-start
decreases-loop-start l = l.frames - l.start
