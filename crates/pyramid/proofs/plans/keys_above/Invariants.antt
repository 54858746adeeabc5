use Rattle.std.proofs.Common.{◌≡◌, ℕ, ◌≤◌, drop}
use Rattle.pyramid.specs.Plan.{key_above}
use Rattle.pyramid.proofs.plans.keys_above.Given as goal

abbrev pub invariant-loop-i : goal.invariant-loop-i
invariant-loop-i l =
    (frames later : ℕ) → l.start ≤ later → key_above frames (drop l.i l.keys) later ≡ key_above frames l.keys later
