-- Where the jobs of a core stand.
use Rattle.std.specs.Prelude.{ℕ, ◌≡◌, ◌+◌, ◌≤◌, nat_lt, ◌==◌, if◌then◌else◌, count_by}
use Rattle.gop_board.specs.Core.{Core}

-- at how many places a job stands: how often it is queued, held by a worker, deposited, and among the collected ones
abbrev pub places_of : Core → ℕ → ℕ
places_of core job =
    count_by (λ queued. queued == job) core.queued
    + count_by (λ holding. holding.job == job) core.held
    + count_by (λ deposited. deposited == job) core.deposited
    + (if nat_lt job core.collected then 1 else 0)

-- each submitted job stands at one place, every other number at none, and no worker holds two jobs
pub record EachAtOnePlace (core : Core) : Type 0 where
  pub at_one : (job : ℕ) → places_of core job ≡ (if nat_lt job core.submitted then 1 else 0)
  pub holds_one : (worker : ℕ) → count_by (λ holding. holding.worker == worker) core.held ≤ 1
  pub within : core.submitted ≤ core.jobs
