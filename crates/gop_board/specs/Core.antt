-- The core of a run whose jobs are coded side by side: which job is where, and what each step does to that.
use Rattle.std.specs.Prelude.{ℕ, ◌+◌, Bool, nat_lt, not, ◌==◌, if◌then◌else◌, is_some, List, [], ◌∷◌, ◌++◌, drop, filter, find, Option, None, Some, option_map}
use Rattle.std.specs.List.{slice_get}
use Rattle.gop_board.specs.declared.core_state.CoreStep.{CoreStep}
use Rattle.gop_board.specs.declared.core_state.CoreStep.TheVariants.{Submit, Take, Deposit, Collect}
use Rattle.gop_board.specs.declared.core_state.Holding.{Holding}

-- how many jobs there are and how many were submitted; the queue, its front first; who holds which job; the jobs that are
-- deposited and not collected; how many were collected
pub record Core : Type 0 where
  pub jobs : ℕ
  pub submitted : ℕ
  pub queued : List ℕ
  pub held : List Holding
  pub deposited : List ℕ
  pub collected : ℕ

abbrev pub opening : ℕ → Core
opening jobs = record { jobs = jobs; submitted = 0; queued = []; held = []; deposited = []; collected = 0 }

-- the job that a worker holds
abbrev pub held_by : ℕ → List Holding → Option ℕ
held_by worker held = option_map (λ holding. holding.job) (find (λ holding. holding.worker == worker) held)

-- the job that a step moves; None where the step isn't enabled
abbrev pub moved : Core → CoreStep → Option ℕ
moved core Submit = if nat_lt core.submitted core.jobs then Some core.submitted else None
moved core (Take worker) = if is_some (held_by worker core.held) then None else slice_get core.queued 0
moved core (Deposit worker) = held_by worker core.held
moved core Collect = find (λ job. job == core.collected) core.deposited

abbrev pub is_enabled : Core → CoreStep → Bool
is_enabled core step = is_some (moved core step)

-- what becomes of the core where a step moves this job
abbrev pub with_moved : Core → CoreStep → ℕ → Core
with_moved core Submit job = record core { submitted = core.submitted + 1; queued = core.queued ++ job ∷ [] }
with_moved core (Take worker) job = record core {
  queued = drop 1 core.queued;
  held = core.held ++ (record { worker = worker; job = job }) ∷ [];
}
with_moved core (Deposit worker) job = record core {
  held = filter (λ holding. not (holding.worker == worker)) core.held;
  deposited = core.deposited ++ job ∷ [];
}
with_moved core Collect job = record core {
  deposited = filter (λ deposited. not (deposited == job)) core.deposited;
  collected = core.collected + 1;
}

-- a step that moves no job changes nothing
abbrev pub after_moving : Core → CoreStep → Option ℕ → Core
after_moving core step None = core
after_moving core step (Some job) = with_moved core step job

abbrev pub after_step : Core → CoreStep → Core
after_step core step = after_moving core step (moved core step)
