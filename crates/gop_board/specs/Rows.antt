-- The row of entries of a board, one for each job, and what a deposit and a collect do to it.
use Rattle.std.specs.Prelude.{ℕ, ◌≡◌, ◌+◌, ◌≤◌, Bool, not, ◌&&◌, nat_lt, if◌then◌else◌, is_none, List, length, replicate, slice_index_or, slice_set, Option, Some, None}
use Rattle.gop_board.specs.declared.job_result.JobResult.{JobResult}

-- for each job its result, where it is there; and how many jobs were collected, whose results are
-- gone
pub record Row (T C : Type 0) : Type 0 where
  pub entries : List (Option (JobResult T C))
  pub collected : ℕ

-- no result is there yet
abbrev pub new_row : {T C : Type 0} → ℕ → Row T C
new_row jobs = record { entries = replicate jobs None; collected = 0 }

abbrev pub entry_at : {T C : Type 0} → Row T C → ℕ → Option (JobResult T C)
entry_at row job = slice_index_or row.entries job None

-- no result was deposited for the job so far
abbrev pub is_absent : {T C : Type 0} → Row T C → ℕ → Bool
is_absent row job = not (nat_lt job row.collected) && is_none (entry_at row job)

-- that one entry is set
abbrev pub with_entry : {T C : Type 0} → Row T C → ℕ → JobResult T C → Row T C
with_entry row job result = record row { entries = slice_set row.entries job (Some result) }

-- it is set where it was absent
abbrev pub with_absent_entry : {T C : Type 0} → Row T C → ℕ → JobResult T C → Row T C
with_absent_entry row job result = if is_absent row job then with_entry row job result else row

-- the result of the job that is to be collected next
abbrev pub next_result : {T C : Type 0} → Row T C → Option (JobResult T C)
next_result row = entry_at row row.collected

-- the row once the next result was taken; where there is none it stays
abbrev pub without_next : {T C : Type 0} → Row T C → Option (JobResult T C) → Row T C
without_next row None = row
without_next row (Some result) = record {
  entries = slice_set row.entries row.collected None;
  collected = row.collected + 1;
}

-- a row of so many jobs, in which each result that is there belongs to its job
pub record IsRowOf {T C : Type 0} (jobs : ℕ) (belongs : ℕ → JobResult T C → Type 0)
    (row : Row T C) : Type 0 where
  pub one_each : length row.entries ≡ jobs
  pub collected_of : row.collected ≤ jobs
  pub each : (job : ℕ) (result : JobResult T C) → entry_at row job ≡ Some result →
      belongs job result
