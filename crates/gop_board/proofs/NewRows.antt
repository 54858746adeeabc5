-- A board's row is such at the start.
use Rattle.std.proofs.Common.{◌≡◌, ℕ, zero, suc, List, length, Option, None, refl, ap, ◌∙◌, arith}
use Rattle.std.specs.Prelude.{replicate, get_or}
use Rattle.std.proofs.lemmas.List.{length-replicate}
use Rattle.gop_board.specs.declared.job_result.JobResult.{JobResult}
use Rattle.gop_board.specs.Rows.{IsRowOf}

all-absent : {X : Type 0} (jobs job : ℕ) → get_or (replicate {A = Option X} jobs None) job None ≡ None
all-absent zero job = refl
all-absent (suc jobs) zero = refl
all-absent (suc jobs) (suc job) = all-absent jobs job

pub new-row : {T C : Type 0} (jobs all : ℕ) (belongs : ℕ → JobResult T C → Type 0) (entries : List (Option (JobResult T C))) → jobs ≡ all →
    entries ≡ replicate jobs None → IsRowOf all belongs (record { entries = entries; collected = 0 })
new-row {T} {C} jobs all belongs entries same absent = record {
  one_each = ap (λ (l : List (Option (JobResult T C))). length l) absent ∙ length-replicate jobs None ∙ same;
  collected_of = omega arith;
  each = λ job result there.
      absurd (cc (there, ap (λ (l : List (Option (JobResult T C))). get_or l job None) absent, all-absent {X = JobResult T C} jobs job));
}
