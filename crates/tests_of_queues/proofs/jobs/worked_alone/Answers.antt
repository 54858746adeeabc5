use Rattle.std.proofs.Common.{◌≡◌, ℕ, List, Some, subst}
use Rattle.std.specs.List.{slice_get}
use Rattle.gop_board.specs.declared.job.Job.{Job}
use Rattle.tests_of_queues.proofs.jobs.worked_alone.Goals as goal

pub work-requires-clause-frames : goal.work-requires-clause-frames
work-requires-clause-frames g c κs within = λ place job is.
    c.in_ok-jobs.ensures.fit place job (subst (λ (l : List (Job ℕ)). slice_get l place ≡ Some job) c.deref.ensures.value is)

pub work-requires-clause-numbers : goal.work-requires-clause-numbers
work-requires-clause-numbers g c κs within = λ place job is.
    c.in_ok-jobs.ensures.numbers place job (subst (λ (l : List (Job ℕ)). slice_get l place ≡ Some job) c.deref.ensures.value is)
