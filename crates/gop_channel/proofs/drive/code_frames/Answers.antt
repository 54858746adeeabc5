use Rattle.std.proofs.Common.{◌≡◌, List, Some, subst}
use Rattle.std.specs.Prelude.{slice_get}
use Rattle.gop_board.specs.declared.job.Job.{Job}
use Rattle.gop_board.proofs.Encodes.{jobs-fitting, jobs-numbers}
use Rattle.gop_channel.proofs.drive.code_frames.Goals as goal

pub code_jobs-requires-clause-frames : goal.code_jobs-requires-clause-frames
code_jobs-requires-clause-frames g c κs within = λ place job is.
    jobs-fitting c.args.cfg.now.enc c.args.frames.items c.in_ok-jobs.jobs.items c.in_ok-jobs.ensures.split.jobs_are c.requires.fit c.requires.few place job
    (subst (λ (l : List (Job g.row.T.Denot)). slice_get l place ≡ Some job) c.deref.ensures.value is)

pub code_jobs-requires-clause-numbers : goal.code_jobs-requires-clause-numbers
code_jobs-requires-clause-numbers g c κs within = λ place job is.
    jobs-numbers c.args.cfg.now.enc c.args.frames.items c.in_ok-jobs.jobs.items c.in_ok-jobs.ensures.split.jobs_are place job
    (subst (λ (l : List (Job g.row.T.Denot)). slice_get l place ≡ Some job) c.deref.ensures.value is)
