use Rattle.std.proofs.Common.{◌≡◌, List, Some, subst}
use Rattle.std.specs.Prelude.{slice_get}
use Rattle.gop_board.specs.declared.job.Job.{Job}
use Rattle.gop_board.proofs.Encodes.{finishes, jobs-fitting, jobs-numbers}
use Rattle.gop_board.proofs.encode.encode_gops.Goals as goal

pub encode_jobs-requires-clause-frames : goal.encode_jobs-requires-clause-frames
encode_jobs-requires-clause-frames g c κs within = λ place job is.
    jobs-fitting c.args.cfg.now.enc c.args.frames.items c.in-Ok.jobs.items c.in-Ok.ensures.split.jobs_are c.requires.fit c.requires.few place job
    (subst (λ (l : List (Job g.row.T.Denot)). slice_get l place ≡ Some job) c.deref.ensures.value is)

pub encode_jobs-requires-clause-numbers : goal.encode_jobs-requires-clause-numbers
encode_jobs-requires-clause-numbers g c κs within = λ place job is.
    jobs-numbers c.args.cfg.now.enc c.args.frames.items c.in-Ok.jobs.items c.in-Ok.ensures.split.jobs_are place job
    (subst (λ (l : List (Job g.row.T.Denot)). slice_get l place ≡ Some job) c.deref.ensures.value is)

pub returns-in-Ok-clause-complete : goal.returns-in-Ok-clause-complete
returns-in-Ok-clause-complete g c = λ valid none.
    finishes c.args.cfg.now.enc c.args.tables.now (g.M.MakeSession.told c.args.maker.now) g.M.Coder.FrameCoder.told c.deref.result.now c.encode_jobs.result
    c.encode_jobs.ensures.error none
