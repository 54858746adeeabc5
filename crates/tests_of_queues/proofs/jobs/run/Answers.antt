use Rattle.std.proofs.Common.{ℕ, All, IsTrue, List, Global, subst, sym}
use Rattle.std.specs.declared.sync.Arc.{Arc}
use Rattle.av1_frame.specs.declared.frame.Frame.{Frame}
use Rattle.av1_frame.specs.Planes.{fits}
use Rattle.tests_of_queues.proofs.jobs.run.Goals as goal

pub run_job-found-requires-clause-fit : goal.run_job-found-requires-clause-fit
run_job-found-requires-clause-fit c κs =
    subst (λ (l : List (Arc (Frame ℕ) Global)). All (λ frame. IsTrue (fits frame.value c.in_ok-config.config.enc.width c.in_ok-config.config.enc.height c.in_ok-config.config.enc.chroma_sampling)) l)
    (sym c.from_vec.ensures) c.in_ok-frames.ensures.fit
