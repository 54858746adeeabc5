use Rattle.std.proofs.Common.{◌≡◌, Result, Err, ap}
use Rattle.gop_board.proofs.JobRuns.{fault-of, job-valid}
use Rattle.gop_board.proofs.job_session.job_packets.Goals as goal

same : {A E : Type 0} (a b : E) → ◌≡◌ {A = Result A E} (Err a) (Err b) → a ≡ b
same a b e = cc

pub returns-in-Err-clause-valid : goal.returns-in-Err-clause-valid
returns-in-Err-clause-valid g c = λ v is.
    job-valid _ _ _ _ c.in_ok-settings.ensures.cases c.requires.valid v (c.in-Err.ensures.invalid v (ap Err (same _ _ is)))

pub returns-in-Err-clause-fault : goal.returns-in-Err-clause-fault
returns-in-Err-clause-fault g c = λ command is.
    fault-of _ _ _ _ _ _ _ c.in_ok-settings.ensures.cases c.in_ok-calls.ensures command c.requires.faultless (c.in-Err.ensures.fault command (ap Err (same _ _ is)))
