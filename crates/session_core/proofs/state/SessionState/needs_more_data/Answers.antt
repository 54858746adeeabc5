use Rattle.session_core.specs.States.{moment_of}
use Rattle.session_core.proofs.Scheduling.{kept-schedule, wants-more}
use Rattle.session_core.proofs.state.SessionState.needs_more_data.Goals as goal

pub returns : goal.returns
returns g c =
    wants-more c.args.enc.now (moment_of c.args.self.now) c.coded_ahead-known.result c.if-self.false
    (c.coded_ahead-known.ensures _ _ _ _ _ _ (kept-schedule _ _ c.requires.kept))
