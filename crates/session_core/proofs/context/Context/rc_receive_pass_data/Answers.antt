use Rattle.std.proofs.Common.{subst}
use Rattle.session_core.specs.Contexts.{Session}
use Rattle.session_core.specs.PassCalls.{IsTakeCall}
use Rattle.session_core.proofs.context.Context.rc_receive_pass_data.Goals as goal

pub returns : goal.returns
returns g c =
    subst (λ (before : Session g.row.T.Denot g.row.O.Denot g.row.D.Denot g.row.S.Denot g.row.C.Denot). IsTakeCall before c.rc_receive_pass_data.new.self c.rc_receive_pass_data.result) c.self.view_is c.rc_receive_pass_data.ensures
