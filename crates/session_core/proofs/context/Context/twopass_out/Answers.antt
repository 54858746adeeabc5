use Rattle.std.proofs.Common.{subst}
use Rattle.session_core.specs.Contexts.{Session}
use Rattle.session_core.specs.PassCalls.{IsOutCall}
use Rattle.session_core.proofs.context.Context.twopass_out.Goals as goal

pub returns : goal.returns
returns g c =
    subst (λ (before : Session g.row.T.Denot g.row.O.Denot g.row.D.Denot g.row.S.Denot g.row.C.Denot). IsOutCall before c.twopass_out.new.self c.twopass_out.result) c.self.view_is c.twopass_out.ensures
