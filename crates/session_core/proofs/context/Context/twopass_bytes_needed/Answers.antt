use Rattle.std.proofs.Common.{subst}
use Rattle.ratecontrol.specs.Passes.{asked}
use Rattle.session_core.specs.Contexts.{Session}
use Rattle.session_core.specs.PassCalls.{IsBytesCall}
use Rattle.session_core.proofs.context.Context.twopass_bytes_needed.Goals as goal

pub returns : goal.returns
returns g c =
    subst (λ (before : Session g.row.T.Denot g.row.O.Denot g.row.D.Denot g.row.S.Denot g.row.C.Denot). IsBytesCall asked before c.twopass_bytes_needed.new.self c.twopass_bytes_needed.result) c.self.view_is c.twopass_bytes_needed.ensures
