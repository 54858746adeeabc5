use Rattle.std.proofs.Common.{subst}
use Rattle.ratecontrol.specs.Passes.{taken_in}
use Rattle.session_core.specs.Contexts.{Session}
use Rattle.session_core.specs.PassCalls.{IsBytesCall}
use Rattle.session_core.proofs.context.Context.twopass_in.Goals as goal

pub returns : goal.returns
returns g c =
    subst (λ (before : Session g.row.T.Denot g.row.O.Denot g.row.D.Denot g.row.S.Denot g.row.C.Denot). IsBytesCall (taken_in c.args.bytes.now) before c.twopass_in.new.self c.twopass_in.result) c.self.view_is c.twopass_in.ensures
