use Rattle.std.proofs.Common.{◌≡◌, None, subst}
use Rattle.session_log.specs.Passes.{rate_at}
use Rattle.session_core.specs.Contexts.{Session}
use Rattle.session_core.proofs.Calling.{held-rate}
use Rattle.session_core.proofs.context_inner.ContextInner.rc.Goals as goal

pub returns : goal.returns
returns g c =
    let inside = c.self.inside in
    let Holds : Session g.row.T.Denot g.row.O.Denot g.row.D.Denot g.row.S.Denot g.row.C.Denot → Type 0 = λ now.
    now.failure ≡ None → c.state.result.now ≡ rate_at now.enc now.passes now.moment.log in
    subst Holds c.self.view_is (held-rate inside.enc inside.state inside.failure c.state.result.now c.self.invariant c.state.ensures)
