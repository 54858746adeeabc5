use Rattle.std.proofs.Common.{◌≡◌, ◌-◌, length, None, rules, subst}
use Rattle.session_core.specs.Contexts.{Session}
use Rattle.session_core.proofs.Calling.{held-frames}
use Rattle.session_core.proofs.context_inner.ContextInner.frames_held.Goals as goal

pub returns-clause-count : goal.returns-clause-count
returns-clause-count g c =
    let inside = c.self.inside in
    let size : c.len.result ≡ length inside.state.waiting.items = search rules in
    let Holds : Session g.row.T.Denot g.row.O.Denot g.row.D.Denot g.row.S.Denot g.row.C.Denot → Type 0 = λ now.
    now.failure ≡ None → c.len.result ≡ now.moment.accepted - now.moment.packets in
    subst Holds c.self.view_is (λ none. held-frames inside.enc inside.state inside.failure c.len.result c.self.invariant none size)
