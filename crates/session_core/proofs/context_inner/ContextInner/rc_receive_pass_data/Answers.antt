use Rattle.std.proofs.Common.{sym, subst}
use Rattle.session_core.specs.Contexts.{Session}
use Rattle.session_core.specs.PassCalls.{IsTakeCall}
use Rattle.session_core.proofs.Calling.{none-of, session_of}
use Rattle.session_core.proofs.PassCalling.{take-call}
use Rattle.session_core.proofs.context_inner.ContextInner.rc_receive_pass_data.Goals as goal

pub returns : goal.returns
returns g c =
    let inside = c.self.inside in
    let none = none-of inside.failure (sym c.if-is_some.ensures) in
    subst (λ (before : Session g.row.T.Denot g.row.O.Denot g.row.D.Denot g.row.S.Denot g.row.C.Denot).
    IsTakeCall before (session_of inside.enc c.take_data.new.self inside.failure inside.detector inside.scales inside.coder) c.take_data.result) c.self.view_is
    (take-call inside.enc inside.state c.take_data.new.self inside.failure inside.detector inside.scales inside.coder c.take_data.result none
    (c.take_data.ensures.message inside.enc (c.self.invariant.kept none)) (c.take_data.ensures.after inside.enc (c.self.invariant.kept none)) c.take_data.ensures.tables)
