use Rattle.std.proofs.Common.{sym, subst}
use Rattle.ratecontrol.specs.Passes.{asked}
use Rattle.session_core.specs.Contexts.{Session}
use Rattle.session_core.specs.PassCalls.{IsBytesCall}
use Rattle.session_core.proofs.Calling.{none-of}
use Rattle.session_core.proofs.PassCalling.{bytes-call}
use Rattle.session_core.proofs.context_inner.ContextInner.twopass_bytes_needed.Goals as goal

pub returns : goal.returns
returns g c =
    let inside = c.self.inside in
    let none = none-of inside.failure (sym c.if-is_some.ensures) in
    subst (λ (before : Session g.row.T.Denot g.row.O.Denot g.row.D.Denot g.row.S.Denot g.row.C.Denot).
    IsBytesCall asked before c.counted.new.self c.counted.result) c.self.view_is
    (bytes-call inside.enc inside.state c.bytes_needed-answer.new.self inside.failure inside.detector inside.scales inside.coder asked c.bytes_needed-answer.result c.counted.result c.counted.new.self
    c.bytes_needed-answer.ensures.others c.bytes_needed-answer.ensures.tables c.counted.ensures none (c.bytes_needed-answer.ensures.answer inside.enc (c.self.invariant.kept none)))
