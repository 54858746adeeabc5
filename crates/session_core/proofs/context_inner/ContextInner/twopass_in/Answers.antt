use Rattle.std.proofs.Common.{sym, subst}
use Rattle.ratecontrol.specs.Passes.{taken_in}
use Rattle.session_core.specs.Contexts.{Session}
use Rattle.session_core.specs.PassCalls.{IsBytesCall}
use Rattle.session_core.proofs.Calling.{held-few, none-of}
use Rattle.session_core.proofs.PassCalling.{bytes-call}
use Rattle.session_core.proofs.context_inner.ContextInner.twopass_in.Goals as goal

pub returns : goal.returns
returns g c =
    let inside = c.self.inside in
    let none = none-of inside.failure (sym c.if-is_some.ensures) in
    subst (λ (before : Session g.row.T.Denot g.row.O.Denot g.row.D.Denot g.row.S.Denot g.row.C.Denot).
    IsBytesCall (taken_in c.args.bytes.now) before c.counted.new.self c.counted.result) c.self.view_is
    (bytes-call inside.enc inside.state c.give_bytes-answer.new.self inside.failure inside.detector inside.scales inside.coder (taken_in c.args.bytes.now) c.give_bytes-answer.result c.counted.result c.counted.new.self
    c.give_bytes-answer.ensures.others c.give_bytes-answer.ensures.tables c.counted.ensures none (c.give_bytes-answer.ensures.answer inside.enc (c.self.invariant.kept none)))

pub give_bytes-answer-requires : goal.give_bytes-answer-requires
give_bytes-answer-requires g c =
    record { few = held-few c.self.inside.enc c.self.inside.state c.self.inside.failure c.self.invariant (none-of c.self.inside.failure (sym c.if-is_some.ensures)) }
