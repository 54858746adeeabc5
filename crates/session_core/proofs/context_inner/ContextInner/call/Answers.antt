use Rattle.std.proofs.Common.{◌≡◌, None, true, Some, Ok, Err, is_some, refl, ap, sym, ◌∙◌, subst}
use Rattle.std.proofs.lemmas.Bool.{false≢true}
use Rattle.av1_settings.specs.declared.status.EncoderStatus.TheVariants.{Failure}
use Rattle.session_core.specs.Contexts.{Session, GivesReply, IsCall}
use Rattle.session_core.specs.Told.{heard}
use Rattle.session_core.specs.Turns.{HaveBytes}
use Rattle.session_core.proofs.Calling.{call-of-failed, call-of-fault, call-of-turn, held-failed, held-ready, held-turn, kept-bytes, none-of, session-same, session_of}
use Rattle.session_core.proofs.context_inner.ContextInner.call.Goals as goal

pub ready_turn-turn-requires-clause-ready : goal.ready_turn-turn-requires-clause-ready
ready_turn-turn-requires-clause-ready g c = held-ready _ _ _ c.self.invariant (none-of _ (sym c.if-is_some.ensures))

pub invariant_of-self : goal.invariant_of-self
invariant_of-self g c =
    held-turn _ _ _ _ _ _ c.args.call c.in-Ok.turn _ _ c.self.invariant (none-of _ (sym c.if-is_some.ensures)) c.in-Ok.ensures.turn c.in-Ok.ensures.kept

pub returns-in-Ok : goal.returns-in-Ok
returns-in-Ok g c =
    let inside = c.self.inside in
    let after : Session g.row.T.Denot g.row.O.Denot g.row.D.Denot g.row.S.Denot g.row.C.Denot =
    session_of inside.enc c.ready_turn-turn.new.self inside.failure c.ready_turn-turn.new.detector c.ready_turn-turn.new.scales c.ready_turn-turn.new.coder in
    let Calls : Session g.row.T.Denot g.row.O.Denot g.row.D.Denot g.row.S.Denot g.row.C.Denot → Type 0 = λ before.
    IsCall GivesReply c.args.call before after
    (heard (g.C.FrameCoder.told before.coder) (g.D.Detector.told before.detector) (g.S.MeanScale.told before.scales))
    (heard (g.C.FrameCoder.told after.coder) (g.D.Detector.told after.detector) (g.S.MeanScale.told after.scales)) (Ok c.in-Ok.turn.reply) in
    record {
      call = subst Calls c.self.view_is
          (call-of-turn inside.enc inside.state c.ready_turn-turn.new.self inside.failure inside.detector c.ready_turn-turn.new.detector inside.scales c.ready_turn-turn.new.scales inside.coder c.ready_turn-turn.new.coder
          c.args.call c.in-Ok.turn _ _ (none-of _ (sym c.if-is_some.ensures)) c.in-Ok.ensures.turn c.ready_turn-turn.ensures.tables c.in-Ok.ensures.refused
          c.ready_turn-turn.ensures.unused c.ready_turn-turn.ensures.later);
      bytes = λ none. kept-bytes inside.enc c.ready_turn-turn.new.self c.in-Ok.ensures.kept;
      again = λ flush none flushed.
          let was : inside.state.flushed ≡ true = ap (λ (s : Session g.row.T.Denot g.row.O.Denot g.row.D.Denot g.row.S.Denot g.row.C.Denot). s.moment.flushed) c.self.view_is ∙ flushed in
          let same = c.in-Ok.ensures.again flush was in
          let unused : (c.ready_turn-turn.new.coder ≡ inside.coder) × (c.ready_turn-turn.new.scales ≡ inside.scales) = rw flush at c.ready_turn-turn.ensures.unused in (
            ap Ok same.0,
            session-same inside.enc inside.state c.ready_turn-turn.new.self inside.failure inside.detector c.ready_turn-turn.new.detector inside.scales c.ready_turn-turn.new.scales inside.coder c.ready_turn-turn.new.coder
                same.2 same.3 unused.1 unused.0 ∙ c.self.view_is,
          );
    }

pub returns-in-Err-clause-call : goal.returns-in-Err-clause-call
returns-in-Err-clause-call g c =
    let inside = c.self.inside in
    let after : Session g.row.T.Denot g.row.O.Denot g.row.D.Denot g.row.S.Denot g.row.C.Denot =
    session_of inside.enc c.ready_turn-turn.new.self (Some c.in-Err.fault) c.ready_turn-turn.new.detector c.ready_turn-turn.new.scales c.ready_turn-turn.new.coder in
    let Calls : Session g.row.T.Denot g.row.O.Denot g.row.D.Denot g.row.S.Denot g.row.C.Denot → Type 0 = λ before.
    IsCall GivesReply c.args.call before after
    (heard (g.C.FrameCoder.told before.coder) (g.D.Detector.told before.detector) (g.S.MeanScale.told before.scales))
    (heard (g.C.FrameCoder.told after.coder) (g.D.Detector.told after.detector) (g.S.MeanScale.told after.scales)) (Err c.status.result) in
    subst Calls c.self.view_is
    (call-of-fault inside.enc inside.state c.ready_turn-turn.new.self inside.failure inside.detector c.ready_turn-turn.new.detector inside.scales c.ready_turn-turn.new.scales inside.coder c.ready_turn-turn.new.coder
    c.args.call c.in-Err.fault c.status.result _ _ (none-of _ (sym c.if-is_some.ensures)) c.status.ensures c.in-Err.ensures.failed.0 c.in-Err.ensures.failed.1 c.ready_turn-turn.ensures.tables
    (λ number at. c.ready_turn-turn.ensures.stays number (c.in-Err.is ∙ ap Err at)) c.ready_turn-turn.ensures.unused c.ready_turn-turn.ensures.later)

pub returns-then-is_some-clause-call : goal.returns-then-is_some-clause-call
returns-then-is_some-clause-call g c =
    let inside = c.self.inside in
    let before : Session g.row.T.Denot g.row.O.Denot g.row.D.Denot g.row.S.Denot g.row.C.Denot =
    session_of inside.enc inside.state inside.failure inside.detector inside.scales inside.coder in
    let Calls : Session g.row.T.Denot g.row.O.Denot g.row.D.Denot g.row.S.Denot g.row.C.Denot → Type 0 = λ now.
    IsCall GivesReply c.args.call now now
    (heard (g.C.FrameCoder.told now.coder) (g.D.Detector.told now.detector) (g.S.MeanScale.told now.scales))
    (heard (g.C.FrameCoder.told now.coder) (g.D.Detector.told now.detector) (g.S.MeanScale.told now.scales)) (Err Failure) in
    subst Calls c.self.view_is (call-of-failed c.args.call before _ _ (sym c.if-is_some.ensures))

pub invariant_of-self-in-Err : goal.invariant_of-self-in-Err
invariant_of-self-in-Err g c =
    held-failed c.self.inside.enc c.self.inside.state c.ready_turn-turn.new.self c.self.inside.failure (Some c.in-Err.fault) c.in-Err.fault c.self.invariant refl

pub returns-in-Err-clause-bytes : goal.returns-in-Err-clause-bytes
returns-in-Err-clause-bytes g c = λ none. absurd (cc)

pub returns-then-is_some-clause-bytes : goal.returns-then-is_some-clause-bytes
returns-then-is_some-clause-bytes g c =
    let Holds : Session g.row.T.Denot g.row.O.Denot g.row.D.Denot g.row.S.Denot g.row.C.Denot → Type 0 = λ now.
    now.failure ≡ None → HaveBytes now.moment.log in
    subst Holds c.self.view_is (λ none. absurd (false≢true (sym (ap is_some none) ∙ sym c.if-is_some.ensures)))
