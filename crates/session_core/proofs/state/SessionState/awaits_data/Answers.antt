use Rattle.std.proofs.Common.{◌≡◌, not, ◌&&◌, Option, ap, sym, subst, ◌∙◌}
use Rattle.std.specs.Prelude.{is_none}
use Rattle.av1_settings.specs.declared.status.EncoderStatus.{EncoderStatus}
use Rattle.ratecontrol.specs.Passes.{is_ready}
use Rattle.session_core.specs.declared.call.Call.{Call}
use Rattle.session_core.specs.PassStates.{at_state}
use Rattle.session_core.specs.PassTurns.{awaits_data, rate_of}
use Rattle.session_core.proofs.Calling.{none-of}
use Rattle.session_core.proofs.Scheduling.{kept-rated}
use Rattle.session_core.proofs.state.SessionState.awaits_data.Goals as goal

pub returns-then-is_none : goal.returns-then-is_none
returns-then-is_none g c =
    let enc = c.args.enc.now in
    let at = at_state c.args.self.now in
    subst (λ (call : Call g.row.T.Denot g.row.O.Denot). not c.is_ready.result ≡ awaits_data enc at call) (sym c.in-Receive.is)
    (ap not (c.is_ready.ensures _ _ _ _ (kept-rated _ _ c.requires.kept).keeps)
    ∙ sym (ap (λ (o : Option EncoderStatus). is_none o && not (is_ready (rate_of enc at))) (sym c.held_back.ensures ∙ none-of _ c.if-is_none.ensures)))
