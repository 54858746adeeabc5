use Rattle.std.proofs.Common.{◌≡◌, Bool, MatchBool, refl, subst}
use Rattle.session_core.specs.PassStates.{IsPassStep, at_state}
use Rattle.session_core.specs.PassTurns.{IsWaiting}
use Rattle.session_core.specs.Told.{heard}
use Rattle.session_core.proofs.Scheduling.{kept-rated}
use Rattle.session_core.proofs.Telling.{later-same}
use Rattle.session_core.proofs.state.SessionState.ready_turn.Goals as goal

pub returns-then-awaits_data-clause-turn : goal.returns-then-awaits_data-clause-turn
returns-then-awaits_data-clause-turn g c =
    let enc = c.args.enc.now in
    let self = c.args.self.now in
    let told = heard (g.C.FrameCoder.told c.args.coder.now) (g.D.Detector.told c.args.detector.now) (g.S.MeanScale.told c.args.scales.now) in
    subst (λ (waits : Bool). MatchBool waits (IsWaiting enc (at_state self) c.without_log.result × (at_state self ≡ at_state self) × (told ≡ told))
    (IsPassStep enc self.rate.tables c.args.call c.without_log.result (at_state self) (at_state self) told told)) c.if-awaits_data.ensures (
      record {
        replies = (c.without_log.ensures.reply, c.without_log.ensures.log);
        reservoir = c.without_log.ensures.reservoir _ _ _ _ (kept-rated _ _ c.requires.kept).keeps;
      },
      refl,
      refl,
    )

pub returns-then-awaits_data-clause-later : goal.returns-then-awaits_data-clause-later
returns-then-awaits_data-clause-later g c = later-same _
