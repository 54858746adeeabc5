-- What a session asks is what its calls ask, one after another.
use Rattle.std.proofs.Common.{◌≡◌, ℕ, ◌+◌, ◌-◌, ◌<◌, ◌≤◌, false, inl, inr, List, [], ◌∷◌, ◌++◌, map, length, take, drop, refl, sym, ap, ap₂, ◌∙◌, subst, append-nil, take-append-drop, arith}
use Rattle.std.specs.List.{flat_map}
use Rattle.std.proofs.lemmas.Bool.{cases_Bool}
use Rattle.std.proofs.lemmas.List.{length-append, length-drop, take-append-le, take_all, drop-append-le, drop-drop, drop-map}
use Rattle.std.proofs.lemmas.List.Concat.{flat_map-append}
use Rattle.std.proofs.lemmas.Simd.{map-map}
use Rattle.av1_frame.specs.declared.frame.Frame.{Frame}
use Rattle.av1_settings.specs.declared.encoder.EncoderConfig.{EncoderConfig}
use Rattle.av1_settings.specs.declared.speed.SceneDetectionSpeed.{SceneDetectionSpeed}
use Rattle.pyramid.specs.declared.command.Command.{Command}
use Rattle.pyramid.specs.Numbers.{ahead}
use Rattle.pyramid.specs.Settings.{numbers_of}
use Rattle.session_core.specs.declared.call.Call.{Call}
use Rattle.session_core.specs.declared.transcript.Decision.{Decision}
use Rattle.session_core.specs.declared.transcript.Turn.{Turn}
use Rattle.session_core.specs.Decisions.{decided_count}
use Rattle.session_core.specs.Moments.{Accepted, Moment}
use Rattle.session_core.specs.Questions.{frames_from, frames_near, last_key, made_in, question, questions}
use Rattle.session_core.specs.Sessions.{AreTurns, moment_after, accepted_by, accepted_in, commands_of}
use Rattle.session_core.specs.Told.{Asked}
use Rattle.session_core.specs.Turns.{after_flush, after_turn, IsTurn}
use Rattle.session_core.proofs.Asking.{ArePlaced, last_key-later, placed-drop, questions-agree}
use Rattle.session_core.proofs.Decided.{frame_of}
use Rattle.session_core.proofs.Lookahead.{late-after}
use Rattle.session_core.proofs.RunHistory.{accepted-push, history-after, history-turn}
use Rattle.session_core.proofs.Sound.{IsSound}
use Rattle.session_core.proofs.SoundTurns.{flushed_again}
use Rattle.session_core.proofs.Steps.{TurnView, with_frame, view}
use Rattle.session_core.proofs.Steps.TurnView.{Stays, Accepts, Ends, Codes}

-- ---- frames

abbrev picture_of : {T O : Type 0} → Accepted T O → Frame T
picture_of accepted = accepted.picture

-- the frames that wait from the one before a position on are those sent from it on
waiting-near : {T O : Type 0} (enc : EncoderConfig) (moment : Moment T O) (sent : List (Accepted T O)) (position : ℕ) →
    map frame_of moment.waiting ≡ drop moment.packets sent → moment.packets ≤ position - 1 → length sent ≤ position + ahead (numbers_of enc) + 1 →
    frames_near enc sent position ≡ frames_from moment position
waiting-near {T} {O} enc moment sent position frames late few =
    ap (map picture_of) (take_all (ahead (numbers_of enc) + 2) (drop (position - 1) sent) all
    ∙ ap (λ (n : ℕ). drop n sent) back
    ∙ sym (drop-drop (position - 1 - moment.packets) moment.packets sent)
    ∙ ap (drop (position - 1 - moment.packets)) (sym frames)
    ∙ drop-map frame_of (position - 1 - moment.packets) moment.waiting)
    ∙ map-map picture_of frame_of (drop (position - 1 - moment.packets) moment.waiting)
  where
    all : length (drop (position - 1) sent) ≤ ahead (numbers_of enc) + 2
    all = omega (arith, length-drop (position - 1) sent)

    back : position - 1 ≡ moment.packets + (position - 1 - moment.packets)
    back = omega arith

-- frames sent later aren't among those near a position that has `ahead` frames behind it
near-sent : {T O : Type 0} (enc : EncoderConfig) (sent more : List (Accepted T O)) (position : ℕ) → 1 ≤ position →
    position + ahead (numbers_of enc) + 1 ≤ length sent → frames_near enc (sent ++ more) position ≡ frames_near enc sent position
near-sent {T} {O} enc sent more position some behind =
    ap (λ (l : List (Accepted T O)). map picture_of (take (ahead (numbers_of enc) + 2) l)) (drop-append-le (position - 1) sent more within)
    ∙ ap (map picture_of) (take-append-le (ahead (numbers_of enc) + 2) (drop (position - 1) sent) more enough)
  where
    within : position - 1 ≤ length sent
    within = omega arith

    enough : ahead (numbers_of enc) + 2 ≤ length (drop (position - 1) sent)
    enough = omega (arith, length-drop (position - 1) sent)

-- ---- one turn

-- of a turn: the questions before it stay as they are, and those of its decisions hand over what waits
record AsksMore {T O : Type 0} (enc : EncoderConfig) (before after : Moment T O) (sent more : List (Accepted T O)) : Type 0 where
  kept : (p : ℕ) → 1 ≤ p → p < 1 + length before.decisions → frames_near enc (sent ++ more) p ≡ frames_near enc sent p
  late : (p : ℕ) → 1 + length before.decisions ≤ p → p < 1 + length after.decisions → after.packets ≤ p - 1
  few : (p : ℕ) → 1 + length before.decisions ≤ p → p < 1 + length after.decisions → length (sent ++ more) ≤ p + ahead (numbers_of enc) + 1

-- where nothing is sent and nothing decided
asks-none : {T O : Type 0} (enc : EncoderConfig) (before after : Moment T O) (sent more : List (Accepted T O)) → more ≡ [] →
    length after.decisions ≡ length before.decisions → AsksMore enc before after sent more
asks-none {T} {O} enc before after sent more none same = record {
  kept = λ p low high. ap (λ (l : List (Accepted T O)). frames_near enc l p) (ap (λ (l : List (Accepted T O)). sent ++ l) none ∙ append-nil sent);
  late = λ p low high. absurd (omega arith);
  few = λ p low high. absurd (omega arith);
}

module _ {T O : Type 0} (enc : EncoderConfig) (whole : List Decision) (before : Moment T O) (sent : List (Accepted T O)) (done : List Command)
    (sound : IsSound enc whole before sent done) (late : before.flushed ≡ false → before.packets ≤ length before.decisions) where
  counted : before.flushed ≡ false → length before.decisions ≡ before.accepted - (ahead (numbers_of enc) + 1)
  counted unflushed = sound.decided ∙ ap (decided_count (numbers_of enc) before.accepted) unflushed

  asks-accepting : (frame : Accepted T O) → before.flushed ≡ false → AsksMore enc before (with_frame enc whole before frame) sent (frame ∷ [])
  asks-accepting frame unflushed = record {
    kept = λ p low high. near-sent enc sent (frame ∷ []) p low (behind p low high (counted unflushed) sound.accepted);
    late = λ p low high. before_it p low (late unflushed);
    few = λ p low high. few p low (counted unflushed) sound.accepted (length-append sent (frame ∷ []));
  }
    where
      behind : (p : ℕ) → 1 ≤ p → p < 1 + length before.decisions → length before.decisions ≡ before.accepted - (ahead (numbers_of enc) + 1) →
          before.accepted ≡ length sent → p + ahead (numbers_of enc) + 1 ≤ length sent
      behind p low high e f = omega arith

      before_it : (p : ℕ) → 1 + length before.decisions ≤ p → before.packets ≤ length before.decisions → before.packets ≤ p - 1
      before_it p low h = omega arith

      few : (p : ℕ) → 1 + length before.decisions ≤ p → length before.decisions ≡ before.accepted - (ahead (numbers_of enc) + 1) →
          before.accepted ≡ length sent → length (sent ++ frame ∷ []) ≡ length sent + 1 → length (sent ++ frame ∷ []) ≤ p + ahead (numbers_of enc) + 1
      few p low e f g = omega arith

  asks-ending : (more : List (Accepted T O)) → more ≡ [] → AsksMore enc before (after_flush enc whole before) sent more
  asks-ending more none = elim (cases_Bool before.flushed) [
    | inl flushed ↦ asks-none enc before (after_flush enc whole before) sent more none (ap (λ (m : Moment T O). length m.decisions) (flushed_again enc whole before sent done sound flushed))
    | inr unflushed ↦ record {
      kept = λ p low high. ap (λ (l : List (Accepted T O)). frames_near enc l p) nothing;
      late = λ p low high. before_it p low (late unflushed);
      few = λ p low high. few p low (counted unflushed) sound.accepted (ap (λ (l : List (Accepted T O)). length l) nothing);
    }
  ]
    where
      nothing : sent ++ more ≡ sent
      nothing = ap (λ (l : List (Accepted T O)). sent ++ l) none ∙ append-nil sent

      before_it : (p : ℕ) → 1 + length before.decisions ≤ p → before.packets ≤ length before.decisions → before.packets ≤ p - 1
      before_it p low h = omega arith

      few : (p : ℕ) → 1 + length before.decisions ≤ p → length before.decisions ≡ before.accepted - (ahead (numbers_of enc) + 1) →
          before.accepted ≡ length sent → length (sent ++ more) ≡ length sent → length (sent ++ more) ≤ p + ahead (numbers_of enc) + 1
      few p low e f g = omega arith

  asks-view : (call : Call T O) (turn : Turn T O) (after : Moment T O) → TurnView enc whole before call turn after →
      AsksMore enc before after sent (accepted_by call turn.reply)
  asks-view call turn after (Stays staying) =
      asks-none enc before after sent (accepted_by call turn.reply) staying.accepts (ap (λ (m : Moment T O). length m.decisions) staying.stays)
  asks-view call turn after (Accepts accepting) =
      subst (λ (m : Moment T O). AsksMore enc before m sent (accepted_by call turn.reply)) (sym accepting.then)
      (subst (AsksMore enc before (with_frame enc whole before accepting.frame) sent) (sym accepting.accepts) (asks-accepting accepting.frame accepting.open_yet))
  asks-view call turn after (Ends ending) =
      subst (λ (m : Moment T O). AsksMore enc before m sent (accepted_by call turn.reply)) (sym ending.then)
      (asks-ending (accepted_by call turn.reply) ending.accepts)
  asks-view call turn after (Codes coding) = asks-none enc before after sent (accepted_by call turn.reply) coding.accepts (elim coding.given [
    | inl giving ↦ ap (λ (m : Moment T O). length m.decisions) giving.then
    | inr hiding ↦ ap (λ (m : Moment T O). length m.decisions) hiding.then
  ])

-- ---- of calls and turns

module _ {T O : Type 0} (enc : EncoderConfig) (whole : List Decision) (calls : List (Call T O)) (turns : List (Turn T O)) (looks : 1 ≤ enc.speed_settings.rdo_lookahead_frames)
    (are : AreTurns enc whole calls turns) (call : Call T O) (turn : Turn T O) (is : IsTurn enc whole (moment_after enc whole calls turns) call turn)
    (kept : (moment_after enc whole calls turns).decisions
    ≡ take (length (moment_after enc whole calls turns).decisions) (after_turn enc whole (moment_after enc whole calls turns) call turn).decisions) where
  abbrev before : Moment T O
  before = moment_after enc whole calls turns

  abbrev after : Moment T O
  after = after_turn enc whole before call turn

  abbrev sent : List (Accepted T O)
  sent = accepted_in calls turns

  abbrev more : List (Accepted T O)
  more = accepted_by call turn.reply

  abbrev mode : SceneDetectionSpeed
  mode = enc.speed_settings.scene_detection_mode

  abbrev made : List Decision
  made = made_in before after

  pushed : accepted_in (calls ++ call ∷ []) (turns ++ turn ∷ []) ≡ sent ++ more
  pushed = accepted-push calls turns call turn (history-after enc whole calls turns are).same_length

  sound_before : IsSound enc whole before sent (commands_of turns)
  sound_before = (history-after enc whole calls turns are).history.sound

  sound_after : IsSound enc whole after (sent ++ more) (commands_of (turns ++ turn ∷ []))
  sound_after = subst (λ (l : List (Accepted T O)). IsSound enc whole after l (commands_of (turns ++ turn ∷ []))) pushed
      (history-turn enc whole before calls turns call turn (history-after enc whole calls turns are) is).history.sound

  asks : AsksMore enc before after sent more
  asks = asks-view enc whole before sent (commands_of turns) sound_before (late-after enc whole calls turns looks are) call turn after (view enc whole before call turn is)

  grown : after.decisions ≡ before.decisions ++ made
  grown = sym (take-append-drop (length before.decisions) after.decisions) ∙ ap (λ (l : List Decision). l ++ made) (sym kept)

  placed : ArePlaced (1 + length before.decisions) made
  placed = placed-drop 1 (length before.decisions) after.decisions sound_after.are.positions

  total : length after.decisions ≡ length before.decisions + length made
  total = ap (λ (l : List Decision). length l) grown ∙ length-append before.decisions made

  -- the questions before it
  old_ones : flat_map (question mode (frames_near enc (sent ++ more)) after.decisions) before.decisions ≡ questions enc sent before.decisions
  old_ones = questions-agree mode (frames_near enc (sent ++ more)) (frames_near enc sent) after.decisions before.decisions before.decisions 1
      sound_before.are.positions asks.kept
      (λ p low high. ap (λ (l : List Decision). last_key l p) grown ∙ last_key-later before.decisions made p (1 + length before.decisions) placed (omega arith))

  -- and its own
  new_ones : flat_map (question mode (frames_near enc (sent ++ more)) after.decisions) made ≡ flat_map (question mode (frames_from after) after.decisions) made
  new_ones = questions-agree mode (frames_near enc (sent ++ more)) (frames_from after) after.decisions after.decisions made (1 + length before.decisions)
      placed
      (λ p low high. waiting-near enc after (sent ++ more) p sound_after.frames (asks.late p low (within p high)) (asks.few p low (within p high)))
      (λ p low high. refl)
    where
      within : (p : ℕ) → p < 1 + length before.decisions + length made → p < 1 + length after.decisions
      within p high = omega (arith, total)

  pub asked-turn : questions enc (accepted_in (calls ++ call ∷ []) (turns ++ turn ∷ [])) after.decisions
      ≡ questions enc sent before.decisions ++ flat_map (question mode (frames_from after) after.decisions) made
  asked-turn =
      ap (λ (l : List (Accepted T O)). questions enc l after.decisions) pushed
      ∙ ap (flat_map (question mode (frames_near enc (sent ++ more)) after.decisions)) grown
      ∙ flat_map-append (question mode (frames_near enc (sent ++ more)) after.decisions) before.decisions made
      ∙ ap₂ (λ (a b : List (Asked T)). a ++ b) old_ones new_ones
