-- A list of decisions with more at its end gives the same turns and moments.
use Rattle.std.proofs.Common.{◌≡◌, ℕ, ◌+◌, ◌≤◌, Bool, true, None, min, List, [], ◌∷◌, ◌++◌, length, take, refl, sym, ap, ◌∙◌, subst, arith}
use Rattle.std.specs.List.{flat_map}
use Rattle.std.proofs.lemmas.List.{length-take, take-append-le}
use Rattle.coding_base.specs.Runs.{Runs}
use Rattle.coding_base.proofs.RunLemmas.{runs-same}
use Rattle.av1_settings.specs.declared.encoder.EncoderConfig.{EncoderConfig}
use Rattle.pyramid.specs.Settings.{numbers_of}
use Rattle.session_core.specs.declared.call.Call.{Call}
use Rattle.session_core.specs.declared.call.Call.TheVariants.{Send, Flush, Receive}
use Rattle.session_core.specs.declared.transcript.Decision.{Decision}
use Rattle.session_core.specs.declared.transcript.Reply.{Reply}
use Rattle.session_core.specs.declared.transcript.Reply.TheVariants.{Sent, Flushed, Packet as GivesPacket, Status}
use Rattle.session_core.specs.declared.transcript.Turn.{Turn}
use Rattle.session_core.specs.Decisions.{decided_count, decisions_at}
use Rattle.session_core.specs.Moments.{Accepted, Moment, opening}
use Rattle.session_core.specs.Sessions.{AreTurns, moment_after}
use Rattle.session_core.specs.Taken.{handed_at}
use Rattle.session_core.specs.Told.{Handed}
use Rattle.session_core.specs.Turns.{accepted_of, after_send, after_flush, Decides, after_turn, IsTurn}
use Rattle.session_core.proofs.Taken.{handed_turns}

-- the first of them, where there are enough
same-first : {A : Type 0} (count : ℕ) (whole more : List A) → length (take count whole) ≡ count → take count (whole ++ more) ≡ take count whole
same-first count whole more full = take-append-le count whole more (enough count (length whole) (sym full ∙ length-take count whole))
  where
    enough : (n m : ℕ) → n ≡ min n m → n ≤ m
    enough n m e = omega arith

same-decisions : (enc : EncoderConfig) (whole more : List Decision) (accepted : ℕ) (flushed : Bool) →
    length (decisions_at (numbers_of enc) whole accepted flushed) ≡ decided_count (numbers_of enc) accepted flushed →
    decisions_at (numbers_of enc) (whole ++ more) accepted flushed ≡ decisions_at (numbers_of enc) whole accepted flushed
same-decisions enc whole more accepted flushed full = same-first (decided_count (numbers_of enc) accepted flushed) whole more full

module _ {T O : Type 0} (enc : EncoderConfig) (whole more : List Decision) where
  same-flush : (moment : Moment T O) → Decides enc moment (after_flush enc whole moment) → after_flush enc (whole ++ more) moment ≡ after_flush enc whole moment
  same-flush moment decides =
      ap (λ (d : List Decision). record moment { flushed = true; decisions = d }) (same-decisions enc whole more moment.accepted true decides.count)

  same-send : (moment : Moment T O) (frame : Accepted T O) (reply : Reply T O) → Decides enc moment (after_send enc whole moment frame reply) →
      after_send enc (whole ++ more) moment frame reply ≡ after_send enc whole moment frame reply
  same-send moment frame (Sent number) decides =
      let with_decisions : List Decision → Moment T O = λ d. record moment {
        accepted = moment.accepted + 1;
        waiting = moment.waiting ++ record { frame = frame; coded = None } ∷ [];
        decisions = d;
      } in
      ap with_decisions (same-decisions enc whole more (moment.accepted + 1) moment.flushed decides.count)
  same-send moment frame Flushed decides = refl
  same-send moment frame (GivesPacket packet) decides = refl
  same-send moment frame (Status status) decides = refl

  -- each turn is one of the longer list, with the same moment after it
  pub widen-turn : (moment : Moment T O) (call : Call T O) (turn : Turn T O) → IsTurn enc whole moment call turn →
      IsTurn enc (whole ++ more) moment call turn × (after_turn enc (whole ++ more) moment call turn ≡ after_turn enc whole moment call turn)
  widen-turn moment (Send frame parameters) turn is =
      let same = same-send moment (accepted_of frame.value parameters) turn.reply is.1 in
      ((is.0, subst (Decides enc moment) (sym same) is.1), same)
  widen-turn moment Flush turn is =
      let same = same-flush moment is.1 in
      ((is.0, subst (Decides enc moment) (sym same) is.1), same)
  widen-turn moment Receive turn is = (is, refl)

  pub widen : (calls : List (Call T O)) (turns : List (Turn T O)) → AreTurns enc whole calls turns →
      AreTurns enc (whole ++ more) calls turns × (moment_after enc (whole ++ more) calls turns ≡ moment_after enc whole calls turns)
  widen calls turns are =
      runs-same (IsTurn enc whole) (IsTurn enc (whole ++ more)) (after_turn enc whole) (after_turn enc (whole ++ more)) widen-turn opening calls turns are

  -- so the same is handed over
  handed-from : (moment : Moment T O) (calls : List (Call T O)) (turns : List (Turn T O)) → Runs (IsTurn enc whole) (after_turn enc whole) moment calls turns →
      handed_turns enc (whole ++ more) moment calls turns ≡ handed_turns enc whole moment calls turns
  handed-from moment [] turns are = refl
  handed-from moment (call ∷ calls) [] are = refl
  handed-from moment (call ∷ calls) (turn ∷ turns) are =
      ap (λ (m : Moment T O). flat_map (handed_at moment) turn.log ++ handed_turns enc (whole ++ more) m calls turns) (widen-turn moment call turn are.0).1
      ∙ ap (λ (l : List (Handed T)). flat_map (handed_at moment) turn.log ++ l) (handed-from (after_turn enc whole moment call turn) calls turns are.1)

  pub widen-handed : (calls : List (Call T O)) (turns : List (Turn T O)) → AreTurns enc whole calls turns →
      handed_turns enc (whole ++ more) opening calls turns ≡ handed_turns enc whole opening calls turns
  widen-handed calls turns are = handed-from opening calls turns are
