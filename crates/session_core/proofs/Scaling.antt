-- For which frames mean scales are asked, turn by turn and as they were sent.
use Rattle.std.proofs.Common.{◌≡◌, ℕ, ◌<◌, ◌≤◌, Bool, not, List, [], ◌∷◌, ◌++◌, map, filter, length, All, Option, Some, None, ℤ, IfSome, option_map, option_to_list, slice_get, refl, sym, ap, ap₂, ◌∙◌, subst, append_assoc, append-nil, arith}
use Rattle.std.specs.List.{flat_map}
use Rattle.std.proofs.lemmas.List.{map-append}
use Rattle.std.proofs.lemmas.List.Concat.{flat_map-append}
use Rattle.std.proofs.lemmas.List.Elements.{All-nil, All-append, filter-append}
use Rattle.coding_base.specs.Runs.{Runs, after_calls}
use Rattle.coding_base.proofs.RunLemmas.{after-append}
use Rattle.av1_frame.specs.declared.frame.Frame.{Frame}
use Rattle.av1_settings.specs.declared.encoder.EncoderConfig.{EncoderConfig}
use Rattle.pyramid.specs.declared.command.Command.{Command}
use Rattle.pyramid.specs.declared.command.Command.TheVariants.{Code, Show}
use Rattle.pyramid.specs.Known.{is_coding}
use Rattle.session_log.specs.declared.entry.LogEntry.{LogEntry}
use Rattle.session_core.specs.declared.call.Call.{Call}
use Rattle.session_core.specs.declared.transcript.Decision.{Decision}
use Rattle.session_core.specs.declared.transcript.Turn.{Turn}
use Rattle.session_core.specs.Answers.{Codes as IsCodedNext}
use Rattle.session_core.specs.Moments.{Accepted, Waiting, Moment, opening, waiting_at, plan_at}
use Rattle.session_core.specs.Scales.{AreScaled, clamped, frame_of, frames_of, picture_at, scales_of}
use Rattle.session_core.specs.Sessions.{AreTurns, moment_after, accepted_by, accepted_in, entries_of, picture_sent}
use Rattle.session_core.specs.Told.{Scaled, ScalesTold}
use Rattle.session_core.specs.Turns.{real_entries, after_turn, IsTurn}
use Rattle.session_core.proofs.Along.{runs-along}
use Rattle.session_core.proofs.Decided.{frame_of as frame_waiting, slice_get-front, waiting_at-sent}
use Rattle.session_core.proofs.History.{command_list}
use Rattle.session_core.proofs.RunHistory.{HasHistory, history-none, history-turn, history-after, accepted-push, entries-push}
use Rattle.session_core.proofs.Sound.{IsSound, can}
use Rattle.session_core.proofs.Steps.{TurnView, view}
use Rattle.session_core.proofs.Steps.TurnView.{Stays, Accepts, Ends, Codes}
use Rattle.session_core.proofs.Telling.{grew-none, grew-then}
use Rattle.session_core.proofs.Widen.{widen-turn}

-- ---- of more entries

real-append : (a b : List LogEntry) → real_entries (a ++ b) ≡ real_entries a ++ real_entries b
real-append a b = filter-append (λ (entry : LogEntry). not entry.trial) a b

pub scales-append : (a b : List LogEntry) → scales_of (a ++ b) ≡ scales_of a ++ scales_of b
scales-append a b =
    ap scales_in (real-append a b)
    ∙ ap (λ (l : List LogEntry). map scale_of l) (filter-append is_coded (real_entries a) (real_entries b))
    ∙ map-append scale_of (filter is_coded (real_entries a)) (filter is_coded (real_entries b))
  where
    is_coded : LogEntry → Bool
    is_coded entry = is_coding entry.command

    scale_of : LogEntry → ℤ
    scale_of entry = entry.mean_scale

    scales_in : List LogEntry → List ℤ
    scales_in real = map scale_of (filter is_coded real)

pub frames-append : {T : Type 0} (pictures : ℕ → Option (Frame T)) (a b : List LogEntry) →
    frames_of pictures (a ++ b) ≡ frames_of pictures a ++ frames_of pictures b
frames-append {T} pictures a b =
    ap (λ (l : List LogEntry). flat_map (λ (entry : LogEntry). frame_of pictures entry.command) l) (real-append a b)
    ∙ flat_map-append (λ (entry : LogEntry). frame_of pictures entry.command) (real_entries a) (real_entries b)

-- ---- of more questions

-- an answer is the one that was told ahead
abbrev IsAnswered : {T : Type 0} → Option (ℕ → ℤ) → Scaled T → Type 0
IsAnswered answers one = IfSome answers (λ at. one.answer ≡ at one.number)

pub scaled-none : {T : Type 0} (told : ScalesTold T) → AreScaled [] [] told told
scaled-none told = record {
  taken = [];
  grew = grew-none told.frames;
  frames = refl;
  used = refl;
  ahead = All-nil (IsAnswered told.answers);
  answers = refl;
}

pub scaled-then : {T : Type 0} (a : List (ℕ × Frame T)) (s : List ℤ) (before now : ScalesTold T) (b : List (ℕ × Frame T)) (t : List ℤ) (then : ScalesTold T) →
    AreScaled a s before now → AreScaled b t now then → AreScaled (a ++ b) (s ++ t) before then
scaled-then {T} a s before now b t then first second = record {
  taken = first.taken ++ second.taken;
  grew = grew-then before.frames now.frames then.frames first.taken second.taken first.grew second.grew;
  frames =
      map-append (λ (one : Scaled T). (one.number, one.picture)) first.taken second.taken
      ∙ ap₂ (λ (x y : List (ℕ × Frame T)). x ++ y) first.frames second.frames;
  used =
      map-append (λ (one : Scaled T). clamped one.answer) first.taken second.taken
      ∙ ap₂ (λ (x y : List ℤ). x ++ y) first.used second.used;
  ahead = All-append (IsAnswered before.answers) first.taken second.taken first.ahead
      (subst (λ (answers : Option (ℕ → ℤ)). All (IsAnswered answers) second.taken) first.answers second.ahead);
  answers = second.answers ∙ first.answers;
}

-- ---- turn by turn

-- each entry at the moment before its turn
abbrev pub scaled_turns : {T O : Type 0} → EncoderConfig → List Decision → Moment T O → List (Call T O) → List (Turn T O) → List (ℕ × Frame T)
scaled_turns enc decisions moment [] turns = []
scaled_turns enc decisions moment (call ∷ calls) [] = []
scaled_turns enc decisions moment (call ∷ calls) (turn ∷ turns) =
    frames_of (picture_at moment) turn.log ++ scaled_turns enc decisions (after_turn enc decisions moment call turn) calls turns

-- one more call and its turn
pushed_from : {T O : Type 0} (enc : EncoderConfig) (decisions : List Decision) (moment : Moment T O) (done : List (Call T O)) (turns : List (Turn T O)) (call : Call T O) (turn : Turn T O) →
    length turns ≡ length done →
    scaled_turns enc decisions moment (done ++ call ∷ []) (turns ++ turn ∷ [])
    ≡ scaled_turns enc decisions moment done turns ++ frames_of (picture_at (after_calls (after_turn enc decisions) moment done turns)) turn.log
pushed_from enc decisions moment [] [] call turn same = append-nil (frames_of (picture_at moment) turn.log)
pushed_from enc decisions moment [] (other ∷ turns) call turn same = absurd (omega arith)
pushed_from enc decisions moment (first ∷ done) [] call turn same = absurd (omega arith)
pushed_from {T} {O} enc decisions moment (first ∷ done) (other ∷ turns) call turn same =
    let next = after_turn enc decisions moment first other in
    ap (λ (l : List (ℕ × Frame T)). frames_of (picture_at moment) other.log ++ l) (pushed_from enc decisions next done turns call turn (omega arith))
    ∙ sym (append_assoc (frames_of (picture_at moment) other.log) (scaled_turns enc decisions next done turns)
    (frames_of (picture_at (after_calls (after_turn enc decisions) next done turns)) turn.log))

pub scaled_turns-push : {T O : Type 0} (enc : EncoderConfig) (decisions : List Decision) (done : List (Call T O)) (turns : List (Turn T O)) (call : Call T O) (turn : Turn T O) →
    length turns ≡ length done →
    scaled_turns enc decisions opening (done ++ call ∷ []) (turns ++ turn ∷ [])
    ≡ scaled_turns enc decisions opening done turns ++ frames_of (picture_at (moment_after enc decisions done turns)) turn.log
scaled_turns-push enc decisions done turns call turn same = pushed_from enc decisions opening done turns call turn same

-- decisions at the end of the list that aren't made yet change nothing
widened_from : {T O : Type 0} (enc : EncoderConfig) (decisions : List Decision) (moment : Moment T O) (done : List (Call T O)) (turns : List (Turn T O)) (new : List Decision) →
    Runs (IsTurn enc decisions) (after_turn enc decisions) moment done turns →
    scaled_turns enc (decisions ++ new) moment done turns ≡ scaled_turns enc decisions moment done turns
widened_from enc decisions moment [] turns new are = refl
widened_from enc decisions moment (call ∷ done) [] new are = refl
widened_from {T} {O} enc decisions moment (call ∷ done) (turn ∷ turns) new are =
    ap (λ (m : Moment T O). frames_of (picture_at moment) turn.log ++ scaled_turns enc (decisions ++ new) m done turns) (widen-turn enc decisions new moment call turn are.0).1
    ∙ ap (λ (l : List (ℕ × Frame T)). frames_of (picture_at moment) turn.log ++ l) (widened_from enc decisions (after_turn enc decisions moment call turn) done turns new are.1)

pub widen-scaled : {T O : Type 0} (enc : EncoderConfig) (decisions : List Decision) (done : List (Call T O)) (turns : List (Turn T O)) (new : List Decision) →
    AreTurns enc decisions done turns →
    scaled_turns enc (decisions ++ new) opening done turns ≡ scaled_turns enc decisions opening done turns
widen-scaled enc decisions done turns new are = widened_from enc decisions opening done turns new are

-- ---- as the frames were sent

module _ {T O : Type 0} (enc : EncoderConfig) (decisions : List Decision) (moment : Moment T O) (sent : List (Accepted T O)) (commands : List Command) (sound : IsSound enc decisions moment sent commands) where
  -- the frame of the next command waits as it was sent, however many are sent later
  frame-next : (more : List (Accepted T O)) (command : Command) → slice_get (plan_at enc moment) moment.commands ≡ Some command →
      frame_of (picture_at moment) command ≡ frame_of (picture_sent (sent ++ more)) command
  frame-next more (Show slot) is = refl
  frame-next more (Code frame kind refs refresh shown) is =
      ap (λ (o : Option (Frame T)). option_to_list (option_map (λ picture. (frame, picture)) o)) picture
    where
      -- it is after the last packet, and among those sent
      there : (moment.packets ≤ frame) × (frame < moment.accepted)
      there = can enc decisions moment sent commands sound (Code frame kind refs refresh shown) is

      by_frame : (o : Option (Waiting T O)) → option_map (λ waiting. waiting.frame.picture) o ≡ option_map (λ accepted. accepted.picture) (option_map frame_waiting o)
      by_frame None = refl
      by_frame (Some one) = refl

      picture : picture_at moment frame ≡ picture_sent (sent ++ more) frame
      picture =
          by_frame (waiting_at moment frame)
          ∙ ap (λ (o : Option (Accepted T O)). option_map (λ accepted. accepted.picture) o)
          (waiting_at-sent moment sent frame sound.frames there.0
          ∙ sym (slice_get-front sent more frame (subst (λ (n : ℕ). frame < n) sound.accepted there.1)))

  -- so do all frames that a turn codes
  nothing_coded : (log : List LogEntry) (at then : ℕ → Option (Frame T)) → log ≡ [] → frames_of at log ≡ frames_of then log
  nothing_coded log at then none = ap (frames_of at) none ∙ sym (ap (frames_of then) none)

  one_coded : (log : List LogEntry) (entry : LogEntry) (at then : ℕ → Option (Frame T)) → real_entries log ≡ entry ∷ [] →
      frame_of at entry.command ≡ frame_of then entry.command → frames_of at log ≡ frames_of then log
  one_coded log entry at then real same = of at ∙ ap (λ (l : List (ℕ × Frame T)). l ++ []) same ∙ sym (of then)
    where
      of : (pictures : ℕ → Option (Frame T)) → frames_of pictures log ≡ frame_of pictures entry.command ++ []
      of pictures = ap (λ (l : List LogEntry). flat_map (λ (one : LogEntry). frame_of pictures one.command) l) real

  frames-turn : (call : Call T O) (turn : Turn T O) (after : Moment T O) (more : List (Accepted T O)) → TurnView enc decisions moment call turn after →
      frames_of (picture_at moment) turn.log ≡ frames_of (picture_sent (sent ++ (accepted_by call turn.reply ++ more))) turn.log
  frames-turn call turn after more (Stays staying) =
      nothing_coded turn.log (picture_at moment) (picture_sent (sent ++ (accepted_by call turn.reply ++ more))) staying.log
  frames-turn call turn after more (Accepts accepting) =
      nothing_coded turn.log (picture_at moment) (picture_sent (sent ++ (accepted_by call turn.reply ++ more))) accepting.log
  frames-turn call turn after more (Ends ending) =
      nothing_coded turn.log (picture_at moment) (picture_sent (sent ++ (accepted_by call turn.reply ++ more))) ending.log
  frames-turn call turn after more (Codes coding) =
      one_coded turn.log coding.entry (picture_at moment) (picture_sent (sent ++ (accepted_by call turn.reply ++ more))) coding.coded
      (frame-next (accepted_by call turn.reply ++ more) coding.entry.command coding.command)

-- what was asked so far is of the frames as they were sent, however many are sent later
record IsAskedSoFar {T O : Type 0} (enc : EncoderConfig) (decisions : List Decision) (moment : Moment T O) (done : List (Call T O)) (turns : List (Turn T O)) : Type 0 where
  has : HasHistory enc decisions moment done turns
  moment_is : moment ≡ moment_after enc decisions done turns
  says : (more : List (Accepted T O)) → scaled_turns enc decisions opening done turns ≡ frames_of (picture_sent (accepted_in done turns ++ more)) (entries_of turns)

asked_turn : {T O : Type 0} (enc : EncoderConfig) (decisions : List Decision) (moment : Moment T O) (done : List (Call T O)) (turns : List (Turn T O)) (call : Call T O) (turn : Turn T O) →
    IsAskedSoFar enc decisions moment done turns → IsTurn enc decisions moment call turn →
    IsAskedSoFar enc decisions (after_turn enc decisions moment call turn) (done ++ call ∷ []) (turns ++ turn ∷ [])
asked_turn {T} {O} enc decisions moment done turns call turn so_far is = record {
  has = history-turn enc decisions moment done turns call turn so_far.has is;
  moment_is =
      ap (λ (m : Moment T O). after_turn enc decisions m call turn) so_far.moment_is
      ∙ sym (after-append (IsTurn enc decisions) (after_turn enc decisions) opening done turns (call ∷ []) (turn ∷ []) so_far.has.same_length);
  says = λ more.
      scaled_turns-push enc decisions done turns call turn so_far.has.same_length
      ∙ ap (λ (m : Moment T O). scaled_turns enc decisions opening done turns ++ frames_of (picture_at m) turn.log) (sym so_far.moment_is)
      ∙ ap₂ (λ (x y : List (ℕ × Frame T)). x ++ y) (so_far.says (accepted_by call turn.reply ++ more))
      (frames-turn enc decisions moment (accepted_in done turns) (command_list (real_entries (entries_of turns))) so_far.has.history.sound call turn
      (after_turn enc decisions moment call turn) more (view enc decisions moment call turn is))
      ∙ sym (frames-append (picture_sent (accepted_in done turns ++ (accepted_by call turn.reply ++ more))) (entries_of turns) turn.log)
      ∙ ap₂ (λ (s : List (Accepted T O)) (e : List LogEntry). frames_of (picture_sent s) e)
      (sym (ap (λ (s : List (Accepted T O)). s ++ more) (accepted-push done turns call turn so_far.has.same_length)
      ∙ append_assoc (accepted_in done turns) (accepted_by call turn.reply) more))
      (sym (entries-push turns turn));
}

asked_after : {T O : Type 0} (enc : EncoderConfig) (decisions : List Decision) (done : List (Call T O)) (turns : List (Turn T O)) →
    AreTurns enc decisions done turns → IsAskedSoFar enc decisions (moment_after enc decisions done turns) done turns
asked_after {T} {O} enc decisions done turns are =
    runs-along (IsTurn enc decisions) (after_turn enc decisions) (IsAskedSoFar enc decisions)
    (λ m before answered call turn so_far is. asked_turn enc decisions m before answered call turn so_far is)
    opening [] [] done turns (record { has = history-none enc decisions; moment_is = refl; says = λ more. refl }) are

-- what is asked turn by turn is of the frames as they were sent
pub scaled-all : {T O : Type 0} (enc : EncoderConfig) (decisions : List Decision) (done : List (Call T O)) (turns : List (Turn T O)) →
    AreTurns enc decisions done turns →
    scaled_turns enc decisions opening done turns ≡ frames_of (picture_sent (accepted_in done turns)) (entries_of turns)
scaled-all {T} {O} enc decisions done turns are =
    (asked_after enc decisions done turns are).says []
    ∙ ap (λ (s : List (Accepted T O)). frames_of (picture_sent s) (entries_of turns)) (append-nil (accepted_in done turns))

-- so is what is asked for the next command
pub scaled-next : {T O : Type 0} (enc : EncoderConfig) (decisions : List Decision) (done : List (Call T O)) (turns : List (Turn T O)) (number : ℕ) (command : Command) →
    AreTurns enc decisions done turns → IsCodedNext enc (moment_after enc decisions done turns) number command →
    frame_of (picture_at (moment_after enc decisions done turns)) command ≡ frame_of (picture_sent (accepted_in done turns)) command
scaled-next {T} {O} enc decisions done turns number command are due =
    frame-next enc decisions (moment_after enc decisions done turns) (accepted_in done turns) (command_list (real_entries (entries_of turns)))
    (history-after enc decisions done turns are).history.sound [] command
    (ap (slice_get (plan_at enc (moment_after enc decisions done turns))) due.next ∙ due.command_of)
    ∙ ap (λ (s : List (Accepted T O)). frame_of (picture_sent s) command) (append-nil (accepted_in done turns))
