-- What follows from 'each turn is as the reply table says', for the calls of a session and its turns.
use Rattle.std.proofs.Common.{◌≡◌, ℕ, ◌≤◌, List, [], ◌∷◌, ◌++◌, length, take}
use Rattle.std.specs.List.{flat_map}
use Rattle.av1_settings.specs.declared.encoder.EncoderConfig.{EncoderConfig}
use Rattle.pyramid.specs.declared.command.Command.{Command}
use Rattle.pyramid.specs.Display.{empty_slots}
use Rattle.session_core.specs.declared.call.Call.{Call}
use Rattle.session_core.specs.declared.transcript.Decision.{Decision}
use Rattle.session_log.specs.declared.entry.LogEntry.{LogEntry}
use Rattle.session_core.specs.declared.transcript.Transcript.{Transcript}
use Rattle.session_core.specs.declared.transcript.Turn.{Turn}
use Rattle.session_core.specs.Answers.{Codes}
use Rattle.session_core.specs.Moments.{opening, plan_at}
use Rattle.session_core.specs.Questions.{questions, questions_in}
use Rattle.session_core.specs.Sessions.{AreTurns, moment_after, accepted_in, entries_of, commands_of, AreKeyDecisions, Headline, KeepsSchedule, handed_entries}
use Rattle.session_core.specs.States.{IsReady}
use Rattle.session_core.specs.Taken.{handed_at}
use Rattle.session_core.specs.Turns.{after_turn, BeginTrials, IsTurn}
pub use Rattle.session_core.proofs.Taken.{handed_turns}
use Rattle.session_core.proofs.HeadlineLaw.{headline-after, decided-keys}
use Rattle.session_core.proofs.Lookahead.{ready-after}
use Rattle.session_core.proofs.RunHistory.{commands-first, commands-counted}
use Rattle.session_core.proofs.Schedules.{keeps-schedule}
use Rattle.session_core.proofs.Asked as Asked
use Rattle.session_core.proofs.Taken as Taken
use Rattle.session_core.proofs.Widen as Widen

-- one more call and its turn
pub handed_turns-push : {T O : Type 0} (enc : EncoderConfig) (decisions : List Decision) (calls : List (Call T O)) (turns : List (Turn T O)) (call : Call T O) (turn : Turn T O) →
    length turns ≡ length calls →
    handed_turns enc decisions opening (calls ++ call ∷ []) (turns ++ turn ∷ [])
    ≡ handed_turns enc decisions opening calls turns ++ flat_map (handed_at (moment_after enc decisions calls turns)) turn.log
handed_turns-push enc decisions calls turns call turn same = Taken.handed_turns-push enc decisions opening calls turns call turn same

module _ {T O : Type 0} (enc : EncoderConfig) (decisions : List Decision) (calls : List (Call T O)) (turns : List (Turn T O)) where
  -- the next call finds what it needs
  pub ready-of : 1 ≤ enc.speed_settings.rdo_lookahead_frames → AreTurns enc decisions calls turns → IsReady enc (moment_after enc decisions calls turns)
  ready-of looks are = ready-after enc decisions calls turns looks are

  -- the commands coded are the plan's first ones
  pub on-plan : AreTurns enc decisions calls turns →
      (commands_of turns ≡ take (moment_after enc decisions calls turns).commands (plan_at enc (moment_after enc decisions calls turns)))
      × (length (commands_of turns) ≡ (moment_after enc decisions calls turns).commands)
  on-plan are = (commands-first enc decisions calls turns are, commands-counted enc decisions calls turns are)

  pub headline-of : AreTurns enc decisions calls turns → Headline enc decisions calls turns
  headline-of are = headline-after enc decisions calls turns are

  -- the decisions made by the end are of their positions, with their frames' marks
  pub keys-of : AreTurns enc decisions calls turns → decisions ≡ (moment_after enc decisions calls turns).decisions →
      AreKeyDecisions (accepted_in calls turns) decisions
  keys-of are all = decided-keys enc decisions calls turns are all

  -- a call's questions join those before it
  pub asked-turn : 1 ≤ enc.speed_settings.rdo_lookahead_frames → AreTurns enc decisions calls turns → (call : Call T O) (turn : Turn T O) →
      IsTurn enc decisions (moment_after enc decisions calls turns) call turn →
      (moment_after enc decisions calls turns).decisions
      ≡ take (length (moment_after enc decisions calls turns).decisions) (after_turn enc decisions (moment_after enc decisions calls turns) call turn).decisions →
      questions enc (accepted_in (calls ++ call ∷ []) (turns ++ turn ∷ [])) (after_turn enc decisions (moment_after enc decisions calls turns) call turn).decisions
      ≡ questions enc (accepted_in calls turns) (moment_after enc decisions calls turns).decisions
      ++ questions_in enc (moment_after enc decisions calls turns) (after_turn enc decisions (moment_after enc decisions calls turns) call turn)
  asked-turn looks are call turn is kept = Asked.asked-turn enc decisions calls turns looks are call turn is kept

  -- what is handed turn by turn is what the display machine says
  pub handed-all : AreTurns enc decisions calls turns →
      handed_turns enc decisions opening calls turns ≡ handed_entries (accepted_in calls turns) empty_slots (entries_of turns)
  handed-all are = Taken.handed-all enc decisions calls turns are

  -- also with what was tried for the next command
  pub handed-tried : (number : ℕ) (command : Command) (trials : List LogEntry) → AreTurns enc decisions calls turns →
      Codes enc (moment_after enc decisions calls turns) number command → BeginTrials enc (moment_after enc decisions calls turns) command trials →
      handed_turns enc decisions opening calls turns ++ flat_map (handed_at (moment_after enc decisions calls turns)) trials
      ≡ handed_entries (accepted_in calls turns) empty_slots (entries_of turns ++ trials)
  handed-tried number command trials are due tried = Taken.handed-tried enc decisions calls turns number command trials are due tried

  -- decisions at the end of the list that aren't made yet change nothing
  pub widen : (more : List Decision) → AreTurns enc decisions calls turns →
      AreTurns enc (decisions ++ more) calls turns × (moment_after enc (decisions ++ more) calls turns ≡ moment_after enc decisions calls turns)
  widen more are = Widen.widen enc decisions more calls turns are

  pub widen-handed : (more : List Decision) → AreTurns enc decisions calls turns →
      handed_turns enc (decisions ++ more) opening calls turns ≡ handed_turns enc decisions opening calls turns
  widen-handed more are = Widen.widen-handed enc decisions more calls turns are

-- other calls between the same frames, with the same decisions, give the same commands as far as both go
pub schedule-of : {T O : Type 0} (enc : EncoderConfig) (calls : List (Call T O)) (transcript : Transcript T O) → AreTurns enc transcript.decisions calls transcript.turns →
    transcript.decisions ≡ (moment_after enc transcript.decisions calls transcript.turns).decisions → KeepsSchedule enc calls transcript
schedule-of enc calls transcript are decided = keeps-schedule enc calls transcript are decided
