-- The reply table of a session in two passes: its calls are those of a session in one pass, and two that hand pass data over. A
-- receive waits while pass data is missing.
use Rattle.std.specs.Prelude.{◌≡◌, ℕ, Bool, true, false, not, ◌&&◌, is_none, if◌then◌else◌, MatchBool, MatchOption, List, [], ◌∷◌, map, Option, None, Some}
use Rattle.coding_base.specs.Runs.{Runs, after_calls}
use Rattle.av1_settings.specs.declared.encoder.EncoderConfig.{EncoderConfig}
use Rattle.av1_settings.specs.declared.rate_control.RateControlConfig.{RateControlConfig}
use Rattle.av1_settings.specs.declared.status.EncoderStatus.TheVariants.{NotReady}
use Rattle.pass_data.specs.declared.rc_data.RcData.{RcData}
use Rattle.pass_data.specs.declared.rc_data.RcData.TheVariants.{Frame as OfFrame, Summary as OfSummary}
use Rattle.pass_stats.specs.Metric.{Metric}
use Rattle.pass_stats.specs.declared.metrics.RCFrameMetrics.{RCFrameMetrics}
use Rattle.quantizers.specs.Tables.{Tables}
use Rattle.ratecontrol.specs.Passes.{IsSummaryOf, frame_emitted, given_out, gives_frame, gives_summary, is_ready}
use Rattle.ratecontrol.specs.Rate.{Rate}
use Rattle.session_log.specs.Passes.{Passes, first_begun, no_passes, packet_sent, passes_of, rate_at, second_begun}
use Rattle.session_log.specs.Selection.{reservoir_after}
use Rattle.session_core.specs.declared.call.Call.{Call}
use Rattle.session_core.specs.declared.call.Call.TheVariants.{Receive}
use Rattle.session_core.specs.declared.pass_transcript.PassCall.{PassCall}
use Rattle.session_core.specs.declared.pass_transcript.PassCall.TheVariants.{Call as Plain, Take, Give}
use Rattle.session_core.specs.declared.pass_transcript.PassTurn.{PassTurn}
use Rattle.session_core.specs.declared.pass_transcript.PassTurn.TheVariants.{Turn as Answer, Taken, Given}
use Rattle.session_core.specs.declared.transcript.Decision.{Decision}
use Rattle.session_core.specs.declared.transcript.Reply.{Reply}
use Rattle.session_core.specs.declared.transcript.Reply.TheVariants.{Status}
use Rattle.session_core.specs.declared.transcript.Turn.{Turn}
use Rattle.session_core.specs.Moments.{Moment, is_complete, opening}
use Rattle.session_core.specs.Quantisers.{IsQuantised, gop_start_at, guess_at, passes_behind}
use Rattle.session_core.specs.Turns.{IsTurn, OnlyReplies, after_turn, held_back}

-- a session's moment, and what its passes hand on then
pub record PassMoment (T O : Type 0) : Type 0 where
  pub moment : Moment T O
  pub passes : Passes

-- the state of its rate control
abbrev pub rate_of : {T O : Type 0} → EncoderConfig → PassMoment T O → Rate
rate_of enc at = rate_at enc at.passes at.moment.log

-- ---- the start

-- a first pass is on where pass data is asked for; its base is selected at the start, before any frame
abbrev pub first_of : EncoderConfig → Tables → Bool → Passes
first_of enc tables emits =
    if emits
    then first_begun enc tables no_passes (guess_at {T = Unit {0}} {O = Unit {0}} enc opening) (gop_start_at {T = Unit {0}} {O = Unit {0}} enc opening)
    else no_passes

-- a second one is on where a summary is set, beside a first or by itself
abbrev pub passes_begun : EncoderConfig → Tables → RateControlConfig → Passes
passes_begun enc tables control =
    elim control.summary [
      | None ↦ first_of enc tables control.emit_data
      | Some summary ↦ second_begun enc (first_of enc tables control.emit_data) summary
    ]

abbrev pub pass_opening : {T O : Type 0} → EncoderConfig → Tables → RateControlConfig → PassMoment T O
pass_opening enc tables control = record { moment = opening; passes = passes_begun enc tables control }

-- ---- a call of a session, where its passes may hold it back

-- whether a call waits for pass data: a receive that would code, while the data of the last command wasn't taken, or that of
-- the next isn't there
abbrev pub awaits_data : {T O : Type 0} → EncoderConfig → PassMoment T O → Call T O → Bool
awaits_data enc at Receive = is_none (held_back enc at.moment) && not (is_ready (rate_of enc at))
awaits_data enc at call = false

-- then it codes nothing
pub record IsWaiting {T O : Type 0} (enc : EncoderConfig) (at : PassMoment T O) (turn : Turn T O) : Type 0 where
  pub replies : OnlyReplies turn (Status NotReady)
  pub reservoir : turn.reservoir ≡ reservoir_after enc at.passes at.moment.log

-- else it is answered as in one pass, and codes by the passes' selection
pub record IsGoingOn {T O : Type 0} (enc : EncoderConfig) (tables : Tables) (decisions : List Decision) (at : PassMoment T O) (call : Call T O) (turn : Turn T O) : Type 0 where
  pub answered : IsTurn enc decisions at.moment call turn
  pub quantised : IsQuantised enc tables at.passes at.moment turn

-- the moment after it
abbrev pub after_answer : {T O : Type 0} → EncoderConfig → List Decision → PassMoment T O → Call T O → Turn T O → PassMoment T O
after_answer enc decisions at call turn = record {
  moment = after_turn enc decisions at.moment call turn;
  passes = passes_behind enc at.passes at.moment.log turn.log;
}

-- ---- pass data

-- a session is done once it is flushed and every frame's packet was given
abbrev pub is_done : {T O : Type 0} → Moment T O → Bool
is_done moment = moment.flushed && is_complete moment

abbrev pub IsFrameData : Option RcData → RCFrameMetrics → Type 0
IsFrameData (Some (OfFrame message)) metrics = Metric message.items metrics
IsFrameData message metrics = ⊥

abbrev pub IsSummaryData : Option RcData → Rate → Type 0
IsSummaryData (Some (OfSummary message)) rate = IsSummaryOf rate message.items
IsSummaryData message rate = ⊥

-- what a first pass hands on: the data of the last entry while it waits to be taken, or, once all is done, the summary, once
abbrev pub IsPassData : Bool → Rate → Option RcData → Type 0
IsPassData done rate message =
    MatchBool (gives_frame rate)
    (MatchOption (frame_emitted rate) (message ≡ None) (IsFrameData message))
    (MatchBool (gives_summary done rate) (IsSummaryData message rate) (message ≡ None))

-- it is taken then
abbrev pub after_taken : {T O : Type 0} → EncoderConfig → PassMoment T O → PassMoment T O
after_taken enc at = record at { passes = passes_of (given_out (is_done at.moment) (rate_of enc at)) }

-- what becomes of the metrics of a frame that are given to a second pass
abbrev pub after_given : {T O : Type 0} → EncoderConfig → PassMoment T O → List ℕ → PassMoment T O
after_given enc at message =
    record at { passes = record at.passes { given = (packet_sent enc at.passes at.moment.log message).given } }

-- ---- any call, and a list of them

-- what a call answers at a moment
abbrev pub IsPassTurn : {T O : Type 0} → EncoderConfig → Tables → List Decision → PassMoment T O → PassCall T O → PassTurn T O → Type 0
IsPassTurn enc tables decisions at (Plain call) (Answer turn) =
    MatchBool (awaits_data enc at call) (IsWaiting enc at turn) (IsGoingOn enc tables decisions at call turn)
IsPassTurn enc tables decisions at Take (Taken message) = IsPassData (is_done at.moment) (rate_of enc at) message
IsPassTurn enc tables decisions at (Give message) Given =
    (packet_sent enc at.passes at.moment.log message.items).refused ≡ None
IsPassTurn enc tables decisions at call turn = ⊥

-- the moment after it
abbrev pub after_pass_turn : {T O : Type 0} → EncoderConfig → List Decision → PassMoment T O → PassCall T O → PassTurn T O → PassMoment T O
after_pass_turn enc decisions at (Plain call) (Answer turn) =
    if awaits_data enc at call then at else after_answer enc decisions at call turn
after_pass_turn enc decisions at Take turn = after_taken enc at
after_pass_turn enc decisions at (Give message) turn = after_given enc at message.items
after_pass_turn enc decisions at call turn = at

-- one turn for each call, each as this table says at its moment
abbrev pub ArePassTurns : {T O : Type 0} → EncoderConfig → Tables → RateControlConfig → List Decision → List (PassCall T O) → List (PassTurn T O) → Type 0
ArePassTurns enc tables control decisions calls turns =
    Runs (IsPassTurn enc tables decisions) (after_pass_turn enc decisions) (pass_opening enc tables control) calls turns

-- the moment after all of them
abbrev pub pass_moment_after : {T O : Type 0} → EncoderConfig → Tables → RateControlConfig → List Decision → List (PassCall T O) → List (PassTurn T O) → PassMoment T O
pass_moment_after enc tables control decisions calls turns =
    after_calls (after_pass_turn enc decisions) (pass_opening enc tables control) calls turns

-- ---- what is left of them as a session in one pass

abbrev pub is_not_ready : {T O : Type 0} → Reply T O → Bool
is_not_ready (Status NotReady) = true
is_not_ready reply = false

-- the calls of a session that were answered, with their turns; receives that waited are none of them
abbrev pub answered_in : {T O : Type 0} → List (PassCall T O) → List (PassTurn T O) → List (Call T O × Turn T O)
answered_in (Plain call ∷ calls) (Answer turn ∷ turns) =
    if is_not_ready turn.reply then answered_in calls turns else (call, turn) ∷ answered_in calls turns
answered_in (call ∷ calls) (turn ∷ turns) = answered_in calls turns
answered_in calls turns = []

abbrev pub calls_answered : {T O : Type 0} → List (PassCall T O) → List (PassTurn T O) → List (Call T O)
calls_answered calls turns = map (λ pair. pair.0) (answered_in calls turns)

abbrev pub turns_answered : {T O : Type 0} → List (PassCall T O) → List (PassTurn T O) → List (Turn T O)
turns_answered calls turns = map (λ pair. pair.1) (answered_in calls turns)
