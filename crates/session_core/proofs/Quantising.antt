-- The quantisers of turns: with more decisions at the end of their list, and behind the log of a moment.
use Rattle.std.proofs.Common.{◌≡◌, List, [], ◌∷◌, ◌++◌, refl, sym, ap, ◌∙◌, subst, append_assoc, append-nil}
use Rattle.coding_base.specs.Runs.{after_calls, Runs}
use Rattle.av1_settings.specs.declared.encoder.EncoderConfig.{EncoderConfig}
use Rattle.quantizers.specs.Tables.{Tables}
use Rattle.session_core.specs.declared.call.Call.{Call}
use Rattle.session_core.specs.declared.call.Call.TheVariants.{Send, Flush, Receive}
use Rattle.session_core.specs.declared.transcript.Decision.{Decision}
use Rattle.session_log.specs.Passes.{no_passes}
use Rattle.session_log.specs.declared.entry.LogEntry.{LogEntry}
use Rattle.session_core.specs.declared.transcript.Reply.{Reply}
use Rattle.session_core.specs.declared.transcript.Reply.TheVariants.{Sent, Flushed, Packet as GivesPacket, Status}
use Rattle.session_core.specs.declared.transcript.Turn.{Turn}
use Rattle.session_core.specs.Moments.{Accepted, Moment, opening}
use Rattle.session_core.specs.Quantisers.{IsQuantised}
use Rattle.session_core.specs.Sessions.{AreQuantised, AreTurns, moment_after, entries_of}
use Rattle.session_core.specs.Turns.{accepted_of, after_send, after_receive, after_turn, IsTurn}
use Rattle.session_core.proofs.Widen.{widen-turn}

-- ---- the log of a moment

-- a frame that is sent, or isn't, leaves the log
log_sent : {T O : Type 0} (enc : EncoderConfig) (decisions : List Decision) (moment : Moment T O) (frame : Accepted T O) (reply : Reply T O) →
    (after_send enc decisions moment frame reply).log ≡ moment.log
log_sent enc decisions moment frame (Sent number) = refl
log_sent enc decisions moment frame Flushed = refl
log_sent enc decisions moment frame (GivesPacket packet) = refl
log_sent enc decisions moment frame (Status status) = refl

log_received : {T O : Type 0} (moment : Moment T O) (log : List LogEntry) (reply : Reply T O) → (after_receive moment log reply).log ≡ moment.log ++ log
log_received moment log (Sent number) = refl
log_received moment log Flushed = refl
log_received moment log (GivesPacket packet) = refl
log_received moment log (Status status) = refl

-- each turn adds its entries
log_turn : {T O : Type 0} (enc : EncoderConfig) (decisions : List Decision) (moment : Moment T O) (call : Call T O) (turn : Turn T O) →
    IsTurn enc decisions moment call turn → (after_turn enc decisions moment call turn).log ≡ moment.log ++ turn.log
log_turn enc decisions moment (Send frame parameters) turn is =
    log_sent enc decisions moment (accepted_of frame.value parameters) turn.reply ∙ nothing_more moment.log turn.log is.0.1
  where
    nothing_more : (before log : List LogEntry) → log ≡ [] → before ≡ before ++ log
    nothing_more before log none = sym (ap (λ (l : List LogEntry). before ++ l) none ∙ append-nil before)
log_turn enc decisions moment Flush turn is =
    sym (ap (λ (l : List LogEntry). moment.log ++ l) is.0.1 ∙ append-nil moment.log)
log_turn enc decisions moment Receive turn is = log_received moment turn.log turn.reply

log_from : {T O : Type 0} (enc : EncoderConfig) (decisions : List Decision) (moment : Moment T O) (done : List (Call T O)) (turns : List (Turn T O)) →
    Runs (IsTurn enc decisions) (after_turn enc decisions) moment done turns →
    (after_calls (after_turn enc decisions) moment done turns).log ≡ moment.log ++ entries_of turns
log_from enc decisions moment [] [] are = sym (append-nil moment.log)
log_from enc decisions moment [] (turn ∷ turns) are = absurd are
log_from enc decisions moment (call ∷ done) [] are = absurd are
log_from enc decisions moment (call ∷ done) (turn ∷ turns) are =
    log_from enc decisions (after_turn enc decisions moment call turn) done turns are.1
    ∙ ap (λ (l : List LogEntry). l ++ entries_of turns) (log_turn enc decisions moment call turn are.0)
    ∙ append_assoc moment.log turn.log (entries_of turns)

-- the log of a moment is all entries up to it
pub logged-all : {T O : Type 0} (enc : EncoderConfig) (decisions : List Decision) (done : List (Call T O)) (turns : List (Turn T O)) →
    AreTurns enc decisions done turns → (moment_after enc decisions done turns).log ≡ entries_of turns
logged-all enc decisions done turns are = log_from enc decisions opening done turns are

-- ---- more decisions

-- each turn of the list, at its moment
abbrev QuantisedFrom : {T O : Type 0} → EncoderConfig → Tables → List Decision → Moment T O → List (Call T O) → List (Turn T O) → Type 0
QuantisedFrom enc tables decisions moment done turns =
    Runs (λ moment call turn. IsQuantised enc tables no_passes moment turn) (after_turn enc decisions) moment done turns

quantised_from : {T O : Type 0} (enc : EncoderConfig) (tables : Tables) (decisions : List Decision) (moment : Moment T O) (done : List (Call T O)) (turns : List (Turn T O)) (new : List Decision) →
    Runs (IsTurn enc decisions) (after_turn enc decisions) moment done turns → QuantisedFrom enc tables decisions moment done turns →
    QuantisedFrom enc tables (decisions ++ new) moment done turns
quantised_from enc tables decisions moment [] [] new are quantised = tt
quantised_from enc tables decisions moment [] (turn ∷ turns) new are quantised = absurd are
quantised_from enc tables decisions moment (call ∷ done) [] new are quantised = absurd are
quantised_from {T} {O} enc tables decisions moment (call ∷ done) (turn ∷ turns) new are quantised = (
  quantised.0,
  subst (λ (m : Moment T O). QuantisedFrom enc tables (decisions ++ new) m done turns) (sym (widen-turn enc decisions new moment call turn are.0).1)
      (quantised_from enc tables decisions (after_turn enc decisions moment call turn) done turns new are.1 quantised.1),
)

-- decisions at the end of the list that aren't made yet change nothing
pub widen-quantised : {T O : Type 0} (enc : EncoderConfig) (tables : Tables) (decisions : List Decision) (done : List (Call T O)) (turns : List (Turn T O)) (new : List Decision) →
    AreTurns enc decisions done turns → AreQuantised enc tables decisions done turns → AreQuantised enc tables (decisions ++ new) done turns
widen-quantised enc tables decisions done turns new are quantised = quantised_from enc tables decisions opening done turns new are quantised
