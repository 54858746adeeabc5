-- What was sent, coded and given by a list of calls and its turns.
use Rattle.std.proofs.Common.{◌≡◌, ℕ, ◌+◌, not, inl, inr, List, [], ◌∷◌, ◌++◌, length, take, refl, sym, ap, ◌∙◌, subst, subst₂, append_assoc, append-nil, arith}
use Rattle.std.proofs.lemmas.List.{length_push, length-take-le}
use Rattle.std.proofs.lemmas.List.Concat.{flat_map-append}
use Rattle.std.proofs.lemmas.List.Elements.{filter-append}
use Rattle.av1_settings.specs.declared.encoder.EncoderConfig.{EncoderConfig}
use Rattle.pyramid.specs.declared.command.Command.{Command}
use Rattle.session_core.specs.declared.call.Call.{Call}
use Rattle.session_core.specs.declared.packet.Packet.{Packet}
use Rattle.session_core.specs.declared.transcript.Decision.{Decision}
use Rattle.session_log.specs.declared.entry.LogEntry.{LogEntry}
use Rattle.session_core.specs.declared.transcript.Turn.{Turn}
use Rattle.session_core.specs.Moments.{Accepted, Moment, opening, plan_at}
use Rattle.session_core.specs.Sessions.{AreTurns, moment_after, accepted_by, accepted_in, entries_of, commands_of, packets_of}
use Rattle.session_core.specs.Taken.{packet_of}
use Rattle.session_core.specs.Turns.{real_entries, after_turn, IsTurn}
use Rattle.session_core.proofs.Along.{runs-along}
use Rattle.session_core.proofs.History.{IsHistory, history-opening, history-accept, history-flush, history-entry, history-packet}
use Rattle.session_core.proofs.Sound.{commands-within}
use Rattle.session_core.proofs.Steps.{TurnView, with_frame, with_packet, with_entry, view}
use Rattle.session_core.proofs.Steps.TurnView.{Stays, Accepts, Ends, Codes}

-- ---- one more turn

pub accepted-push : {T O : Type 0} (calls : List (Call T O)) (turns : List (Turn T O)) (call : Call T O) (turn : Turn T O) → length turns ≡ length calls →
    accepted_in (calls ++ call ∷ []) (turns ++ turn ∷ []) ≡ accepted_in calls turns ++ accepted_by call turn.reply
accepted-push [] [] call turn same = append-nil (accepted_by call turn.reply)
accepted-push [] (other ∷ turns) call turn same = absurd (omega arith)
accepted-push (first ∷ calls) [] call turn same = absurd (omega arith)
accepted-push {T} {O} (first ∷ calls) (other ∷ turns) call turn same =
    ap (λ (l : List (Accepted T O)). accepted_by first other.reply ++ l) (accepted-push calls turns call turn (omega arith))
    ∙ sym (append_assoc (accepted_by first other.reply) (accepted_in calls turns) (accepted_by call turn.reply))

pub entries-push : {T O : Type 0} (turns : List (Turn T O)) (turn : Turn T O) → entries_of (turns ++ turn ∷ []) ≡ entries_of turns ++ turn.log
entries-push {T} {O} turns turn =
    flat_map-append (λ (t : Turn T O). t.log) turns (turn ∷ []) ∙ ap (λ (l : List LogEntry). entries_of turns ++ l) (append-nil turn.log)

pub real-push : {T O : Type 0} (turns : List (Turn T O)) (turn : Turn T O) → real_entries (entries_of (turns ++ turn ∷ [])) ≡ real_entries (entries_of turns) ++ real_entries turn.log
real-push turns turn = ap real_entries (entries-push turns turn) ∙ filter-append (λ (entry : LogEntry). not entry.trial) (entries_of turns) turn.log

pub packets-push : {T O : Type 0} (turns : List (Turn T O)) (turn : Turn T O) → packets_of (turns ++ turn ∷ []) ≡ packets_of turns ++ packet_of turn.reply
packets-push {T} {O} turns turn =
    flat_map-append (λ (t : Turn T O). packet_of t.reply) turns (turn ∷ []) ∙ ap (λ (l : List (Packet T O)). packets_of turns ++ l) (append-nil (packet_of turn.reply))

-- ---- every turn keeps the history

module _ {T O : Type 0} (enc : EncoderConfig) (whole : List Decision) (moment : Moment T O) (sent : List (Accepted T O)) (entries : List LogEntry) (packets : List (Packet T O)) (history : IsHistory enc whole moment sent entries packets) where
  -- a history is the same where moment and lists are
  as_it_is : (after then : Moment T O) (more : List (Accepted T O)) (log : List LogEntry) (given : List (Packet T O))
      (more_is : List (Accepted T O)) (log_is : List LogEntry) (given_is : List (Packet T O)) →
      after ≡ then → more ≡ more_is → log ≡ log_is → given ≡ given_is →
      IsHistory enc whole then (sent ++ more_is) (entries ++ log_is) (packets ++ given_is) → IsHistory enc whole after (sent ++ more) (entries ++ log) (packets ++ given)
  as_it_is after then more log given more_is log_is given_is a m l g is =
      subst (λ (x : Moment T O). IsHistory enc whole x (sent ++ more) (entries ++ log) (packets ++ given)) (sym a)
      (subst (λ (x : List (Accepted T O)). IsHistory enc whole then (sent ++ x) (entries ++ log) (packets ++ given)) (sym m)
      (subst₂ (λ (x : List LogEntry) (y : List (Packet T O)). IsHistory enc whole then (sent ++ more_is) (entries ++ x) (packets ++ y)) (sym l) (sym g) is))

  -- nothing more is the same
  nothing_more : (then : Moment T O) → IsHistory enc whole then sent entries packets → IsHistory enc whole then (sent ++ []) (entries ++ []) (packets ++ [])
  nothing_more then is =
      subst (λ (x : List (Accepted T O)). IsHistory enc whole then x (entries ++ []) (packets ++ [])) (sym (append-nil sent))
      (subst₂ (λ (x : List LogEntry) (y : List (Packet T O)). IsHistory enc whole then sent x y) (sym (append-nil entries)) (sym (append-nil packets)) is)

  pub history-step : (call : Call T O) (turn : Turn T O) (after : Moment T O) → TurnView enc whole moment call turn after →
      IsHistory enc whole after (sent ++ accepted_by call turn.reply) (entries ++ real_entries turn.log) (packets ++ packet_of turn.reply)
  history-step call turn after (Stays staying) =
      as_it_is after moment (accepted_by call turn.reply) (real_entries turn.log) (packet_of turn.reply) [] [] []
      staying.stays staying.accepts (ap real_entries staying.log) staying.none (nothing_more moment history)
  history-step call turn after (Accepts accepting) =
      as_it_is after _ (accepted_by call turn.reply) (real_entries turn.log) (packet_of turn.reply) (accepting.frame ∷ []) [] []
      accepting.then accepting.accepts (ap real_entries accepting.log) accepting.none
      (subst₂ (λ (x : List LogEntry) (y : List (Packet T O)). IsHistory enc whole (with_frame enc whole moment accepting.frame) (sent ++ accepting.frame ∷ []) x y) (sym (append-nil entries)) (sym (append-nil packets))
      (history-accept enc whole moment sent entries packets history accepting.frame accepting.open_yet accepting.room accepting.decides))
  history-step call turn after (Ends ending) =
      as_it_is after _ (accepted_by call turn.reply) (real_entries turn.log) (packet_of turn.reply) [] [] []
      ending.then ending.accepts (ap real_entries ending.log) ending.none
      (nothing_more _ (history-flush enc whole moment sent entries packets history ending.decides))
  history-step call turn after (Codes coding) = elim coding.given [
    | inl giving ↦
        as_it_is after _ (accepted_by call turn.reply) (real_entries turn.log) (packet_of turn.reply) [] (coding.entry ∷ []) (giving.packet ∷ [])
        giving.then coding.accepts coding.coded giving.gives
        (subst (λ (x : List (Accepted T O)). IsHistory enc whole (with_packet moment turn.log) x (entries ++ coding.entry ∷ []) (packets ++ giving.packet ∷ [])) (sym (append-nil sent))
        (history-packet enc whole moment sent entries packets history coding.entry coding.due coding.command turn.log giving.shows giving.packet giving.next))
    | inr hiding ↦
        as_it_is after _ (accepted_by call turn.reply) (real_entries turn.log) (packet_of turn.reply) [] (coding.entry ∷ []) []
        hiding.then coding.accepts coding.coded hiding.none
        (subst₂ (λ (x : List (Accepted T O)) (y : List (Packet T O)). IsHistory enc whole (with_entry moment coding.entry turn.log) x (entries ++ coding.entry ∷ []) y) (sym (append-nil sent)) (sym (append-nil packets))
        (history-entry enc whole moment sent entries packets history coding.entry coding.due coding.command turn.log hiding.hides))
  ]

-- ---- of calls and turns

-- a moment has the history of the calls and turns up to it
pub record HasHistory {T O : Type 0} (enc : EncoderConfig) (whole : List Decision) (moment : Moment T O) (calls : List (Call T O)) (turns : List (Turn T O)) : Type 0 where
  pub same_length : length turns ≡ length calls
  pub history : IsHistory enc whole moment (accepted_in calls turns) (real_entries (entries_of turns)) (packets_of turns)

pub history-turn : {T O : Type 0} (enc : EncoderConfig) (whole : List Decision) (moment : Moment T O) (calls : List (Call T O)) (turns : List (Turn T O)) (call : Call T O) (turn : Turn T O) →
    HasHistory enc whole moment calls turns → IsTurn enc whole moment call turn →
    HasHistory enc whole (after_turn enc whole moment call turn) (calls ++ call ∷ []) (turns ++ turn ∷ [])
history-turn {T} {O} enc whole moment calls turns call turn has is = record {
  same_length = length_push turns turn ∙ ap (λ (n : ℕ). n + 1) has.same_length ∙ sym (length_push calls call);
  history =
      subst (λ (x : List (Accepted T O)). IsHistory enc whole (after_turn enc whole moment call turn) x (real_entries (entries_of (turns ++ turn ∷ []))) (packets_of (turns ++ turn ∷ [])))
      (sym (accepted-push calls turns call turn has.same_length))
      (subst₂ (λ (x : List LogEntry) (y : List (Packet T O)). IsHistory enc whole (after_turn enc whole moment call turn) (accepted_in calls turns ++ accepted_by call turn.reply) x y)
      (sym (real-push turns turn)) (sym (packets-push turns turn))
      (history-step enc whole moment (accepted_in calls turns) (real_entries (entries_of turns)) (packets_of turns) has.history call turn
      (after_turn enc whole moment call turn) (view enc whole moment call turn is)));
}

pub history-none : {T O : Type 0} (enc : EncoderConfig) (whole : List Decision) → HasHistory {T = T} {O = O} enc whole opening [] []
history-none enc whole = record { same_length = refl; history = history-opening enc whole }

pub history-after : {T O : Type 0} (enc : EncoderConfig) (whole : List Decision) (calls : List (Call T O)) (turns : List (Turn T O)) → AreTurns enc whole calls turns →
    HasHistory enc whole (moment_after enc whole calls turns) calls turns
history-after {T} {O} enc whole calls turns are =
    runs-along (IsTurn enc whole) (after_turn enc whole) (HasHistory enc whole)
    (λ m done answered call turn has is. history-turn enc whole m done answered call turn has is)
    opening [] [] calls turns (history-none enc whole) are

-- ---- the counts

module _ {T O : Type 0} (enc : EncoderConfig) (whole : List Decision) (calls : List (Call T O)) (turns : List (Turn T O)) (are : AreTurns enc whole calls turns) where
  -- the commands so far are the first ones of the plan
  pub commands-first : commands_of turns ≡ take (moment_after enc whole calls turns).commands (plan_at enc (moment_after enc whole calls turns))
  commands-first = (history-after enc whole calls turns are).history.sound.commands

  -- as many were coded as the moment counts
  pub commands-counted : length (commands_of turns) ≡ (moment_after enc whole calls turns).commands
  commands-counted =
      ap (λ (l : List Command). length l) commands-first
      ∙ length-take-le (moment_after enc whole calls turns).commands (plan_at enc (moment_after enc whole calls turns))
      (commands-within enc whole (moment_after enc whole calls turns) (accepted_in calls turns) (commands_of turns) (history-after enc whole calls turns are).history.sound)

  -- and as many packets given
  pub packets-counted : length (packets_of turns) ≡ (moment_after enc whole calls turns).packets
  packets-counted = (history-after enc whole calls turns are).history.given.count
