-- Once no more frames come, enough receives complete the packets.
use Rattle.std.proofs.Common.{◌≡◌, ℕ, ◌+◌, ◌-◌, ◌/◌, ◌≤◌, Bool, true, false, cond, ◌&&◌, ◌⊎◌, inl, inr, List, [], ◌∷◌, ◌++◌, length, take, drop, refl, sym, ap, ap₂, ◌∙◌, subst, zero-le, arith, le_trans, count_by}
use Rattle.std.proofs.Math.Seq.{take-add}
use Rattle.std.proofs.lemmas.Bool.{cases_Bool, eqb-true, eq-eqb, false≢true, true≢false, and_from}
use Rattle.std.proofs.lemmas.List.{take_all}
use Rattle.coding_base.specs.Runs.{after_calls}
use Rattle.coding_base.proofs.RunLemmas.{runs-take, runs-length, after-append}
use Rattle.av1_settings.specs.declared.encoder.EncoderConfig.{EncoderConfig}
use Rattle.pyramid.specs.Display.{showing}
use Rattle.session_core.specs.declared.call.Call.{Call}
use Rattle.session_core.specs.declared.packet.Packet.{Packet}
use Rattle.session_core.specs.declared.transcript.Decision.{Decision}
use Rattle.session_log.specs.declared.entry.LogEntry.{LogEntry}
use Rattle.session_core.specs.declared.transcript.Turn.{Turn}
use Rattle.session_core.specs.Moments.{Accepted, Moment, opening, is_complete, plan_at}
use Rattle.session_core.specs.Sessions.{AreTurns, moment_at, is_receive, accepted_in, entries_of, packets_of, accepted_by}
use Rattle.session_core.specs.Taken.{packet_of}
use Rattle.session_core.specs.Turns.{real_entries, after_turn, IsTurn}
use Rattle.session_core.proofs.Along.{runs-along, runs-drop}
use Rattle.session_core.proofs.History.{IsHistory, command_list}
use Rattle.session_core.proofs.PlanAt.{plan-of}
use Rattle.session_core.proofs.PlanFronts.{count-push}
use Rattle.session_core.proofs.RunHistory.{history-step, history-after, packets-counted}
use Rattle.session_core.proofs.Sound.{packets-are, due-parts}
use Rattle.session_core.proofs.Steps.{TurnView, view}
use Rattle.session_core.proofs.Steps.TurnView.{Stays, Accepts, Ends, Codes}

-- no more frames come after `frames`, and since then, in some calls: all packets are given, or each receive coded a command
record IsCompleting {T O : Type 0} (enc : EncoderConfig) (whole : List Decision) (frames : ℕ) (moment : Moment T O) (calls : List (Call T O)) : Type 0 where
  sent : List (Accepted T O)
  entries : List LogEntry
  packets : List (Packet T O)
  history : IsHistory enc whole moment sent entries packets
  flushed : moment.flushed ≡ true
  accepted : moment.accepted ≡ frames
  enough : (moment.packets ≡ frames) ⊎ (count_by is_receive calls ≤ moment.commands)

-- what of a moment is to stay
record StaysFlushed {T O : Type 0} (frames : ℕ) (moment : Moment T O) (receives : ℕ) : Type 0 where
  flushed : moment.flushed ≡ true
  accepted : moment.accepted ≡ frames
  enough : (moment.packets ≡ frames) ⊎ (receives ≤ moment.commands)

module _ {T O : Type 0} (enc : EncoderConfig) (whole : List Decision) (frames : ℕ) (moment : Moment T O) (calls : List (Call T O)) (so_far : IsCompleting enc whole frames moment calls) where
  -- a call that is no receive counts for none
  not_counted : (call : Call T O) → is_receive call ≡ false → count_by is_receive (calls ++ call ∷ []) ≡ count_by is_receive calls
  not_counted call other = same (count_by is_receive calls) (is_receive call) other (count-push is_receive calls call)
    where
      same : (n : ℕ) (t : Bool) → t ≡ false → count_by is_receive (calls ++ call ∷ []) ≡ n + cond t 1 0 → count_by is_receive (calls ++ call ∷ []) ≡ n
      same n true e h = absurd (false≢true (sym e))
      same n false e h = omega arith

  at_most_one : (call : Call T O) → count_by is_receive (calls ++ call ∷ []) ≤ count_by is_receive calls + 1
  at_most_one call = one (count_by is_receive calls) (is_receive call) (count-push is_receive calls call)
    where
      one : (n : ℕ) (t : Bool) → count_by is_receive (calls ++ call ∷ []) ≡ n + cond t 1 0 → count_by is_receive (calls ++ call ∷ []) ≤ n + 1
      one n true h = omega arith
      one n false h = omega arith

  same_moment : (call : Call T O) → is_receive call ≡ false → StaysFlushed frames moment (count_by is_receive (calls ++ call ∷ []))
  same_moment call other = record {
    flushed = so_far.flushed;
    accepted = so_far.accepted;
    enough = subst (λ (n : ℕ). (moment.packets ≡ frames) ⊎ (n ≤ moment.commands)) (sym (not_counted call other)) so_far.enough;
  }

  -- a command that is coded now counts the receive
  one_coded : (call : Call T O) → (moment.flushed && is_complete moment) ≡ false → count_by is_receive (calls ++ call ∷ []) ≤ moment.commands + 1
  one_coded call open_yet = elim so_far.enough [
    | inl complete ↦
        absurd (true≢false (sym (and_from moment.flushed (is_complete moment) so_far.flushed
        (eq-eqb moment.packets moment.accepted (complete ∙ sym so_far.accepted))) ∙ open_yet))
    | inr enough ↦ counted (at_most_one call) enough
  ]
    where
      counted : count_by is_receive (calls ++ call ∷ []) ≤ count_by is_receive calls + 1 → count_by is_receive calls ≤ moment.commands → count_by is_receive (calls ++ call ∷ []) ≤ moment.commands + 1
      counted a b = omega arith

  completing_step : (call : Call T O) (turn : Turn T O) (after : Moment T O) → TurnView enc whole moment call turn after → StaysFlushed frames after (count_by is_receive (calls ++ call ∷ []))
  completing_step call turn after (Stays staying) =
      subst (λ (m : Moment T O). StaysFlushed frames m (count_by is_receive (calls ++ call ∷ []))) (sym staying.stays)
      (elim (cases_Bool (is_receive call)) [
        | inl receive ↦ record {
          flushed = so_far.flushed;
          accepted = so_far.accepted;
          enough = inl (eqb-true moment.packets moment.accepted (staying.receive receive so_far.flushed) ∙ so_far.accepted);
        }
        | inr other ↦ same_moment call other
      ])
  completing_step call turn after (Accepts accepting) = absurd (false≢true (sym accepting.open_yet ∙ so_far.flushed))
  completing_step call turn after (Ends ending) =
      subst (λ (m : Moment T O). StaysFlushed frames m (count_by is_receive (calls ++ call ∷ []))) (sym ending.then)
      (record { flushed = refl; accepted = so_far.accepted; enough = (same_moment call ending.receive).enough })
  completing_step call turn after (Codes coding) =
      elim coding.given [
        | inl giving ↦
            subst (λ (m : Moment T O). StaysFlushed frames m (count_by is_receive (calls ++ call ∷ []))) (sym giving.then)
            (record { flushed = so_far.flushed; accepted = so_far.accepted; enough = inr (one_coded call (due-parts enc moment coding.due).0) })
        | inr hiding ↦
            subst (λ (m : Moment T O). StaysFlushed frames m (count_by is_receive (calls ++ call ∷ []))) (sym hiding.then)
            (record { flushed = so_far.flushed; accepted = so_far.accepted; enough = inr (one_coded call (due-parts enc moment coding.due).0) })
      ]

  completing-turn : (call : Call T O) (turn : Turn T O) → IsTurn enc whole moment call turn → IsCompleting enc whole frames (after_turn enc whole moment call turn) (calls ++ call ∷ [])
  completing-turn call turn is =
      let seen = view enc whole moment call turn is in
      let stays = completing_step call turn (after_turn enc whole moment call turn) seen in
      record {
        sent = so_far.sent ++ accepted_by call turn.reply;
        entries = so_far.entries ++ real_entries turn.log;
        packets = so_far.packets ++ packet_of turn.reply;
        history = history-step enc whole moment so_far.sent so_far.entries so_far.packets so_far.history call turn (after_turn enc whole moment call turn) seen;
        flushed = stays.flushed;
        accepted = stays.accepted;
        enough = stays.enough;
      }

  -- as many receives as the plan has commands at most: every packet is given
  completed : frames + frames / 2 ≤ count_by is_receive calls → moment.packets ≡ frames
  completed enough = elim so_far.enough [
    | inl complete ↦ complete
    | inr coded ↦
        let size : length (plan_at enc moment) ≤ frames + frames / 2 = subst (λ (n : ℕ). length (plan_at enc moment) ≤ n + n / 2) so_far.accepted (plan-of enc moment).size in
        packets-are enc whole moment so_far.sent (command_list so_far.entries) so_far.history.sound
        ∙ ap showing (take_all moment.commands (plan_at enc moment) (le_trans size (le_trans enough coded)))
        ∙ (plan-of enc moment).count
        ∙ so_far.accepted
  ]

two_parts : {A : Type 0} (i j : ℕ) (l : List A) → i ≤ j → take i l ++ take (j - i) (drop i l) ≡ take j l
two_parts {A} i j l h =
    let whole : i + (j - i) ≡ j = omega arith in
    sym (take-add i (j - i) l) ∙ ap (λ (n : ℕ). take n l) whole

-- n frames accepted and no more to come: n + n/2 receives later all n packets are given
pub receives-complete : {T O : Type 0} (enc : EncoderConfig) (whole : List Decision) (calls : List (Call T O)) (turns : List (Turn T O)) → AreTurns enc whole calls turns → (i j : ℕ) → i ≤ j →
    (moment_at enc whole calls turns i).flushed ≡ true →
    (moment_at enc whole calls turns i).accepted + (moment_at enc whole calls turns i).accepted / 2 ≤ count_by is_receive (take (j - i) (drop i calls)) →
    length (packets_of (take j turns)) ≡ (moment_at enc whole calls turns j).accepted
receives-complete {T} {O} enc whole calls turns are i j later flushed enough =
    packets-counted enc whole (take j calls) (take j turns) (runs-take (IsTurn enc whole) (after_turn enc whole) opening calls turns j are)
    ∙ completed enc whole frames (moment_at enc whole calls turns j) (take (j - i) (drop i calls)) at_end enough
    ∙ sym at_end.accepted
  where
    frames : ℕ
    frames = (moment_at enc whole calls turns i).accepted

    front : AreTurns enc whole (take i calls) (take i turns)
    front = runs-take (IsTurn enc whole) (after_turn enc whole) opening calls turns i are

    start : IsCompleting enc whole (moment_at enc whole calls turns i).accepted (moment_at enc whole calls turns i) []
    start = record {
      sent = accepted_in (take i calls) (take i turns);
      entries = real_entries (entries_of (take i turns));
      packets = packets_of (take i turns);
      history = (history-after enc whole (take i calls) (take i turns) front).history;
      flushed = flushed;
      accepted = refl;
      enough = inr zero-le;
    }

    joined : after_calls (after_turn enc whole) (moment_at enc whole calls turns i) (take (j - i) (drop i calls)) (take (j - i) (drop i turns)) ≡ moment_at enc whole calls turns j
    joined =
        sym (after-append (IsTurn enc whole) (after_turn enc whole) opening (take i calls) (take i turns) (take (j - i) (drop i calls)) (take (j - i) (drop i turns))
        (runs-length (IsTurn enc whole) (after_turn enc whole) opening (take i calls) (take i turns) front))
        ∙ ap₂ (after_calls (after_turn enc whole) opening) (two_parts i j calls later) (two_parts i j turns later)

    at_end : IsCompleting enc whole (moment_at enc whole calls turns i).accepted (moment_at enc whole calls turns j) (take (j - i) (drop i calls))
    at_end =
        subst (λ (m : Moment T O). IsCompleting enc whole (moment_at enc whole calls turns i).accepted m (take (j - i) (drop i calls))) joined
        (runs-along (IsTurn enc whole) (after_turn enc whole) (λ m done answered. IsCompleting enc whole (moment_at enc whole calls turns i).accepted m done)
        (λ m done answered call turn so_far is. completing-turn enc whole (moment_at enc whole calls turns i).accepted m done so_far call turn is)
        (moment_at enc whole calls turns i) [] [] (take (j - i) (drop i calls)) (take (j - i) (drop i turns)) start
        (runs-take (IsTurn enc whole) (after_turn enc whole) (moment_at enc whole calls turns i) (drop i calls) (drop i turns) (j - i)
        (runs-drop (IsTurn enc whole) (after_turn enc whole) opening calls turns i are)))
