-- From 'each turn is as the reply table says' to what a whole session promises.
use Rattle.std.proofs.Common.{◌≡◌, ℕ, ◌≤◌, List, [], ◌++◌, map, length, take, drop, sym, ap, ◌∙◌, subst, take-append-drop}
use Rattle.std.specs.List.{range_with_len}
use Rattle.std.proofs.lemmas.List.{append-nil}
use Rattle.coding_base.proofs.RunLemmas.{runs-length, runs-take}
use Rattle.av1_settings.specs.declared.encoder.EncoderConfig.{EncoderConfig}
use Rattle.pyramid.specs.declared.command.Command.{Command}
use Rattle.pyramid.specs.Display.{empty_slots, accepts, shown}
use Rattle.session_core.specs.declared.call.Call.{Call}
use Rattle.session_core.specs.declared.packet.Packet.{Packet}
use Rattle.session_core.specs.declared.transcript.Decision.{Decision}
use Rattle.session_core.specs.declared.transcript.Turn.{Turn}
use Rattle.session_core.specs.Moments.{opening, plan_at}
use Rattle.session_core.specs.Sessions.{AreTurns, moment_after, accepted_in, entries_of, commands_of, packets_of, packet_bytes, AreKeyDecisions, IsPrefix, Replays, ArePackets, Headline}
use Rattle.session_core.specs.Turns.{real_entries, after_turn, IsTurn}
use Rattle.session_core.proofs.Completion.{receives-complete}
use Rattle.session_core.proofs.Decided.{AreDecided}
use Rattle.session_core.proofs.PlanAt.{plan-of}
use Rattle.session_core.proofs.RunHistory.{history-after, commands-first, packets-counted}
use Rattle.session_core.proofs.Sound.{packets-are, packets-within}

module _ {T O : Type 0} (enc : EncoderConfig) (whole : List Decision) (calls : List (Call T O)) (turns : List (Turn T O)) (are : AreTurns enc whole calls turns) where
  -- the commands begin the plan
  prefix-after : IsPrefix (commands_of turns) (plan_at enc (moment_after enc whole calls turns))
  prefix-after =
      let moment = moment_after enc whole calls turns in (
        drop moment.commands (plan_at enc moment),
        sym (take-append-drop moment.commands (plan_at enc moment))
            ∙ ap (λ (l : List Command). l ++ drop moment.commands (plan_at enc moment)) (sym (commands-first enc whole calls turns are)),
      )

  -- and replay
  replays-after : Replays (commands_of turns) (length (packets_of turns)) (moment_after enc whole calls turns).accepted
  replays-after =
      let moment = moment_after enc whole calls turns in
      let sound = (history-after enc whole calls turns are).history.sound in
      record {
        accepted_by = ap (accepts empty_slots) (commands-first enc whole calls turns are) ∙ ((plan-of enc moment).front moment.commands).accepted;
        shows = ap (shown empty_slots) (commands-first enc whole calls turns are) ∙ ((plan-of enc moment).front moment.commands).showed
            ∙ ap (range_with_len 0) (sym (packets-counted enc whole calls turns are ∙ packets-are enc whole moment (accepted_in calls turns) (commands_of turns) sound));
        within = subst (λ (n : ℕ). n ≤ moment.accepted) (sym (packets-counted enc whole calls turns are)) (packets-within enc whole moment (accepted_in calls turns) (commands_of turns) sound);
      }

  packets-after : ArePackets (accepted_in calls turns) (real_entries (entries_of turns)) (packets_of turns)
  packets-after =
      let given = (history-after enc whole calls turns are).history.given in
      record {
        bytes = sym (ap (packet_bytes []) (sym (append-nil (real_entries (entries_of turns)))) ∙ given.bytes [] ∙ append-nil (map (λ (p : Packet T O). p.bytes) (packets_of turns)));
        numbers = given.numbers;
        types = given.types;
        qps = given.qps;
        sources = given.sources;
        opaques = given.opaques;
      }

  -- the decisions made by the end
  pub decided-keys : whole ≡ (moment_after enc whole calls turns).decisions → AreKeyDecisions (accepted_in calls turns) whole
  decided-keys all =
      let made : AreDecided (accepted_in calls turns) whole = subst (AreDecided (accepted_in calls turns)) (sym all) (history-after enc whole calls turns are).history.sound.are in
      record { positions = made.positions; forced = made.marks; keys = made.keys }

pub headline-after : {T O : Type 0} (enc : EncoderConfig) (whole : List Decision) (calls : List (Call T O)) (turns : List (Turn T O)) → AreTurns enc whole calls turns → Headline enc whole calls turns
headline-after {T} {O} enc whole calls turns are = record {
  turn_for_each = runs-length (IsTurn enc whole) (after_turn enc whole) opening calls turns are;
  on_plan = λ i h. prefix-after enc whole (take i calls) (take i turns) (front i);
  replays = λ i h. replays-after enc whole (take i calls) (take i turns) (front i);
  packets = packets-after enc whole calls turns are;
  completes = λ i j later h flushed enough. receives-complete enc whole calls turns are i j later flushed enough;
}
  where
    front : (i : ℕ) → AreTurns enc whole (take i calls) (take i turns)
    front i = runs-take (IsTurn enc whole) (after_turn enc whole) opening calls turns i are
