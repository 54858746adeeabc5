-- What a turn leaves: a moment that fits what was sent and coded up to it.
use Rattle.std.proofs.Common.{◌≡◌, ℕ, ◌+◌, ◌-◌, ◌<◌, ◌≤◌, Bool, true, false, eqb, ltb, inl, inr, List, [], ◌∷◌, ◌++◌, map, length, take, drop, Some, None, slice_get, refl, sym, ap, ap₂, ◌∙◌, subst, subst₂, arith, take-append-drop, Option, option_map, option_and_then}
use Rattle.std.proofs.lemmas.Bool.{cases_Bool, cases_eq, false≢true, eqb-false, ne_eqb, cond-false, le-ltb}
use Rattle.std.proofs.lemmas.List.{length_push, map_push, drop-append-le, drop-map, drop-drop}
use Rattle.av1_settings.specs.declared.encoder.EncoderConfig.{EncoderConfig}
use Rattle.av1_settings.specs.declared.frame_type.FrameType.{FrameType}
use Rattle.pyramid.specs.declared.command.Command.{Command}
use Rattle.pyramid.specs.declared.command.Command.TheVariants.{Code, Show}
use Rattle.pyramid.specs.Display.{shows, showing}
use Rattle.pyramid.specs.Settings.{numbers_of}
use Rattle.session_core.specs.declared.transcript.Decision.{Decision}
use Rattle.session_log.specs.declared.entry.LogEntry.{LogEntry}
use Rattle.session_core.specs.Decisions.{decided_count, decisions_at}
use Rattle.session_core.specs.Moments.{Accepted, Coding, Waiting, Moment, plan_at, known_at}
use Rattle.session_core.specs.Turns.{frame_limit, Decides, after_flush, held_back, coding_of, with_coding, noted}
use Rattle.session_core.proofs.Decided.{frame_of, AreDecided, decided-sent, decided-made, decided-within, slice_get-drop}
use Rattle.session_core.proofs.PlanAt.{plan-of, Keeps, keeps-later}
use Rattle.session_core.proofs.PlanFronts.{take_next, showing_yes, showing_no, has_code, has_code_left, kind_of, kind_of-other, kind_of-last, not_before, next_coded, codes_none_later}
use Rattle.session_core.proofs.Sound.{IsSound, packets-within, packets-are, waits, not_early, there}
use Rattle.session_core.proofs.Steps.{with_frame, with_packet, with_entry}
use Rattle.session_core.proofs.WaitingKinds.{waiting_kind, coding-push, frames-with_coding, coding-here, coding-other}

module _ {T O : Type 0} (enc : EncoderConfig) (whole : List Decision) (moment : Moment T O) (sent : List (Accepted T O)) (done : List Command) (sound : IsSound enc whole moment sent done) where
  -- ---- sends and flushes

  -- before the flush the decisions of a later moment are those before, and the ones made then
  module _ (after : Moment T O) (unflushed : moment.flushed ≡ false) (later : moment.accepted ≤ after.accepted)
      (decides : Decides enc moment after) where
    counted : length moment.decisions ≡ decided_count (numbers_of enc) moment.accepted false
    counted = sound.decided ∙ ap (decided_count (numbers_of enc) moment.accepted) unflushed

    grown : after.decisions ≡ moment.decisions ++ drop (length moment.decisions) after.decisions
    grown =
        sym (take-append-drop (length moment.decisions) after.decisions)
        ∙ ap (λ (l : List Decision). l ++ drop (length moment.decisions) after.decisions) (sym decides.kept)

    keeps : Keeps enc moment after
    keeps = keeps-later enc moment after (drop (length moment.decisions) after.decisions) unflushed later grown counted decides.made.positions

    front : done ≡ take moment.commands (plan_at enc after)
    front = sound.commands ∙ keeps.front moment.commands sound.known

    known_then : moment.commands ≤ length (known_at enc after)
    known_then = no_less moment.commands (length (known_at enc moment)) (length (known_at enc after)) sound.known keeps.known
      where
        no_less : (a b c : ℕ) → a ≤ b → b ≤ c → a ≤ c
        no_less a b c h k = omega arith

    decided_then : (then : List (Accepted T O)) → map frame_of after.waiting ≡ drop after.packets then → after.packets ≡ moment.packets → AreDecided then moment.decisions → AreDecided then after.decisions
    decided_then then frames packets before =
        subst (AreDecided then) (sym grown)
        (decided-made after then moment.decisions (drop (length moment.decisions) after.decisions) frames
        (subst (λ (n : ℕ). n ≤ length moment.decisions + 1) (sym packets) (not_early enc whole moment sent done sound)) before decides.made)

  pub sound-accept : (frame : Accepted T O) → moment.flushed ≡ false → eqb moment.accepted frame_limit ≡ false →
      Decides enc moment (with_frame enc whole moment frame) → IsSound enc whole (with_frame enc whole moment frame) (sent ++ frame ∷ []) done
  sound-accept frame unflushed room decides = record {
    accepted = ap (λ (n : ℕ). n + 1) sound.accepted ∙ sym (length_push sent frame);
    few = below moment.accepted sound.few (eqb-false moment.accepted frame_limit room);
    decisions = refl;
    decided = decides.count;
    are = decided_then after unflushed later decides (sent ++ frame ∷ []) frames_then refl
        (decided-sent sent (frame ∷ []) moment.decisions few_decided sound.are);
    commands = front after unflushed later decides;
    known = known_then after unflushed later decides;
    packets = sound.packets;
    coded = sound.coded;
    frames = frames_then;
    kinds = λ index. ap (option_map (λ (coding : Coding). coding.kind)) (coding-push moment.waiting (record { frame = frame; coded = None }) index refl)
        ∙ sound.kinds index;
  }
    where
      after : Moment T O
      after = with_frame enc whole moment frame

      later : moment.accepted ≤ moment.accepted + 1
      later = omega arith

      below : (n : ℕ) → n ≤ frame_limit → (n ≡ frame_limit → ⊥) → n + 1 ≤ frame_limit
      below n h differs = omega arith

      few_decided : length moment.decisions ≤ length sent - 1
      few_decided = subst₂ (λ (n m : ℕ). n ≤ m - 1) (sym sound.decided) sound.accepted (decided-within (numbers_of enc) moment.accepted moment.flushed)

      frames_then : map frame_of (moment.waiting ++ record { frame = frame; coded = None } ∷ []) ≡ drop moment.packets (sent ++ frame ∷ [])
      frames_then =
          map_push frame_of moment.waiting (record { frame = frame; coded = None })
          ∙ ap (λ (l : List (Accepted T O)). l ++ frame ∷ []) sound.frames
          ∙ sym (drop-append-le moment.packets sent (frame ∷ []) (subst (λ (n : ℕ). moment.packets ≤ n) sound.accepted (packets-within enc whole moment sent done sound)))

  -- a second flush leaves the moment
  pub flushed_again : moment.flushed ≡ true → after_flush enc whole moment ≡ moment
  flushed_again flushed =
      let with_end : Bool → List Decision → Moment T O = λ f d. record moment { flushed = f; decisions = d } in
      ap₂ with_end (sym flushed) (sym (sound.decisions ∙ ap (decisions_at (numbers_of enc) whole moment.accepted) flushed))

  pub sound-flush : Decides enc moment (after_flush enc whole moment) → IsSound enc whole (after_flush enc whole moment) sent done
  sound-flush decides = elim (cases_Bool moment.flushed) [
    | inl flushed ↦ subst (λ (m : Moment T O). IsSound enc whole m sent done) (sym (flushed_again flushed)) sound
    | inr unflushed ↦ at_first unflushed
  ]
    where
      after : Moment T O
      after = after_flush enc whole moment

      later : moment.accepted ≤ moment.accepted
      later = omega arith

      at_first : moment.flushed ≡ false → IsSound enc whole (after_flush enc whole moment) sent done
      at_first unflushed = record {
        accepted = sound.accepted;
        few = sound.few;
        decisions = refl;
        decided = decides.count;
        are = decided_then after unflushed later decides sent sound.frames refl sound.are;
        commands = front after unflushed later decides;
        known = known_then after unflushed later decides;
        packets = sound.packets;
        coded = sound.coded;
        frames = sound.frames;
        kinds = sound.kinds;
      }

  -- ---- receives

  module _ (command : Command) (due : held_back enc moment ≡ None)
      (next : slice_get (plan_at enc moment) moment.commands ≡ Some command) where
    known_more : moment.commands + 1 ≤ length (known_at enc moment)
    known_more = one_more moment.commands (length (known_at enc moment)) (there enc whole moment sent done sound due)
      where
        one_more : (n m : ℕ) → n < m → n + 1 ≤ m
        one_more n m h = omega arith

    commands_more : done ++ command ∷ [] ≡ take (moment.commands + 1) (plan_at enc moment)
    commands_more = ap (λ (l : List Command). l ++ command ∷ []) sound.commands ∙ sym (take_next (plan_at enc moment) moment.commands command next)

    coded_more : (k : ℕ) → k < moment.packets → has_code (done ++ command ∷ []) k ≡ true
    coded_more k h = has_code_left done command k (sound.coded k h)

    pub sound-packet : (log : List LogEntry) → shows command ≡ true → IsSound enc whole (with_packet moment log) sent (done ++ command ∷ [])
    sound-packet log visible = record {
      accepted = sound.accepted;
      few = sound.few;
      decisions = sound.decisions;
      decided = sound.decided;
      are = sound.are;
      commands = commands_more;
      known = known_more;
      packets = ap (λ (n : ℕ). n + 1) sound.packets ∙ sym (showing_yes done command visible);
      coded = coded_then;
      frames =
          sym (drop-map frame_of 1 moment.waiting) ∙ ap (λ (l : List (Accepted T O)). drop 1 l) sound.frames ∙ drop-drop 1 moment.packets sent;
      kinds = kinds_then;
    }
      where
        coded_now : has_code (done ++ command ∷ []) moment.packets ≡ true
        coded_now =
            ap₂ (λ (l : List Command) (n : ℕ). has_code (l ++ command ∷ []) n) sound.commands (packets-are enc whole moment sent done sound)
            ∙ next_coded (plan_at enc moment) moment.accepted (plan-of enc moment) moment.commands command next visible

        coded_then : (k : ℕ) → k < moment.packets + 1 → has_code (done ++ command ∷ []) k ≡ true
        coded_then k h = elim (cases_eq k moment.packets) [
          | inl last ↦ ap (has_code (done ++ command ∷ [])) last ∙ coded_now
          | inr other ↦ coded_more k (omega arith)
        ]

        kinds_then : (index : ℕ) → waiting_kind (drop 1 moment.waiting) index ≡ kind_of (done ++ command ∷ []) (moment.packets + 1 + index)
        kinds_then index =
            let number : moment.packets + (1 + index) ≡ moment.packets + 1 + index = omega arith in
            let above : showing (take moment.commands (plan_at enc moment)) < moment.packets + 1 + index = omega (arith, packets-are enc whole moment sent done sound) in
            ap (λ (o : Option (Waiting T O)). option_map (λ coding. coding.kind) (option_and_then (λ one. one.coded) o)) (slice_get-drop 1 moment.waiting index)
            ∙ sound.kinds (1 + index)
            ∙ ap (kind_of done) number
            ∙ sym (kind_of-other done command (moment.packets + 1 + index)
            (codes_none_later (plan_at enc moment) moment.accepted (plan-of enc moment) moment.commands command (moment.packets + 1 + index) next visible above))

  -- a hidden frame that is coded waits with its type
  module _ (frame : ℕ) (kind : FrameType) (refs : List ℕ) (refresh : ℕ) (visible : Bool)
      (next : slice_get (plan_at enc moment) moment.commands ≡ Some (Code frame kind refs refresh visible)) where
    pub after_packets : moment.packets ≤ frame
    after_packets = subst (λ (n : ℕ). n ≤ frame) (sym (packets-are enc whole moment sent done sound))
        ((plan-of enc moment).unshown moment.commands frame kind refs refresh visible next)

    pub is_waiting : frame - moment.packets < length moment.waiting
    is_waiting = inside ((plan-of enc moment).below moment.commands frame kind refs refresh visible next)
      where
        inside : frame < moment.accepted → frame - moment.packets < length moment.waiting
        inside h = omega (arith, waits enc whole moment sent done sound, after_packets)

    pub not_yet : has_code done frame ≡ false
    not_yet =
        ap (λ (l : List Command). has_code l frame) sound.commands
        ∙ not_before (plan_at enc moment) moment.accepted (plan-of enc moment) moment.commands frame kind refs refresh visible next

    coded_kinds : (coding : Option Coding) → option_map (λ coding. coding.kind) coding ≡ Some kind → (index : ℕ) →
        waiting_kind (with_coding moment.waiting (frame - moment.packets) coding) index ≡ kind_of (done ++ Code frame kind refs refresh visible ∷ []) (moment.packets + index)
    coded_kinds coding is index = elim (cases_eq index (frame - moment.packets)) [
      | inl here ↦
          let number : moment.packets + index ≡ frame = omega (arith, after_packets) in
          ap (waiting_kind (with_coding moment.waiting (frame - moment.packets) coding)) here
          ∙ ap (option_map (λ (one : Coding). one.kind)) (coding-here moment.waiting (frame - moment.packets) coding is_waiting)
          ∙ is
          ∙ sym (ap (kind_of (done ++ Code frame kind refs refresh visible ∷ [])) number ∙ kind_of-last done frame kind refs refresh visible not_yet)
      | inr other ↦
          ap (option_map (λ (one : Coding). one.kind)) (coding-other moment.waiting (frame - moment.packets) index coding other)
          ∙ sound.kinds index
          ∙ sym (kind_of-other done (Code frame kind refs refresh visible) (moment.packets + index)
          (ne_eqb frame (moment.packets + index) (λ e. other (before_it index e))))
    ]
      where
        before_it : (index : ℕ) → frame ≡ moment.packets + index → index ≡ frame - moment.packets
        before_it index e = omega arith

  -- where a frame is hidden, the frames that wait stay, with the types of those that are coded
  pub record Notes (waiting : List (Waiting T O)) (command : Command) : Type 0 where
    pub frames : map frame_of waiting ≡ map frame_of moment.waiting
    pub kinds : (index : ℕ) → waiting_kind waiting index ≡ kind_of (done ++ command ∷ []) (moment.packets + index)

  noted_hidden : (command : Command) (entry : LogEntry) → slice_get (plan_at enc moment) moment.commands ≡ Some command → shows command ≡ false →
      Notes (noted moment.packets moment.waiting (record entry { command = command })) command
  noted_hidden (Show slot) entry next hidden = absurd (false≢true (sym hidden))
  noted_hidden (Code frame kind refs refresh visible) entry next hidden =
      let coding : Option Coding = coding_of (record entry { command = Code frame kind refs refresh visible }) in
      subst (λ (waiting : List (Waiting T O)). Notes waiting (Code frame kind refs refresh visible))
      (sym (cond-false (ltb frame moment.packets) moment.waiting (with_coding moment.waiting (frame - moment.packets) coding)
      (le-ltb frame moment.packets (after_packets frame kind refs refresh visible next))))
      (record {
        frames = frames-with_coding moment.waiting (frame - moment.packets) coding;
        kinds = coded_kinds frame kind refs refresh visible next coding refl;
      })

  pub sound-entry : (entry : LogEntry) (log : List LogEntry) → held_back enc moment ≡ None →
      slice_get (plan_at enc moment) moment.commands ≡ Some entry.command → shows entry.command ≡ false →
      IsSound enc whole (with_entry moment entry log) sent (done ++ entry.command ∷ [])
  sound-entry entry log due next hidden =
      let noticed = noted_hidden entry.command entry next hidden in
      record {
        accepted = sound.accepted;
        few = sound.few;
        decisions = sound.decisions;
        decided = sound.decided;
        are = sound.are;
        commands = commands_more entry.command due next;
        known = known_more entry.command due next;
        packets = sound.packets ∙ sym (showing_no done entry.command hidden);
        coded = coded_more entry.command due next;
        frames = noticed.frames ∙ sound.frames;
        kinds = noticed.kinds;
      }
