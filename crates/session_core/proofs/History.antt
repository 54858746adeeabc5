-- What was sent, coded and given up to a moment.
use Rattle.std.proofs.Common.{◌≡◌, ℕ, ◌+◌, ◌-◌, ◌<◌, ◌≤◌, Bool, true, false, eqb, ltb, inl, inr, drop, option_and_then, List, [], ◌∷◌, ◌++◌, length, take, map, Option, Some, None, option_map, slice_get, refl, sym, ap, ap₂, ◌∙◌, subst, subst₂, append_assoc, arith, map-id}
use Rattle.std.specs.List.{range_with_len}
use Rattle.std.proofs.lemmas.Bool.{cases_eq, cond-true, cond-false, eq-eqb, false≢true, le-ltb, ne_eqb}
use Rattle.std.proofs.lemmas.List.{length_push, map_push, take-append-le}
use Rattle.std.proofs.lemmas.List.FromFn.{map-range_with_len_more}
use Rattle.std.proofs.lemmas.Option.{same_Some, slice_get-map}
use Rattle.av1_frame.specs.declared.frame.Frame.{Frame}
use Rattle.av1_settings.specs.declared.encoder.EncoderConfig.{EncoderConfig}
use Rattle.pyramid.specs.declared.command.Command.{Command}
use Rattle.pyramid.specs.declared.command.Command.TheVariants.{Code, Show}
use Rattle.pyramid.specs.Display.{shows, showing}
use Rattle.session_core.specs.declared.packet.Packet.{Packet}
use Rattle.session_core.specs.declared.transcript.Decision.{Decision}
use Rattle.session_log.specs.declared.entry.LogEntry.{LogEntry}
use Rattle.session_core.specs.Moments.{Accepted, Coding, Waiting, Moment, opening, plan_at}
use Rattle.session_core.specs.Sessions.{packet_bytes, coded_kind, coded_qp}
use Rattle.session_core.specs.Turns.{frame_limit, delimiter, Decides, after_flush, coding_of, IsNextPacket, noted, shown_coding, held_back, with_coding}
use Rattle.session_core.proofs.Decided.{frame_of, map_range_agree, slice_get-drop}
use Rattle.session_core.proofs.LumaIndices.{qp_of, qp_of-other, qp_of-last, qp_of-coded, coded_qp-push}
use Rattle.session_core.proofs.PlanAt.{plan-of}
use Rattle.session_core.proofs.PlanFronts.{take_next, has_code, coded_kind-push, kind_of, kind_of-other, kind_of-last, kind_of-coded, not_before, codes_none_later}
use Rattle.session_core.proofs.Sound.{IsSound, sound-opening, packets-within, packets-are}
use Rattle.session_core.proofs.SoundTurns.{sound-accept, sound-flush, sound-packet, sound-entry, after_packets, is_waiting, not_yet}
use Rattle.session_core.proofs.Steps.{with_frame, with_packet, with_entry}
use Rattle.session_core.proofs.WaitingKinds.{waiting_qp, coding-push, coding-here, coding-other}

abbrev pub source_of : {T O : Type 0} → Packet T O → Option (Frame T)
source_of packet = option_map (λ source. source.value) packet.source

abbrev pub command_list : List LogEntry → List Command
command_list entries = map (λ entry. entry.command) entries

-- the packets given up to a moment, of the entries for good
pub record ArePacketsSoFar {T O : Type 0} (moment : Moment T O) (sent : List (Accepted T O)) (entries : List LogEntry) (packets : List (Packet T O)) : Type 0 where
  pub count : length packets ≡ moment.packets
  pub bytes : (rest : List LogEntry) → packet_bytes [] (entries ++ rest) ≡ map (λ packet. packet.bytes) packets ++ packet_bytes moment.pending rest
  pub numbers : map (λ packet. packet.input_frameno) packets ≡ range_with_len 0 (length packets)
  pub types : map (λ packet. packet.frame_type) packets ≡ map (coded_kind (command_list entries)) (range_with_len 0 (length packets))
  pub qps : map (λ packet. packet.qp) packets ≡ map (coded_qp entries) (range_with_len 0 (length packets))
  pub sources : map source_of packets ≡ map (λ accepted. Some accepted.picture) (take (length packets) sent)
  pub opaques : map (λ packet. packet.opaque) packets ≡ map (λ accepted. accepted.opaque) (take (length packets) sent)

pub record IsHistory {T O : Type 0} (enc : EncoderConfig) (whole : List Decision) (moment : Moment T O) (sent : List (Accepted T O)) (entries : List LogEntry) (packets : List (Packet T O)) : Type 0 where
  pub sound : IsSound enc whole moment sent (command_list entries)
  -- the frames that wait, where they are coded, have their luma indices
  pub qps : (index : ℕ) → waiting_qp moment.waiting index ≡ qp_of entries (moment.packets + index)
  pub given : ArePacketsSoFar moment sent entries packets

pub history-opening : {T O : Type 0} (enc : EncoderConfig) (whole : List Decision) → IsHistory {T = T} {O = O} enc whole opening [] [] []
history-opening enc whole = record {
  sound = sound-opening enc whole;
  qps = λ index. refl;
  given = record { count = refl; bytes = λ rest. refl; numbers = refl; types = refl; qps = refl; sources = refl; opaques = refl };
}

-- ---- lists of packets

range_push : (n : ℕ) → range_with_len 0 (n + 1) ≡ range_with_len 0 n ++ n ∷ []
range_push n =
    let last : 0 + n ≡ n = omega arith in
    sym (map-id (range_with_len 0 (n + 1)))
    ∙ map-range_with_len_more (λ (k : ℕ). k) 0 n n last
    ∙ ap (λ (l : List ℕ). l ++ n ∷ []) (map-id (range_with_len 0 n))

-- the next packet has what `f` says of its number
map_range_push : {P X : Type 0} (g : P → X) (f : ℕ → X) (packets : List P) (p : P) → map g packets ≡ map f (range_with_len 0 (length packets)) → g p ≡ f (length packets) → map g (packets ++ p ∷ []) ≡ map f (range_with_len 0 (length (packets ++ p ∷ [])))
map_range_push {P} {X} g f packets p so_far here =
    let last : 0 + length packets ≡ length packets = omega arith in
    map_push g packets p
    ∙ ap₂ (λ (l : List X) (x : X). l ++ x ∷ []) so_far here
    ∙ sym (map-range_with_len_more f 0 (length packets) (length packets) last)
    ∙ ap (λ (n : ℕ). map f (range_with_len 0 n)) (sym (length_push packets p))

numbers_push : {P : Type 0} (g : P → ℕ) (packets : List P) (p : P) → map g packets ≡ range_with_len 0 (length packets) → g p ≡ length packets → map g (packets ++ p ∷ []) ≡ range_with_len 0 (length (packets ++ p ∷ []))
numbers_push g packets p so_far here =
    map_push g packets p
    ∙ ap₂ (λ (l : List ℕ) (x : ℕ). l ++ x ∷ []) so_far here
    ∙ sym (range_push (length packets))
    ∙ ap (range_with_len 0) (sym (length_push packets p))

-- the next packet has what `f` says of the next frame sent
map_sent_push : {P A X : Type 0} (g : P → X) (f : A → X) (packets : List P) (p : P) (sent : List A) (a : A) → map g packets ≡ map f (take (length packets) sent) → slice_get sent (length packets) ≡ Some a → g p ≡ f a →
    map g (packets ++ p ∷ []) ≡ map f (take (length (packets ++ p ∷ [])) sent)
map_sent_push {P} {A} {X} g f packets p sent a so_far next here =
    map_push g packets p
    ∙ ap₂ (λ (l : List X) (x : X). l ++ x ∷ []) so_far here
    ∙ sym (map_push f (take (length packets) sent) a)
    ∙ ap (map f) (sym (take_next sent (length packets) a next))
    ∙ ap (λ (n : ℕ). map f (take n sent)) (sym (length_push packets p))

-- ---- each kind of turn

module _ {T O : Type 0} (enc : EncoderConfig) (whole : List Decision) (moment : Moment T O) (sent : List (Accepted T O)) (entries : List LogEntry) (packets : List (Packet T O)) (history : IsHistory enc whole moment sent entries packets) where
  packets_sent : length packets ≤ length sent
  packets_sent = subst₂ (λ (a b : ℕ). a ≤ b) (sym history.given.count) history.sound.accepted (packets-within enc whole moment sent (command_list entries) history.sound)

  pub history-accept : (frame : Accepted T O) → moment.flushed ≡ false → eqb moment.accepted frame_limit ≡ false →
      Decides enc moment (with_frame enc whole moment frame) → IsHistory enc whole (with_frame enc whole moment frame) (sent ++ frame ∷ []) entries packets
  history-accept frame unflushed room decides = record {
    sound = sound-accept enc whole moment sent (command_list entries) history.sound frame unflushed room decides;
    qps = λ index. ap (option_map (λ (coding : Coding). coding.qp)) (coding-push moment.waiting (record { frame = frame; coded = None }) index refl) ∙ history.qps index;
    given = record {
      count = history.given.count;
      bytes = history.given.bytes;
      numbers = history.given.numbers;
      types = history.given.types;
      qps = history.given.qps;
      sources = history.given.sources ∙ ap (map (λ (a : Accepted T O). Some a.picture)) same;
      opaques = history.given.opaques ∙ ap (map (λ (a : Accepted T O). a.opaque)) same;
    };
  }
    where
      same : take (length packets) sent ≡ take (length packets) (sent ++ frame ∷ [])
      same = sym (take-append-le (length packets) sent (frame ∷ []) packets_sent)

  pub history-flush : Decides enc moment (after_flush enc whole moment) → IsHistory enc whole (after_flush enc whole moment) sent entries packets
  history-flush decides = record {
    sound = sound-flush enc whole moment sent (command_list entries) history.sound decides;
    qps = history.qps;
    given = record {
      count = history.given.count;
      bytes = history.given.bytes;
      numbers = history.given.numbers;
      types = history.given.types;
      qps = history.given.qps;
      sources = history.given.sources;
      opaques = history.given.opaques;
    };
  }

  module _ (entry : LogEntry) (due : held_back enc moment ≡ None) (next : slice_get (plan_at enc moment) moment.commands ≡ Some entry.command) where
    commands_push : command_list (entries ++ entry ∷ []) ≡ command_list entries ++ entry.command ∷ []
    commands_push = map_push (λ (e : LogEntry). e.command) entries entry

    types_before : map (λ packet. packet.frame_type) packets ≡ map (coded_kind (command_list (entries ++ entry ∷ []))) (range_with_len 0 (length packets))
    types_before =
        history.given.types
        ∙ map_range_agree (coded_kind (command_list entries)) (coded_kind (command_list (entries ++ entry ∷ []))) 0 (length packets)
        (λ k low high. sym (ap (λ (l : List Command). coded_kind l k) commands_push
        ∙ coded_kind-push (command_list entries) entry.command k (history.sound.coded k (below k high))))
      where
        below : (k : ℕ) → k < 0 + length packets → k < moment.packets
        below k high = omega (arith, history.given.count)

    qps_before : map (λ packet. packet.qp) packets ≡ map (coded_qp (entries ++ entry ∷ [])) (range_with_len 0 (length packets))
    qps_before =
        history.given.qps
        ∙ map_range_agree (coded_qp entries) (coded_qp (entries ++ entry ∷ [])) 0 (length packets)
        (λ k low high. sym (coded_qp-push entries entry k (history.sound.coded k (below k high))))
      where
        below : (k : ℕ) → k < 0 + length packets → k < moment.packets
        below k high = omega (arith, history.given.count)

    -- a hidden frame that is coded waits with its index
    noted_qps : (command : Command) → slice_get (plan_at enc moment) moment.commands ≡ Some command → shows command ≡ false → (index : ℕ) →
        waiting_qp (noted moment.packets moment.waiting (record entry { command = command })) index ≡ qp_of (entries ++ record entry { command = command } ∷ []) (moment.packets + index)
    noted_qps (Show slot) is hidden index = absurd (false≢true (sym hidden))
    noted_qps (Code frame kind refs refresh visible) is hidden index =
        let one : LogEntry = record entry { command = Code frame kind refs refresh visible } in
        let late = after_packets enc whole moment sent (command_list entries) history.sound frame kind refs refresh visible is in
        ap (λ (w : List (Waiting T O)). waiting_qp w index)
        (cond-false (ltb frame moment.packets) moment.waiting (with_coding moment.waiting (frame - moment.packets) (coding_of one)) (le-ltb frame moment.packets late))
        ∙ elim (cases_eq index (frame - moment.packets)) [
          | inl here ↦
              let number : frame ≡ moment.packets + index = omega (arith, late) in
              ap (waiting_qp (with_coding moment.waiting (frame - moment.packets) (coding_of one))) here
              ∙ ap (option_map (λ (coding : Coding). coding.qp)) (coding-here moment.waiting (frame - moment.packets) (coding_of one)
              (is_waiting enc whole moment sent (command_list entries) history.sound frame kind refs refresh visible is))
              ∙ sym (qp_of-last entries one (moment.packets + index)
              (ap (has_code (command_list entries)) (sym number) ∙ not_yet enc whole moment sent (command_list entries) history.sound frame kind refs refresh visible is)
              (eq-eqb frame (moment.packets + index) number))
          | inr other ↦
              ap (option_map (λ (coding : Coding). coding.qp)) (coding-other moment.waiting (frame - moment.packets) index (coding_of one) other)
              ∙ history.qps index
              ∙ sym (qp_of-other entries one (moment.packets + index) (ne_eqb frame (moment.packets + index) (λ e. other (before_it index e))))
        ]
      where
        before_it : (index : ℕ) → frame ≡ moment.packets + index → index ≡ frame - moment.packets
        before_it index e = omega arith

    bytes_before : (rest : List LogEntry) → packet_bytes [] ((entries ++ entry ∷ []) ++ rest) ≡ map (λ packet. packet.bytes) packets ++ packet_bytes moment.pending (entry ∷ rest)
    bytes_before rest = ap (packet_bytes []) (append_assoc entries (entry ∷ []) rest) ∙ history.given.bytes (entry ∷ rest)

    pub history-entry : (log : List LogEntry) → shows entry.command ≡ false → IsHistory enc whole (with_entry moment entry log) sent (entries ++ entry ∷ []) packets
    history-entry log hides = record {
      sound = subst (IsSound enc whole (with_entry moment entry log) sent) (sym commands_push)
          (sound-entry enc whole moment sent (command_list entries) history.sound entry log due next hides);
      qps = noted_qps entry.command next hides;
      given = record {
        count = history.given.count;
        bytes = λ rest. bytes_before rest
            ∙ ap (λ (l : List (List ℕ)). map (λ packet. packet.bytes) packets ++ l)
            (cond-false (shows entry.command) ((delimiter ++ moment.pending ++ entry.bytes) ∷ packet_bytes [] rest) (packet_bytes (moment.pending ++ entry.bytes) rest) hides);
        numbers = history.given.numbers;
        types = types_before;
        qps = qps_before;
        sources = history.given.sources;
        opaques = history.given.opaques;
      };
    }

    module _ (log : List LogEntry) (visible : shows entry.command ≡ true) (packet : Packet T O) (given : IsNextPacket moment entry packet) where
      sound_then : IsSound enc whole (with_packet moment log) sent (command_list entries ++ entry.command ∷ [])
      sound_then = sound-packet enc whole moment sent (command_list entries) history.sound entry.command due next log visible

      -- the type of the frame that is shown
      shown_type : (command : Command) → slice_get (plan_at enc moment) moment.commands ≡ Some command → shows command ≡ true →
          option_map (λ coding. coding.kind) (shown_coding (record entry { command = command }) given.first) ≡ kind_of (command_list entries ++ command ∷ []) moment.packets
      shown_type (Show slot) is visibly =
          let here : moment.packets + 0 ≡ moment.packets = omega arith in
          ap (λ (o : Option (Waiting T O)). option_map (λ coding. coding.kind) (option_and_then (λ one. one.coded) o)) (sym given.is_first)
          ∙ history.sound.kinds 0
          ∙ ap (kind_of (command_list entries)) here
          ∙ sym (kind_of-other (command_list entries) (Show slot) moment.packets refl)
      shown_type (Code frame kind refs refresh shown) is visibly =
          let command : slice_get (plan_at enc moment) moment.commands ≡ Some (Code frame kind refs refresh true) = is ∙ ap (λ (t : Bool). Some (Code frame kind refs refresh t)) visibly in
          let same : frame ≡ moment.packets = (plan-of enc moment).code moment.commands frame kind refs refresh command ∙ sym (packets-are enc whole moment sent (command_list entries) history.sound) in
          sym (kind_of-last (command_list entries) frame kind refs refresh shown
          (ap (λ (l : List Command). has_code l frame) history.sound.commands ∙ not_before (plan_at enc moment) moment.accepted (plan-of enc moment) moment.commands frame kind refs refresh shown is))
          ∙ ap (kind_of (command_list entries ++ Code frame kind refs refresh shown ∷ [])) same

      type_now : packet.frame_type ≡ coded_kind (command_list (entries ++ entry ∷ [])) (length packets)
      type_now =
          same_Some packet.frame_type (coded_kind (command_list entries ++ entry.command ∷ []) moment.packets)
          (given.frame_type ∙ shown_type entry.command next visible
          ∙ kind_of-coded (command_list entries ++ entry.command ∷ []) moment.packets (sound_then.coded moment.packets below))
          ∙ ap₂ coded_kind (sym commands_push) (sym history.given.count)
        where
          below : moment.packets < moment.packets + 1
          below = omega arith

      -- the index of the frame that is shown
      shown_qp : (command : Command) → slice_get (plan_at enc moment) moment.commands ≡ Some command → shows command ≡ true →
          option_map (λ coding. coding.qp) (shown_coding (record entry { command = command }) given.first) ≡ qp_of (entries ++ record entry { command = command } ∷ []) moment.packets
      shown_qp (Show slot) is visibly =
          let here : moment.packets + 0 ≡ moment.packets = omega arith in
          ap (λ (o : Option (Waiting T O)). option_map (λ coding. coding.qp) (option_and_then (λ one. one.coded) o)) (sym given.is_first)
          ∙ history.qps 0
          ∙ ap (qp_of entries) here
          ∙ sym (qp_of-other entries (record entry { command = Show slot }) moment.packets refl)
      shown_qp (Code frame kind refs refresh shown) is visibly =
          let command : slice_get (plan_at enc moment) moment.commands ≡ Some (Code frame kind refs refresh true) = is ∙ ap (λ (t : Bool). Some (Code frame kind refs refresh t)) visibly in
          let same : frame ≡ moment.packets = (plan-of enc moment).code moment.commands frame kind refs refresh command ∙ sym (packets-are enc whole moment sent (command_list entries) history.sound) in
          sym (qp_of-last entries (record entry { command = Code frame kind refs refresh shown }) moment.packets
          (ap (has_code (command_list entries)) (sym same) ∙ not_yet enc whole moment sent (command_list entries) history.sound frame kind refs refresh shown is)
          (eq-eqb frame moment.packets same))

      qp_now : packet.qp ≡ coded_qp (entries ++ entry ∷ []) (length packets)
      qp_now =
          same_Some packet.qp (coded_qp (entries ++ entry ∷ []) moment.packets)
          (given.qp ∙ shown_qp entry.command next visible
          ∙ qp_of-coded (entries ++ entry ∷ []) moment.packets
          (ap (λ (l : List Command). has_code l moment.packets) commands_push ∙ sound_then.coded moment.packets below))
          ∙ ap (coded_qp (entries ++ entry ∷ [])) (sym history.given.count)
        where
          below : moment.packets < moment.packets + 1
          below = omega arith

      qps_then : (index : ℕ) → waiting_qp (drop 1 moment.waiting) index ≡ qp_of (entries ++ entry ∷ []) (moment.packets + 1 + index)
      qps_then index =
          let number : moment.packets + (1 + index) ≡ moment.packets + 1 + index = omega arith in
          let above : showing (take moment.commands (plan_at enc moment)) < moment.packets + 1 + index =
          omega (arith, packets-are enc whole moment sent (command_list entries) history.sound) in
          ap (λ (o : Option (Waiting T O)). option_map (λ coding. coding.qp) (option_and_then (λ one. one.coded) o)) (slice_get-drop 1 moment.waiting index)
          ∙ history.qps (1 + index)
          ∙ ap (qp_of entries) number
          ∙ sym (qp_of-other entries entry (moment.packets + 1 + index)
          (codes_none_later (plan_at enc moment) moment.accepted (plan-of enc moment) moment.commands entry.command (moment.packets + 1 + index) next visible above))

      first_sent : slice_get sent (length packets) ≡ Some given.first.frame
      first_sent =
          let here : moment.packets + 0 ≡ length packets = omega (arith, history.given.count) in
          ap (slice_get sent) (sym here)
          ∙ sym (slice_get-drop moment.packets sent 0)
          ∙ ap (λ (l : List (Accepted T O)). slice_get l 0) (sym history.sound.frames)
          ∙ slice_get-map frame_of moment.waiting 0
          ∙ ap (option_map frame_of) given.is_first

      pub history-packet : IsHistory enc whole (with_packet moment log) sent (entries ++ entry ∷ []) (packets ++ packet ∷ [])
      history-packet = record {
        sound = subst (IsSound enc whole (with_packet moment log) sent) (sym commands_push) sound_then;
        qps = qps_then;
        given = record {
          count = length_push packets packet ∙ ap (λ (n : ℕ). n + 1) history.given.count;
          bytes = bytes_after;
          numbers = numbers_push (λ (p : Packet T O). p.input_frameno) packets packet history.given.numbers (given.number ∙ sym history.given.count);
          types = map_range_push (λ (p : Packet T O). p.frame_type) (coded_kind (command_list (entries ++ entry ∷ []))) packets packet types_before type_now;
          qps = map_range_push (λ (p : Packet T O). p.qp) (coded_qp (entries ++ entry ∷ [])) packets packet qps_before qp_now;
          sources = map_sent_push source_of (λ (a : Accepted T O). Some a.picture) packets packet sent given.first.frame history.given.sources first_sent given.source;
          opaques = map_sent_push (λ (p : Packet T O). p.opaque) (λ (a : Accepted T O). a.opaque) packets packet sent given.first.frame history.given.opaques first_sent given.opaque;
        };
      }
        where
          bytes_after : (rest : List LogEntry) → packet_bytes [] ((entries ++ entry ∷ []) ++ rest) ≡ map (λ packet. packet.bytes) (packets ++ packet ∷ []) ++ packet_bytes [] rest
          bytes_after rest =
              bytes_before rest
              ∙ ap (λ (l : List (List ℕ)). map (λ packet. packet.bytes) packets ++ l)
              (cond-true (shows entry.command) ((delimiter ++ moment.pending ++ entry.bytes) ∷ packet_bytes [] rest) (packet_bytes (moment.pending ++ entry.bytes) rest) visible
              ∙ ap (λ (x : List ℕ). x ∷ packet_bytes [] rest) (sym given.bytes))
              ∙ sym (append_assoc (map (λ packet. packet.bytes) packets) (packet.bytes ∷ []) (packet_bytes [] rest))
              ∙ ap (λ (l : List (List ℕ)). l ++ packet_bytes [] rest) (sym (map_push (λ (p : Packet T O). p.bytes) packets packet))
