-- Without a bitrate the bytes of a session's packets follow from its frames and from what is told ahead, whatever its calls.
use Rattle.std.proofs.Common.{◌≡◌, ℕ, zero, suc, ◌+◌, ◌-◌, ◌<◌, ◌≤◌, Bool, true, false, cond, not, ◌&&◌, List, [], ◌∷◌, ◌++◌, map, filter, length, take, All, IsTrue, MatchBool, MatchOption, Global, Option, None, Some, ℤ, pos, refl, sym, ap, ap₂, ◌∙◌, subst, arith, append_assoc, append-nil, length-append}
use Rattle.std.specs.Prelude.{⊤, IfSome, IsSome, int_lt, flat_map, slice_get}
use Rattle.std.specs.List.{range_with_len}
use Rattle.std.specs.Option.{option_map, option_map_or, option_to_list}
use Rattle.std.specs.declared.sync.Arc.{Arc}
use Rattle.std.proofs.lemmas.Bool.{and_right, and_left, cond-false, false≢true}
use Rattle.std.proofs.lemmas.List.{length-map, map-append}
use Rattle.std.proofs.lemmas.Option.{none-some, same_Some, slice_get-map}
use Rattle.coding_base.specs.Runs.{Runs, after_calls}
use Rattle.av1_frame.specs.declared.frame.Frame.{Frame}
use Rattle.av1_frame.specs.Planes.{fits}
use Rattle.av1_settings.specs.declared.encoder.EncoderConfig.{EncoderConfig}
use Rattle.av1_settings.specs.declared.status.EncoderStatus.{EncoderStatus}
use Rattle.pyramid.specs.declared.command.Command.{Command}
use Rattle.pyramid.specs.declared.command.Command.TheVariants.{Code, Show}
use Rattle.pyramid.specs.Display.{Slots, empty_slots, held, slots_after_one}
use Rattle.pyramid.specs.Known.{is_coding}
use Rattle.pyramid.specs.Subtypes.{subtype_of}
use Rattle.quantizers.specs.Tables.{Tables}
use Rattle.quantizers.specs.declared.parameters.QuantizerParameters.{QuantizerParameters}
use Rattle.ratecontrol.proofs.KeptLaws.{kept_bitrate}
use Rattle.ratecontrol.specs.declared.guess.Guess.{Guess}
use Rattle.ratecontrol.specs.Select.{select_flat}
use Rattle.ratecontrol.specs.Start.{start}
use Rattle.session_core.specs.declared.call.Call.{Call}
use Rattle.session_core.specs.declared.call.Call.TheVariants.{Send, Flush, Receive}
use Rattle.session_core.specs.declared.packet.Packet.{Packet}
use Rattle.session_core.specs.declared.transcript.Decision.{Decision}
use Rattle.session_core.specs.declared.transcript.Reply.{Reply}
use Rattle.session_core.specs.declared.transcript.Reply.TheVariants.{Sent, Flushed, Packet as GivesPacket, Status}
use Rattle.session_core.specs.declared.transcript.Transcript.{Transcript}
use Rattle.session_core.specs.declared.transcript.Turn.{Turn}
use Rattle.session_core.specs.Moments.{Accepted, Moment, opening, plan_at}
use Rattle.session_core.specs.Quantisers.{AreSelected, IsQuantised, quantisers_at}
use Rattle.session_core.specs.Questions.{AreAnswered}
use Rattle.session_core.specs.Scales.{clamped, frame_of, frames_of, scales_of}
use Rattle.session_core.specs.Sessions.{IsPrefix, IsSessionRun, accepted_by, accepted_in, commands_of, entries_of, handed_entries, handed_of, moment_after, moment_at, packet_bytes, packets_of, picture_sent}
use Rattle.session_core.specs.Told.{AreNext, DetectorTold, Gave, Handed, Heard, Scaled, Told}
use Rattle.session_core.specs.Turns.{CodesNext, IsTrial, IsTurn, OnlyReplies, accepted_of, after_receive, after_send, after_turn, delimiter, held_back, is_showing, real_entries}
use Rattle.session_log.proofs.Logs.{started_bitrate}
use Rattle.session_log.specs.declared.entry.LogEntry.{LogEntry}
use Rattle.session_log.specs.Passes.{no_passes, started}
use Rattle.session_log.specs.Readings.{measured, settings_of, start_of}
use Rattle.session_log.specs.Selection.{is_trial_due, selection}
use Rattle.gop_board.proofs.Alike.{plan-is, plan_by}
use Rattle.gop_board.proofs.SameCalls.{Plain, Unkeyed, unkeyed-all}
use Rattle.gop_board.proofs.SameEntries.{entry_with, no-cons, same-head, same-tail}

-- ---- an entry without a bitrate

abbrev quant_of : EncoderConfig → Tables → Command → ℤ → Option QuantizerParameters
quant_of enc tables (Code frame kind refs refresh shown) scale =
    Some (select_flat (settings_of enc) tables (subtype_of (Code frame kind refs refresh shown)) scale)
quant_of enc tables (Show slot) scale = None

abbrev scale_of : (ℕ → ℤ) → Command → ℤ
scale_of at (Code frame kind refs refresh shown) = clamped (at frame)
scale_of at (Show slot) = pos 0

flat-selected : (enc : EncoderConfig) (tables : Tables) (log : List LogEntry) (guess : ℤ → Guess) (gop_start : ℕ) (command : Command) (scale : ℤ) → int_lt (pos 0) enc.bitrate ≡ false →
    selection enc tables no_passes log guess gop_start command scale ≡ select_flat (settings_of enc) tables (subtype_of command) scale
unfolding selection
flat-selected enc tables log guess gop_start command scale low =
    cond-false _ _ _ (ap (λ (rate : ℤ). int_lt (pos 0) rate) (kept_bitrate (started enc no_passes) (map measured log) ∙ started_bitrate enc no_passes) ∙ low)

-- no tries, flat quantisers, and no mean scale of a show
pub record IsFlat (enc : EncoderConfig) (tables : Tables) (entry : LogEntry) : Type 0 where
  pub real : entry.trial ≡ false
  pub quant : entry.quant ≡ quant_of enc tables entry.command entry.mean_scale
  pub unscaled : is_coding entry.command ≡ false → entry.mean_scale ≡ pos 0

abbrev AreFlat : EncoderConfig → Tables → List LogEntry → Type 0
AreFlat enc tables [] = ⊤
AreFlat enc tables (entry ∷ entries) = IsFlat enc tables entry × AreFlat enc tables entries

flat-append : (enc : EncoderConfig) (tables : Tables) (entries more : List LogEntry) → AreFlat enc tables entries → AreFlat enc tables more → AreFlat enc tables (entries ++ more)
flat-append enc tables [] more a b = b
flat-append enc tables (entry ∷ entries) more a b = (a.0, flat-append enc tables entries more a.1 b)

start-bitrate : (enc : EncoderConfig) → (start_of enc).bitrate ≡ enc.bitrate
unfolding start
start-bitrate enc = refl

not-due : (enc : EncoderConfig) (log : List LogEntry) (command : Command) → int_lt (pos 0) enc.bitrate ≡ false → is_trial_due enc log command ≡ false
not-due enc log command low =
    and_right (is_coding command) _ (and_left (int_lt (pos 0) (start_of enc).bitrate) _ (ap (λ (rate : ℤ). int_lt (pos 0) rate) (start-bitrate enc) ∙ low))

module _ {T : Type 0} (enc : EncoderConfig) (tables : Tables) (low : int_lt (pos 0) enc.bitrate ≡ false) where
  quant-by : (m : Moment T ⊤) (before : List LogEntry) (command : Command) (scale : ℤ) → quantisers_at enc tables no_passes m before (entry_with command [] false None scale) ≡ quant_of enc tables command scale
  quant-by m before (Code frame kind refs refresh shown) scale =
      ap (λ (q : QuantizerParameters). Some q) (flat-selected enc tables before _ _ (Code frame kind refs refresh shown) scale low)
  quant-by m before (Show slot) scale = refl

  flat-code : (m : Moment T ⊤) (turn : Turn T ⊤) → CodesNext enc m turn → IsQuantised enc tables no_passes m turn → AreFlat enc tables turn.log
  flat-code m turn codes quantised = subst (λ (l : List LogEntry). AreFlat enc tables l) (sym one) (flat, tt)
    where
      none : codes.trials ≡ []
      none = subst (λ (b : Bool). MatchBool b (IsTrial codes.entry.command codes.trials) (codes.trials ≡ [])) (not-due enc m.log codes.entry.command low) codes.tried

      one : turn.log ≡ codes.entry ∷ []
      one = codes.log ∙ ap (λ (l : List LogEntry). l ++ codes.entry ∷ []) none

      selected : AreSelected enc tables no_passes m m.log (codes.entry ∷ [])
      selected = subst (λ (l : List LogEntry). AreSelected enc tables no_passes m m.log l) one quantised.selected

      flat : IsFlat enc tables codes.entry
      flat = record { real = codes.real; quant = selected.0 ∙ quant-by m m.log codes.entry.command codes.entry.mean_scale; unscaled = codes.unscaled }

  flat-turn : (D : List Decision) (m : Moment T ⊤) (call : Call T ⊤) (turn : Turn T ⊤) → IsTurn enc D m call turn → IsQuantised enc tables no_passes m turn → AreFlat enc tables turn.log
  flat-turn D m (Send frame parameters) turn is quantised = subst (λ (l : List LogEntry). AreFlat enc tables l) (sym is.0.1) tt
  flat-turn D m Flush turn is quantised = subst (λ (l : List LogEntry). AreFlat enc tables l) (sym is.0.1) tt
  flat-turn D m Receive turn is quantised = by (held_back enc m) refl
    where
      by : (held : Option EncoderStatus) → held_back enc m ≡ held → AreFlat enc tables turn.log
      by None e = flat-code m turn (subst (λ (o : Option EncoderStatus). MatchOption o (CodesNext enc m turn) (λ status. OnlyReplies turn (Status status))) e is) quantised
      by (Some status) e =
          let only : OnlyReplies turn (Status status) = subst (λ (o : Option EncoderStatus). MatchOption o (CodesNext enc m turn) (λ status. OnlyReplies turn (Status status))) e is in
          subst (λ (l : List LogEntry). AreFlat enc tables l) (sym only.1) tt

  flat-turns : (D : List Decision) (m : Moment T ⊤) (calls : List (Call T ⊤)) (turns : List (Turn T ⊤)) → Runs (IsTurn enc D) (after_turn enc D) m calls turns →
      Runs (λ moment call turn. IsQuantised enc tables no_passes moment turn) (after_turn enc D) m calls turns → AreFlat enc tables (entries_of turns)
  flat-turns D m [] [] runs quantised = tt
  flat-turns D m [] (turn ∷ turns) runs quantised = absurd runs
  flat-turns D m (call ∷ calls) [] runs quantised = absurd runs
  flat-turns D m (call ∷ calls) (turn ∷ turns) runs quantised =
      flat-append enc tables turn.log (entries_of turns) (flat-turn D m call turn runs.0 quantised.0) (flat-turns D (after_turn enc D m call turn) calls turns runs.1 quantised.1)

real-flat : (enc : EncoderConfig) (tables : Tables) (entries : List LogEntry) → AreFlat enc tables entries → real_entries entries ≡ entries
real-flat enc tables [] flat = refl
real-flat enc tables (entry ∷ entries) flat =
    ap (λ (b : Bool). cond (not b) (entry ∷ real_entries entries) (real_entries entries)) flat.0.real ∙ ap (λ (l : List LogEntry). entry ∷ l) (real-flat enc tables entries flat.1)

-- ---- mean scales

abbrev AreScaledBy : (ℕ → ℤ) → List LogEntry → Type 0
AreScaledBy at [] = ⊤
AreScaledBy at (entry ∷ entries) = (entry.mean_scale ≡ scale_of at entry.command) × AreScaledBy at entries

abbrev paired : {T : Type 0} → ℕ → Frame T → ℕ × Frame T
paired number picture = (number, picture)

option-few : {A : Type 0} (o : Option A) → length (option_to_list o) ≤ 1
option-few None = omega arith
option-few (Some x) = omega arith

module _ {T : Type 0} (at : ℕ → ℤ) (picture : ℕ → Option (Frame T)) where
  abbrev framed : List LogEntry → List (ℕ × Frame T)
  framed entries = flat_map (λ entry. frame_of picture entry.command) entries

  abbrev scales : List LogEntry → List ℤ
  scales entries = map (λ entry. entry.mean_scale) (filter (λ entry. is_coding entry.command) entries)

  few-one : (command : Command) (bytes : List ℕ) (trial : Bool) (quant : Option QuantizerParameters) (scale : ℤ) (entries : List LogEntry) → length (framed entries) ≤ length (scales entries) →
      length (framed (entry_with command bytes trial quant scale ∷ entries)) ≤ length (scales (entry_with command bytes trial quant scale ∷ entries))
  few-one (Code frame kind refs refresh shown) bytes trial quant scale entries few =
      let here : Option (ℕ × Frame T) = option_map (paired frame) (picture frame) in
      omega (arith, length-append (option_to_list here) (framed entries), option-few here, few)
  few-one (Show slot) bytes trial quant scale entries few = few

  few : (entries : List LogEntry) → length (framed entries) ≤ length (scales entries)
  few [] = omega arith
  few (entry ∷ entries) = few-one entry.command entry.bytes entry.trial entry.quant entry.mean_scale entries (few entries)

  abbrev numbered : Scaled T → ℕ × Frame T
  numbered one = (one.number, one.picture)

  scaled-one : (command : Command) (bytes : List ℕ) (trial : Bool) (quant : Option QuantizerParameters) (scale : ℤ) (entries : List LogEntry) (taken : List (Scaled T)) →
      ((rest : List (Scaled T)) → map numbered rest ≡ framed entries → map (λ one. clamped one.answer) rest ≡ scales entries → All (λ one. one.answer ≡ at one.number) rest → AreScaledBy at entries) →
      (is_coding command ≡ false → scale ≡ pos 0) → map numbered taken ≡ framed (entry_with command bytes trial quant scale ∷ entries) →
      map (λ one. clamped one.answer) taken ≡ scales (entry_with command bytes trial quant scale ∷ entries) → All (λ one. one.answer ≡ at one.number) taken →
      (scale ≡ scale_of at command) × AreScaledBy at entries
  scaled-one (Show slot) bytes trial quant scale entries taken later unscaled frames used ahead = (unscaled refl, later taken frames used ahead)
  scaled-one (Code frame kind refs refresh shown) bytes trial quant scale entries [] later unscaled frames used ahead = absurd (no-cons _ _ used)
  scaled-one (Code frame kind refs refresh shown) bytes trial quant scale entries (one ∷ taken) later unscaled frames used ahead = by (picture frame) frames
    where
      by : (o : Option (Frame T)) → map numbered (one ∷ taken) ≡ option_to_list (option_map (paired frame) o) ++ framed entries →
          (scale ≡ scale_of at (Code frame kind refs refresh shown)) × AreScaledBy at entries
      by None e =
          let many : length (map numbered (one ∷ taken)) ≡ length (framed entries) = ap (λ (l : List (ℕ × Frame T)). length l) e in
          let gone : length (map (λ (x : Scaled T). clamped x.answer) taken) ≡ length (scales entries) = ap (λ (l : List ℤ). length l) (same-tail _ _ _ _ used) in
          absurd (omega (arith, many, gone, few entries, length-map taken numbered, length-map taken (λ (x : Scaled T). clamped x.answer)))
      by (Some p) e = (
        sym (same-head _ _ _ _ used) ∙ ap clamped (ahead 0 one (omega arith)) ∙ ap (λ (n : ℕ). clamped (at n)) (ap (λ (x : ℕ × Frame T). x.0) (same-head _ _ _ _ e)),
        later taken (same-tail _ _ _ _ e) (same-tail _ _ _ _ used) (λ k d within. ahead (suc k) d (omega arith)),
      )

  scaled-all : (enc : EncoderConfig) (tables : Tables) (entries : List LogEntry) (taken : List (Scaled T)) → AreFlat enc tables entries → map numbered taken ≡ framed entries →
      map (λ one. clamped one.answer) taken ≡ scales entries → All (λ one. one.answer ≡ at one.number) taken → AreScaledBy at entries
  scaled-all enc tables [] taken flat frames used ahead = tt
  scaled-all enc tables (entry ∷ entries) taken flat frames used ahead =
      scaled-one entry.command entry.bytes entry.trial entry.quant entry.mean_scale entries taken
      (λ rest. scaled-all enc tables entries rest flat.1) flat.0.unscaled frames used ahead

-- ---- what a coder is handed, by the commands

abbrev entry_for : EncoderConfig → Tables → (ℕ → ℤ) → Command → LogEntry
entry_for enc tables at command = entry_with command [] false (quant_of enc tables command (scale_of at command)) (scale_of at command)

handed-same : {T : Type 0} (enc : EncoderConfig) (tables : Tables) (at : ℕ → ℤ) (sent : List (Accepted T ⊤)) (slots : Slots) (entries : List LogEntry) → AreFlat enc tables entries → AreScaledBy at entries →
    handed_entries sent slots entries ≡ handed_entries sent slots (map (entry_for enc tables at) (map (λ entry. entry.command) entries))
handed-same enc tables at sent slots [] flat scaled = refl
handed-same {T} enc tables at sent slots (entry ∷ entries) flat scaled =
    ap₂ (λ (a b : List (Handed T)). a ++ b)
    (ap₂ (λ (t : Bool) (q : Option QuantizerParameters). handed_of sent slots (entry_with entry.command [] t q (pos 0))) flat.0.real
    (flat.0.quant ∙ ap (λ (s : ℤ). quant_of enc tables entry.command s) scaled.0))
    (ap (λ (t : Bool). handed_entries sent (cond t slots (slots_after_one slots entry.command)) entries) flat.0.real
    ∙ handed-same enc tables at sent (slots_after_one slots entry.command) entries flat.1 scaled.1)

handed-front : {T : Type 0} (sent : List (Accepted T ⊤)) (slots : Slots) (entries later : List LogEntry) →
    (more : List (Handed T)) × (handed_entries sent slots (entries ++ later) ≡ handed_entries sent slots entries ++ more)
handed-front sent slots [] later = (handed_entries sent slots later, refl)
handed-front {T} sent slots (entry ∷ entries) later =
    let rest = handed-front sent (cond entry.trial slots (slots_after_one slots entry.command)) entries later in
    (rest.0, ap (λ (l : List (Handed T)). handed_of sent slots entry ++ l) rest.1 ∙ sym (append_assoc (handed_of sent slots entry) (handed_entries sent (cond entry.trial slots (slots_after_one slots entry.command)) entries) rest.0))

-- ---- what it gives

abbrev told_by : {T : Type 0} → (List (Told T) → Handed T → Gave T) → List (Told T) → List (Handed T) → List (Told T)
told_by next history [] = []
told_by next history (one ∷ handed) =
    record { handed = one; gave = next history one } ∷ told_by next (history ++ record { handed = one; gave = next history one } ∷ []) handed

taken-is : {T : Type 0} (next : List (Told T) → Handed T → Gave T) (history taken : List (Told T)) (handed : List (Handed T)) → AreNext next history taken → map (λ one. one.handed) taken ≡ handed →
    taken ≡ told_by next history handed
taken-is next history [] [] ahead same = refl
taken-is next history [] (h ∷ handed) ahead same = absurd (no-cons _ _ same)
taken-is next history (one ∷ taken) [] ahead same = absurd (no-cons _ _ (sym same))
taken-is {T} next history (one ∷ taken) (h ∷ handed) ahead same =
    ap₂ (λ (x : Told T) (xs : List (Told T)). x ∷ xs) this
    (taken-is next (history ++ one ∷ []) taken handed ahead.1 (same-tail _ _ _ _ same) ∙ ap (λ (x : Told T). told_by next (history ++ x ∷ []) handed) this)
  where
    is : one.handed ≡ h
    is = same-head _ _ _ _ same

    this : one ≡ record { handed = h; gave = next history h }
    this = ap₂ (λ (x : Handed T) (y : Gave T). record { handed = x; gave = y }) is (ahead.0 ∙ ap (next history) is)

told-front : {T : Type 0} (next : List (Told T) → Handed T → Gave T) (history : List (Told T)) (handed later : List (Handed T)) →
    (more : List (Told T)) × (told_by next history (handed ++ later) ≡ told_by next history handed ++ more)
told-front next history [] later = (told_by next history later, refl)
told-front {T} next history (h ∷ handed) later =
    let rest = told-front next (history ++ record { handed = h; gave = next history h } ∷ []) handed later in
    (rest.0, ap (λ (l : List (Told T)). record { handed = h; gave = next history h } ∷ l) rest.1)

-- ---- packets

abbrev packets_by : List ℕ → List Command → List (List ℕ) → List (List ℕ)
packets_by pending [] bytes = []
packets_by pending (command ∷ commands) [] = []
packets_by pending (command ∷ commands) (one ∷ bytes) =
    cond (is_showing command) ((delimiter ++ pending ++ one) ∷ packets_by [] commands bytes) (packets_by (pending ++ one) commands bytes)

packets-by : (pending : List ℕ) (entries : List LogEntry) → packet_bytes pending entries ≡ packets_by pending (map (λ entry. entry.command) entries) (map (λ entry. entry.bytes) entries)
packets-by pending [] = refl
packets-by pending (entry ∷ entries) =
    ap₂ (λ (x y : List (List ℕ)). cond (is_showing entry.command) ((delimiter ++ pending ++ entry.bytes) ∷ x) y) (packets-by [] entries) (packets-by (pending ++ entry.bytes) entries)

packets-front : (pending : List ℕ) (commands later : List Command) (bytes more : List (List ℕ)) → length commands ≡ length bytes →
    (rest : List (List ℕ)) × (packets_by pending (commands ++ later) (bytes ++ more) ≡ packets_by pending commands bytes ++ rest)
packets-front pending [] later [] more same = (packets_by pending later more, refl)
packets-front pending [] later (one ∷ bytes) more same = absurd (omega (arith, same))
packets-front pending (command ∷ commands) later [] more same = absurd (omega (arith, same))
packets-front pending (command ∷ commands) later (one ∷ bytes) more same =
    let fewer : length commands ≡ length bytes = omega (arith, same) in
    by (is_showing command) (packets-front [] commands later bytes more fewer) (packets-front (pending ++ one) commands later bytes more fewer)
  where
    by : (shows : Bool) → (rest : List (List ℕ)) × (packets_by [] (commands ++ later) (bytes ++ more) ≡ packets_by [] commands bytes ++ rest) →
        (rest : List (List ℕ)) × (packets_by (pending ++ one) (commands ++ later) (bytes ++ more) ≡ packets_by (pending ++ one) commands bytes ++ rest) →
        (rest : List (List ℕ)) × (cond shows ((delimiter ++ pending ++ one) ∷ packets_by [] (commands ++ later) (bytes ++ more)) (packets_by (pending ++ one) (commands ++ later) (bytes ++ more))
        ≡ cond shows ((delimiter ++ pending ++ one) ∷ packets_by [] commands bytes) (packets_by (pending ++ one) commands bytes) ++ rest)
    by true here there = (here.0, ap (λ (l : List (List ℕ)). (delimiter ++ pending ++ one) ∷ l) here.1)
    by false here there = there

slice-front : {X : Type 0} (xs more : List X) (k : ℕ) (x : X) → slice_get xs k ≡ Some x → slice_get (xs ++ more) k ≡ Some x
slice-front [] more k x is = absurd (none-some x is)
slice-front (y ∷ xs) more zero x is = is
slice-front (y ∷ xs) more (suc k) x is = slice-front xs more k x is

-- ---- one session

take-whole : {X : Type 0} (xs : List X) → take (length xs) xs ≡ xs
take-whole [] = refl
take-whole {X} (x ∷ xs) = ap (λ (l : List X). x ∷ l) (take-whole xs)

pub map-twice : {X Y Z : Type 0} (f : X → Y) (g : Y → Z) (xs : List X) → map g (map f xs) ≡ map (λ x. g (f x)) xs
map-twice f g [] = refl
map-twice {X} {Y} {Z} f g (x ∷ xs) = ap (λ (l : List Z). g (f x) ∷ l) (map-twice f g xs)

-- accepted frames are counted
accepted-by : {T : Type 0} (enc : EncoderConfig) (D : List Decision) (m : Moment T ⊤) (call : Call T ⊤) (turn : Turn T ⊤) →
    (after_turn enc D m call turn).accepted ≡ m.accepted + length (accepted_by call turn.reply)
accepted-by {T} enc D m (Send frame parameters) turn = by turn.reply
  where
    by : (reply : Reply T ⊤) → (after_send enc D m (accepted_of frame.value parameters) reply).accepted ≡ m.accepted + length (accepted_by (Send frame parameters) reply)
    by (Sent number) = refl
    by Flushed = omega arith
    by (GivesPacket packet) = omega arith
    by (Status status) = omega arith
accepted-by enc D m Flush turn = omega arith
accepted-by {T} enc D m Receive turn = by turn.reply
  where
    by : (reply : Reply T ⊤) → (after_receive m turn.log reply).accepted ≡ m.accepted + 0
    by (Sent number) = omega arith
    by Flushed = omega arith
    by (GivesPacket packet) = omega arith
    by (Status status) = omega arith

accepted-count : {T : Type 0} (enc : EncoderConfig) (D : List Decision) (m : Moment T ⊤) (calls : List (Call T ⊤)) (turns : List (Turn T ⊤)) →
    (after_calls (after_turn enc D) m calls turns).accepted ≡ m.accepted + length (accepted_in calls turns)
accepted-count enc D m [] turns = omega arith
accepted-count enc D m (call ∷ calls) [] = omega arith
accepted-count enc D m (call ∷ calls) (turn ∷ turns) =
    omega (arith, accepted-count enc D (after_turn enc D m call turn) calls turns, accepted-by enc D m call turn, length-append (accepted_by call turn.reply) (accepted_in calls turns))

-- frames sent without parameters
abbrev pub sent_plainly : {T : Type 0} → List (Frame T) → List (Accepted T ⊤)
sent_plainly pictures = map (λ picture. accepted_of picture None) pictures

plain-sent : {T : Type 0} (pictures : List (Frame T)) → Plain (sent_plainly pictures)
plain-sent [] = tt
plain-sent (picture ∷ pictures) = (refl, plain-sent pictures)

module _ {T : Type 0} (enc : EncoderConfig) (tables : Tables) (low : int_lt (pos 0) enc.bitrate ≡ false) (next : List (Told T) → Handed T → Gave T) (at : ℕ → ℤ) (pictures : List (Frame T)) where
  -- the bytes of what is coded for commands
  unfoldable pub bytes_for : List Command → List (List ℕ)
  bytes_for commands =
      map (λ one. one.gave.bytes) (told_by next [] (handed_entries (sent_plainly pictures) empty_slots (map (entry_for enc tables at) commands)))

  bytes-front : (commands later : List Command) → (more : List (List ℕ)) × (bytes_for (commands ++ later) ≡ bytes_for commands ++ more)
  unfolding bytes_for
  bytes-front commands later =
      let handed = handed-front (sent_plainly pictures) empty_slots (map (entry_for enc tables at) commands) (map (entry_for enc tables at) later) in
      let told = told-front next [] (handed_entries (sent_plainly pictures) empty_slots (map (entry_for enc tables at) commands)) handed.0 in (
        map (λ one. one.gave.bytes) told.0,
        ap (λ (l : List LogEntry). map (λ (one : Told T). one.gave.bytes) (told_by next [] (handed_entries (sent_plainly pictures) empty_slots l))) (map-append (entry_for enc tables at) commands later)
            ∙ ap (λ (l : List (Handed T)). map (λ (one : Told T). one.gave.bytes) (told_by next [] l)) handed.1
            ∙ ap (λ (l : List (Told T)). map (λ (one : Told T). one.gave.bytes) l) told.1
            ∙ map-append (λ (one : Told T). one.gave.bytes) (told_by next [] (handed_entries (sent_plainly pictures) empty_slots (map (entry_for enc tables at) commands))) told.0,
      )

  -- the bytes of the packets of commands
  unfoldable pub packets_for : List Command → List (List ℕ)
  packets_for commands = packets_by [] commands (bytes_for commands)

  pub packets-for-front : (commands later : List Command) → length commands ≡ length (bytes_for commands) →
      (more : List (List ℕ)) × (packets_for (commands ++ later) ≡ packets_for commands ++ more)
  unfolding packets_for
  packets-for-front commands later same =
      let bytes = bytes-front commands later in
      let front = packets-front [] commands later (bytes_for commands) bytes.0 same in
      (front.0, ap (λ (l : List (List ℕ)). packets_by [] (commands ++ later) l) bytes.1 ∙ front.1)

  module _ (calls : List (Call T ⊤)) (transcript : Transcript T ⊤) (before after : Heard T) (run : IsSessionRun enc tables calls transcript before after)
      (calls_told : before.coder.calls ≡ Some []) (gives : before.coder.gives ≡ Some next) (answers : before.scales.answers ≡ Some at)
      (sent : accepted_in calls transcript.turns ≡ sent_plainly pictures) (nothing : before.detector.answers ≡ Some (λ _. false)) where
    entries : List LogEntry
    entries = entries_of transcript.turns

    commands : List Command
    commands = map (λ entry. entry.command) (entries_of transcript.turns)

    flat : AreFlat enc tables (entries_of transcript.turns)
    flat = flat-turns enc tables low transcript.decisions opening calls transcript.turns run.played.turns run.quantised

    real : real_entries (entries_of transcript.turns) ≡ entries_of transcript.turns
    real = real-flat enc tables (entries_of transcript.turns) flat

    scaled : AreScaledBy at (entries_of transcript.turns)
    scaled = scaled-all at (picture_sent (accepted_in calls transcript.turns)) enc tables (entries_of transcript.turns) run.played.scaled.taken flat
        (run.played.scaled.frames ∙ ap (λ (l : List LogEntry). flat_map (λ (entry : LogEntry). frame_of (picture_sent (accepted_in calls transcript.turns)) entry.command) l) real)
        (run.played.scaled.used ∙ ap (λ (l : List LogEntry). map (λ (entry : LogEntry). entry.mean_scale) (filter (λ (entry : LogEntry). is_coding entry.command) l)) real)
        (subst (λ (o : Option (ℕ → ℤ)). All (λ (one : Scaled T). IfSome o (λ at. one.answer ≡ at one.number)) run.played.scaled.taken) answers run.played.scaled.ahead)

    ahead : AreNext next [] run.played.taken.taken
    ahead =
        subst (λ (g : Option (List (Told T) → Handed T → Gave T)). IfSome g (λ next. AreNext next [] run.played.taken.taken)) gives
        (subst (λ (c : Option (List (Told T))). IfSome c (λ calls. IfSome before.coder.gives (λ next. AreNext next calls run.played.taken.taken))) calls_told run.played.taken.ahead)

    handed : map (λ one. one.handed) run.played.taken.taken ≡ handed_entries (sent_plainly pictures) empty_slots (map (entry_for enc tables at) (map (λ entry. entry.command) (entries_of transcript.turns)))
    handed =
        run.played.taken.handed
        ∙ ap (λ (l : List (Accepted T ⊤)). handed_entries l empty_slots (entries_of transcript.turns)) sent
        ∙ handed-same enc tables at (sent_plainly pictures) empty_slots (entries_of transcript.turns) flat scaled

    bytes : map (λ entry. entry.bytes) (entries_of transcript.turns) ≡ bytes_for (map (λ entry. entry.command) (entries_of transcript.turns))
    unfolding bytes_for
    bytes =
        sym run.played.taken.bytes
        ∙ ap (λ (l : List (Told T)). map (λ (one : Told T). one.gave.bytes) l) (taken-is next [] run.played.taken.taken _ ahead handed)

    counts : length (map (λ (entry : LogEntry). entry.command) (entries_of transcript.turns)) ≡ length (bytes_for (map (λ entry. entry.command) (entries_of transcript.turns)))
    counts =
        length-map (entries_of transcript.turns) (λ (entry : LogEntry). entry.command)
        ∙ sym (length-map (entries_of transcript.turns) (λ (entry : LogEntry). entry.bytes))
        ∙ ap (λ (l : List (List ℕ)). length l) bytes

    unkeyed : Unkeyed transcript.decisions
    unkeyed = unkeyed-all (sent_plainly pictures) transcript.decisions 1 (plain-sent pictures)
        (subst (λ (l : List (Accepted T ⊤)). map (λ (decision : Decision). decision.forced) transcript.decisions
        ≡ map (λ (position : ℕ). option_map_or (λ (accepted : Accepted T ⊤). accepted.forced) (slice_get l position) false) (range_with_len 1 (length transcript.decisions))) sent run.played.keys.forced)
        (subst (λ (o : Option (ℕ → Bool)). AreAnswered o transcript.decisions) nothing run.played.asked.ahead)

    -- the commands begin the plan of the frames
    on-plan : IsPrefix (commands_of transcript.turns) (plan_by enc (length pictures))
    on-plan =
        let m : Moment T ⊤ = moment_after enc transcript.decisions calls transcript.turns in
        let count : m.accepted ≡ length pictures =
        accepted-count enc transcript.decisions opening calls transcript.turns ∙ ap (λ (l : List (Accepted T ⊤)). 0 + length l) sent ∙ plain-length in
        let all : IsPrefix (commands_of transcript.turns) (plan_at enc m) =
        subst (λ (l : List (Call T ⊤)). IsPrefix (commands_of transcript.turns) (plan_at enc (moment_after enc transcript.decisions l transcript.turns)))
        (ap (λ (n : ℕ). take n calls) run.played.headline.turn_for_each ∙ take-whole calls)
        (subst (λ (l : List (Turn T ⊤)). IsPrefix (commands_of l) (plan_at enc (moment_after enc transcript.decisions (take (length transcript.turns) calls) l))) (take-whole transcript.turns)
        (run.played.headline.on_plan (length transcript.turns) (omega arith))) in
        let un : Unkeyed m.decisions = subst (λ (l : List Decision). Unkeyed l) run.played.decided unkeyed in
        subst (λ (l : List Command). IsPrefix (commands_of transcript.turns) l) (plan-is enc m un ∙ ap (plan_by enc) count) all
      where
        plain-length : 0 + length (sent_plainly pictures) ≡ length pictures
        plain-length = omega (arith, length-map pictures (λ (picture : Frame T). accepted_of {O = ⊤} picture None))

    are-commands : commands_of transcript.turns ≡ map (λ entry. entry.command) (entries_of transcript.turns)
    are-commands = ap (λ (l : List LogEntry). map (λ (entry : LogEntry). entry.command) l) real

    packets-are : map (λ packet. packet.bytes) (packets_of transcript.turns) ≡ packets_for (map (λ entry. entry.command) (entries_of transcript.turns))
    unfolding packets_for
    packets-are =
        run.played.headline.packets.bytes
        ∙ ap (λ (l : List LogEntry). packet_bytes [] l) real
        ∙ packets-by [] (entries_of transcript.turns)
        ∙ ap (λ (l : List (List ℕ)). packets_by [] (map (λ (entry : LogEntry). entry.command) (entries_of transcript.turns)) l) bytes

    -- the bytes of a packet are those at its place among the packets of the plan
    pub packet-at : (place : ℕ) (packet : Packet T ⊤) → slice_get (packets_of transcript.turns) place ≡ Some packet →
        slice_get (packets_for (plan_by enc (length pictures))) place ≡ Some packet.bytes
    packet-at place packet is =
        let rest : IsPrefix (map (λ entry. entry.command) (entries_of transcript.turns)) (plan_by enc (length pictures)) =
        subst (λ (l : List Command). IsPrefix l (plan_by enc (length pictures))) are-commands on-plan in
        let front = packets-for-front (map (λ entry. entry.command) (entries_of transcript.turns)) rest.0 counts in
        let here : slice_get (packets_for (map (λ entry. entry.command) (entries_of transcript.turns))) place ≡ Some packet.bytes =
        ap (λ (l : List (List ℕ)). slice_get l place) (sym packets-are)
        ∙ slice_get-map (λ (one : Packet T ⊤). one.bytes) (packets_of transcript.turns) place
        ∙ ap (λ (o : Option (Packet T ⊤)). option_map (λ (one : Packet T ⊤). one.bytes) o) is in
        ap (λ (l : List (List ℕ)). slice_get l place) (ap packets_for rest.1 ∙ front.1)
        ∙ slice-front (packets_for (map (λ entry. entry.command) (entries_of transcript.turns))) front.0 place packet.bytes here
