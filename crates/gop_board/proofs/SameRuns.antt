-- Two sessions of the same calls, whose coders and mean scales tell ahead the same: their packets are the same.
use Rattle.std.proofs.Common.{◌≡◌, ℕ, ◌+◌, ◌-◌, Bool, true, false, not, cond, MatchBool, MatchOption, List, [], ◌∷◌, ◌++◌, map, filter, length, take, drop, All, ℤ, pos, Option, None, Some, refl, sym, ap, ap₂, ◌∙◌, subst, arith, append_assoc, append-nil, length-drop}
use Rattle.std.specs.Prelude.{⊤, IfSome}
use Rattle.std.specs.List.{flat_map}
use Rattle.std.specs.Option.{option_map, option_to_list}
use Rattle.std.proofs.lemmas.List.{map-append, take-append-drop}
use Rattle.std.proofs.lemmas.List.Concat.{flat_map-cons}
use Rattle.std.proofs.lemmas.Option.{same_Some}
use Rattle.av1_frame.specs.declared.frame.Frame.{Frame}
use Rattle.av1_settings.specs.declared.encoder.EncoderConfig.{EncoderConfig}
use Rattle.av1_settings.specs.declared.encoder_stats.EncoderStats.{EncoderStats}
use Rattle.av1_settings.specs.declared.frame_type.FrameType.{FrameType}
use Rattle.av1_settings.specs.declared.status.EncoderStatus.{EncoderStatus}
use Rattle.av1_settings.specs.declared.status.EncoderStatus.TheVariants.{Encoded}
use Rattle.pyramid.specs.declared.command.Command.{Command}
use Rattle.pyramid.specs.declared.command.Command.TheVariants.{Code, Show}
use Rattle.pyramid.specs.Known.{is_coding}
use Rattle.pyramid.specs.Settings.{numbers_of}
use Rattle.quantizers.specs.Tables.{Tables}
use Rattle.quantizers.specs.declared.parameters.QuantizerParameters.{QuantizerParameters}
use Rattle.session_log.specs.declared.entry.LogEntry.{LogEntry}
use Rattle.session_log.specs.Selection.{is_trial_due}
use Rattle.session_core.specs.declared.call.Call.{Call}
use Rattle.session_core.specs.declared.call.Call.TheVariants.{Send, Flush, Receive}
use Rattle.session_core.specs.declared.packet.Packet.{Packet}
use Rattle.session_core.specs.declared.transcript.Decision.{Decision}
use Rattle.session_core.specs.declared.transcript.Reply.{Reply}
use Rattle.session_core.specs.declared.transcript.Reply.TheVariants.{Sent, Flushed, Packet as GivesPacket, Status}
use Rattle.session_core.specs.declared.transcript.Turn.{Turn}
use Rattle.session_core.specs.Decisions.{decided_count}
use Rattle.session_core.specs.Moments.{Accepted, Coding, Moment, Waiting}
use Rattle.session_core.specs.Scales.{AreScaled, clamped, frame_of, frames_of, picture_at, scales_of}
use Rattle.session_core.specs.Sessions.{packets_of}
use Rattle.session_log.specs.Passes.{no_passes}
use Rattle.session_core.specs.Steps.{AreSteps, IsStep}
use Rattle.session_core.specs.Taken.{packet_of, shown_ones}
use Rattle.session_core.specs.Told.{AreNext, Gave, Grew, Handed, Heard, Scaled, ScalesTold, Told}
use Rattle.session_core.specs.Turns.{CodesNext, Decides, IsNextPacket, IsTrial, OnlyReplies, accepted_of, after_flush, after_receive, after_send, held_back, is_showing, real_entries, sent_reply, shown_coding}
use Rattle.gop_board.specs.JobLaws.{Seen, seen}
use Rattle.gop_board.proofs.SameCalls.{SameCall, SameCalls, Unkeyed, undecided, undecided-made, unkeyed-front, unkeyed-rest}
use Rattle.gop_board.proofs.SameEntries.{IsCoded, Mark, entries-same, entry_with, mark, no-cons, same-head}

-- ---- decisions

decisions-are : {T : Type 0} (enc : EncoderConfig) (m after : Moment T ⊤) → Decides enc m after → Unkeyed after.decisions →
    after.decisions ≡ m.decisions ++ undecided (length m.decisions + 1) (decided_count (numbers_of enc) after.accepted after.flushed - length m.decisions)
decisions-are enc m after decides un =
    sym (take-append-drop n after.decisions) ∙ ap₂ (λ (a b : List Decision). a ++ b) (sym decides.kept) (made ∙ ap (undecided (n + 1)) count)
  where
    n : ℕ
    n = length m.decisions

    made : drop (length m.decisions) after.decisions ≡ undecided (length m.decisions + 1) (length (drop (length m.decisions) after.decisions))
    made = undecided-made (length m.decisions + 1) (drop (length m.decisions) after.decisions) decides.made.positions decides.made.keys
        (unkeyed-rest (take (length m.decisions) after.decisions) (drop (length m.decisions) after.decisions)
        (subst Unkeyed (sym (take-append-drop (length m.decisions) after.decisions)) un))

    count : length (drop (length m.decisions) after.decisions) ≡ decided_count (numbers_of enc) after.accepted after.flushed - length m.decisions
    count = length-drop (length m.decisions) after.decisions ∙ ap (λ (c : ℕ). c - length m.decisions) decides.count

-- a send or a flush leaves one moment, whose decisions aren't known yet
moments-same : {T : Type 0} (enc : EncoderConfig) (m after other : Moment T ⊤) (B : List Decision → Moment T ⊤) →
    ((D E : List Decision) → (B D).accepted ≡ (B E).accepted) → ((D E : List Decision) → (B D).flushed ≡ (B E).flushed) →
    after ≡ B after.decisions → other ≡ B other.decisions → Decides enc m (B after.decisions) → Decides enc m (B other.decisions) →
    Unkeyed after.decisions → Unkeyed other.decisions → after ≡ other
moments-same {T} enc m after other B accepted flushed is too decides decided un unkeyed = is ∙ ap B same ∙ sym too
  where
    count : decided_count (numbers_of enc) after.accepted after.flushed ≡ decided_count (numbers_of enc) other.accepted other.flushed
    count = ap₂ (decided_count (numbers_of enc))
        (ap (λ (x : Moment T ⊤). x.accepted) is ∙ accepted after.decisions other.decisions ∙ sym (ap (λ (x : Moment T ⊤). x.accepted) too))
        (ap (λ (x : Moment T ⊤). x.flushed) is ∙ flushed after.decisions other.decisions ∙ sym (ap (λ (x : Moment T ⊤). x.flushed) too))

    same : after.decisions ≡ other.decisions
    same = decisions-are enc m after (subst (Decides enc m) (sym is) decides) un
        ∙ ap (λ (c : ℕ). m.decisions ++ undecided (length m.decisions + 1) (c - length m.decisions)) count
        ∙ sym (decisions-are enc m other (subst (Decides enc m) (sym too) decided) unkeyed)

send-accepted : {T : Type 0} (enc : EncoderConfig) (m : Moment T ⊤) (frame : Accepted T ⊤) (reply : Reply T ⊤) (D E : List Decision) →
    (after_send enc D m frame reply).accepted ≡ (after_send enc E m frame reply).accepted
send-accepted enc m frame (Sent number) D E = refl
send-accepted enc m frame Flushed D E = refl
send-accepted enc m frame (GivesPacket packet) D E = refl
send-accepted enc m frame (Status status) D E = refl

send-flushed : {T : Type 0} (enc : EncoderConfig) (m : Moment T ⊤) (frame : Accepted T ⊤) (reply : Reply T ⊤) (D E : List Decision) →
    (after_send enc D m frame reply).flushed ≡ (after_send enc E m frame reply).flushed
send-flushed enc m frame (Sent number) D E = refl
send-flushed enc m frame Flushed D E = refl
send-flushed enc m frame (GivesPacket packet) D E = refl
send-flushed enc m frame (Status status) D E = refl

receive-decisions : {T : Type 0} (m : Moment T ⊤) (log : List LogEntry) (reply : Reply T ⊤) → (after_receive m log reply).decisions ≡ m.decisions
receive-decisions m log (Sent number) = refl
receive-decisions m log Flushed = refl
receive-decisions m log (GivesPacket packet) = refl
receive-decisions m log (Status status) = refl

-- ---- logs

-- the one entry of a receive that isn't a try
real-one : (m_due : Bool) (command : Command) (trials : List LogEntry) (entry : LogEntry) → MatchBool m_due (IsTrial command trials) (trials ≡ []) → entry.trial ≡ false →
    real_entries (trials ++ entry ∷ []) ≡ entry ∷ []
real-one true command trials entry one real =
    subst (λ (l : List LogEntry). real_entries (l ++ entry ∷ []) ≡ entry ∷ []) (sym one.one)
    (ap₂ (λ (t u : Bool). cond (not t) (one.trial ∷ cond (not u) (entry ∷ []) []) (cond (not u) (entry ∷ []) [])) one.tried real)
real-one false command trials entry none real =
    subst (λ (l : List LogEntry). real_entries (l ++ entry ∷ []) ≡ entry ∷ []) (sym none) (ap (λ (u : Bool). cond (not u) (entry ∷ []) []) real)

-- its marks, by the command and the mean scale
marks_of : Bool → Command → ℤ → List Mark
marks_of true command scale = record { command = command; trial = true; mean_scale = scale } ∷ record { command = command; trial = false; mean_scale = scale } ∷ []
marks_of false command scale = record { command = command; trial = false; mean_scale = scale } ∷ []

marks-are : (due : Bool) (trials : List LogEntry) (entry : LogEntry) → MatchBool due (IsTrial entry.command trials) (trials ≡ []) → entry.trial ≡ false →
    All (λ trial. trial.mean_scale ≡ entry.mean_scale) trials → map mark (trials ++ entry ∷ []) ≡ marks_of due entry.command entry.mean_scale
unfolding marks_of
marks-are true trials entry one real alike =
    subst (λ (l : List LogEntry). map mark (l ++ entry ∷ []) ≡ marks_of true entry.command entry.mean_scale) (sym one.one)
    (ap₂ (λ (x y : Mark). x ∷ y ∷ []) tried
    (ap (λ (t : Bool). record { command = entry.command; trial = t; mean_scale = entry.mean_scale }) real))
  where
    scale : one.trial.mean_scale ≡ entry.mean_scale
    scale = (subst (All (λ (trial : LogEntry). trial.mean_scale ≡ entry.mean_scale)) one.one alike) 0 one.trial (omega arith)

    tried : mark one.trial ≡ record { command = entry.command; trial = true; mean_scale = entry.mean_scale }
    tried =
        ap (λ (c : Command). record { command = c; trial = one.trial.trial; mean_scale = one.trial.mean_scale }) one.same
        ∙ ap₂ (λ (t : Bool) (s : ℤ). record { command = entry.command; trial = t; mean_scale = s }) one.tried scale
marks-are false trials entry none real alike =
    subst (λ (l : List LogEntry). map mark (l ++ entry ∷ []) ≡ marks_of false entry.command entry.mean_scale) (sym none)
    (ap (λ (t : Bool). record { command = entry.command; trial = t; mean_scale = entry.mean_scale } ∷ []) real)

-- the mean scale of a command, where it is told ahead
scale_of : (ℕ → ℤ) → Command → ℤ
scale_of at (Code frame kind refs refresh shown) = clamped (at frame)
scale_of at (Show slot) = pos 0

abbrev pair : {T : Type 0} → ℕ → Frame T → ℕ × Frame T
pair number picture = (number, picture)

abbrev numbered : {T : Type 0} → Scaled T → ℕ × Frame T
numbered one = (one.number, one.picture)

scale-of-one : {T : Type 0} (at : ℕ → ℤ) (pictures : ℕ → Option (Frame T)) (command : Command) (bytes : List ℕ) (trial : Bool) (quant : Option QuantizerParameters) (scale : ℤ)
    (taken : List (Scaled T)) →
    map numbered taken ≡ flat_map (λ entry. frame_of pictures entry.command) (entry_with command bytes trial quant scale ∷ []) →
    map (λ one. clamped one.answer) taken ≡ map (λ entry. entry.mean_scale) (filter (λ entry. is_coding entry.command) (entry_with command bytes trial quant scale ∷ [])) →
    All (λ one. one.answer ≡ at one.number) taken → (is_coding command ≡ false → scale ≡ pos 0) → scale ≡ scale_of at command
unfolding scale_of
scale-of-one at pictures (Show slot) bytes trial quant scale taken frames used ahead unscaled = unscaled refl
scale-of-one at pictures (Code frame kind refs refresh shown) bytes trial quant scale [] frames used ahead unscaled = absurd (no-cons _ _ used)
scale-of-one {T} at pictures (Code frame kind refs refresh shown) bytes trial quant scale (one ∷ taken) frames used ahead unscaled =
    sym (same-head _ _ _ _ used) ∙ ap clamped (ahead 0 one (omega arith)) ∙ ap (λ (n : ℕ). clamped (at n)) (number (pictures frame) frames)
  where
    number : (o : Option (Frame T)) → map numbered (one ∷ taken) ≡ option_to_list (option_map (λ (p : Frame T). pair frame p) o) ++ [] → one.number ≡ frame
    number None e = absurd (no-cons _ _ (sym e))
    number (Some p) e = ap (λ (x : ℕ × Frame T). x.0) (same-head _ _ _ _ e)

-- ---- one step

module _ {T : Type 0} (enc : EncoderConfig) (tables : Tables) (next : List (Told T) → Handed T → Gave T) (at : ℕ → ℤ) where
  -- the calls so far, and what is told ahead
  pub record Tells (history : List (Told T)) (told : Heard T) : Type 0 where
    pub calls : told.coder.calls ≡ Some history
    pub gives : told.coder.gives ≡ Some next
    pub answers : told.scales.answers ≡ Some at

  -- what a step took
  record IsTook (m : Moment T ⊤) (history : List (Told T)) (turn : Turn T ⊤) (told now : Heard T) : Type 0 where
    taken : List (Told T)
    coded : IsCoded enc tables next no_passes m m.log history turn.log taken
    tells : Tells (history ++ taken) now
    recs : map (λ packet. option_map (λ rec. rec.value) packet.rec) (packet_of turn.reply) ≡ map (λ one. one.gave.rec) (shown_ones taken)
    stats : map (λ packet. packet.enc_stats) (packet_of turn.reply) ≡ map (λ one. one.gave.stats) (shown_ones taken)
    scaled : AreScaled (frames_of (picture_at m) turn.log) (scales_of turn.log) told.scales now.scales

  grew-some : {E : Type 0} (before after : Option (List E)) (history taken : List E) → before ≡ Some history → Grew before after taken → after ≡ Some (history ++ taken)
  grew-some {E} before after history taken is grew = of after (subst (λ (b : Option (List E)). Grew b after taken) is grew)
    where
      of : (a : Option (List E)) → Grew (Some history) a taken → a ≡ Some (history ++ taken)
      of None h = absurd h
      of (Some l) h = ap Some h

  ahead-of : (calls : Option (List (Told T))) (gives : Option (List (Told T) → Handed T → Gave T)) (history taken : List (Told T)) → calls ≡ Some history → gives ≡ Some next →
      IfSome calls (λ calls. IfSome gives (λ next. AreNext next calls taken)) → AreNext next history taken
  ahead-of calls gives history taken is gave h =
      subst (λ (g : Option (List (Told T) → Handed T → Gave T)). IfSome g (λ next. AreNext next history taken)) gave
      (subst (λ (c : Option (List (Told T))). IfSome c (λ calls. IfSome gives (λ next. AreNext next calls taken))) is h)

  took-of : (call : Call T ⊤) (turn : Turn T ⊤) (m after : Moment T ⊤) (history : List (Told T)) (told now : Heard T) →
      IsStep enc tables no_passes call turn m after told now → Tells history told → IsTook m history turn told now
  took-of call turn m after history told now step tells = record {
    taken = step.taken.taken;
    coded = record {
      selected = step.quantised.selected;
      handed = step.taken.handed;
      bytes = step.taken.bytes;
      ahead = ahead-of _ _ history step.taken.taken tells.calls tells.gives step.taken.ahead;
    };
    tells = record {
      calls = grew-some _ _ history step.taken.taken tells.calls step.taken.calls;
      gives = step.taken.gives ∙ tells.gives;
      answers = step.scaled.answers ∙ tells.answers;
    };
    recs = step.taken.recs;
    stats = step.taken.stats;
    scaled = step.scaled;
  }

  -- ---- receives

  -- what is told of the mean scales gives that of the entry
  scale-is : (m : Moment T ⊤) (turn : Turn T ⊤) (told now : ScalesTold T) (entry : LogEntry) → real_entries turn.log ≡ entry ∷ [] → told.answers ≡ Some at →
      (is_coding entry.command ≡ false → entry.mean_scale ≡ pos 0) → AreScaled (frames_of (picture_at m) turn.log) (scales_of turn.log) told now →
      entry.mean_scale ≡ scale_of at entry.command
  scale-is m turn told now entry one answers unscaled scaled =
      scale-of-one at (picture_at m) entry.command entry.bytes entry.trial entry.quant entry.mean_scale scaled.taken
      (scaled.frames ∙ ap (flat_map (λ (e : LogEntry). frame_of (picture_at m) e.command)) one)
      (scaled.used ∙ ap (λ (l : List LogEntry). map (λ (e : LogEntry). e.mean_scale) (filter (λ (e : LogEntry). is_coding e.command) l)) one)
      (subst (λ (a : Option (ℕ → ℤ)). All (λ (x : Scaled T). IfSome a (λ at. x.answer ≡ at x.number)) scaled.taken) answers scaled.ahead)
      unscaled

  -- the entry of a turn that codes, and the marks of its log
  record IsMarked (m : Moment T ⊤) (turn : Turn T ⊤) (entry : LogEntry) : Type 0 where
    real : real_entries turn.log ≡ entry ∷ []
    marks : map mark turn.log ≡ marks_of (is_trial_due enc m.log entry.command) entry.command (scale_of at entry.command)

  marked-of : (m : Moment T ⊤) (turn : Turn T ⊤) (told now : ScalesTold T) (codes : CodesNext enc m turn) → told.answers ≡ Some at →
      AreScaled (frames_of (picture_at m) turn.log) (scales_of turn.log) told now → IsMarked m turn codes.entry
  marked-of m turn told now codes answers scaled = record {
    real = real;
    marks = ap (map mark) codes.log ∙ marks-are (is_trial_due enc m.log codes.entry.command) codes.trials codes.entry codes.tried codes.real codes.alike
        ∙ ap (marks_of (is_trial_due enc m.log codes.entry.command) codes.entry.command) (scale-is m turn told now codes.entry real answers codes.unscaled scaled);
  }
    where
      real : real_entries turn.log ≡ codes.entry ∷ []
      real = ap real_entries codes.log ∙ real-one (is_trial_due enc m.log codes.entry.command) codes.entry.command codes.trials codes.entry codes.tried codes.real

  -- a packet as it is seen
  packet-same : (m : Moment T ⊤) (entry : LogEntry) (packet other : Packet T ⊤) → IsNextPacket m entry packet → IsNextPacket m entry other →
      option_map (λ rec. rec.value) packet.rec ≡ option_map (λ rec. rec.value) other.rec → packet.enc_stats ≡ other.enc_stats → seen packet ≡ seen other
  packet-same m entry packet other is too rec stats =
      ap₂ (λ (b : List ℕ) (n : ℕ). seen_with b n packet.frame_type packet.qp source_of rec_of packet.enc_stats) (is.bytes ∙ sym too.bytes) (is.number ∙ sym too.number)
      ∙ ap₂ (λ (k : FrameType) (q : ℕ). seen_with other.bytes other.input_frameno k q source_of rec_of packet.enc_stats) kind qp
      ∙ ap₂ (λ (s r : Option (Frame T)). seen_with other.bytes other.input_frameno other.frame_type other.qp s r packet.enc_stats) source rec
      ∙ ap (seen_with other.bytes other.input_frameno other.frame_type other.qp (seen other).source (seen other).rec) stats
    where
      seen_with : List ℕ → ℕ → FrameType → ℕ → Option (Frame T) → Option (Frame T) → EncoderStats → Seen T
      seen_with b n k q s r e = record { bytes = b; number = n; frame_type = k; qp = q; source = s; rec = r; stats = e }

      source_of : Option (Frame T)
      source_of = (seen packet).source

      rec_of : Option (Frame T)
      rec_of = (seen packet).rec

      first : is.first ≡ too.first
      first = same_Some _ _ (sym is.is_first ∙ too.is_first)

      coding : shown_coding entry is.first ≡ shown_coding entry too.first
      coding = ap (shown_coding entry) first

      kind : packet.frame_type ≡ other.frame_type
      kind = same_Some _ _ (is.frame_type ∙ ap (option_map (λ (c : Coding). c.kind)) coding ∙ sym too.frame_type)

      qp : packet.qp ≡ other.qp
      qp = same_Some _ _ (is.qp ∙ ap (option_map (λ (c : Coding). c.qp)) coding ∙ sym too.qp)

      source : (seen packet).source ≡ (seen other).source
      source = is.source ∙ ap (λ (w : Waiting T ⊤). Some w.frame.picture) first ∙ sym too.source

  -- ---- two steps

  -- two turns from one moment: the moment after them, the calls by then, and the packets
  record IsSame (turn other : Turn T ⊤) (after later : Moment T ⊤) (now then : Heard T) : Type 0 where
    moment : after ≡ later
    history : List (Told T)
    tells : Tells history now
    too : Tells history then
    packets : map seen (packet_of turn.reply) ≡ map seen (packet_of other.reply)

  -- the logs and what was taken are the same where the marks are
  logs-same : (m : Moment T ⊤) (history : List (Told T)) (turn other : Turn T ⊤) (told now before then : Heard T) →
      (a : IsTook m history turn told now) (b : IsTook m history other before then) → map mark turn.log ≡ map mark other.log →
      (turn.log ≡ other.log) × (a.taken ≡ b.taken)
  logs-same m history turn other told now before then a b marks = entries-same enc tables next no_passes m m.log history turn.log other.log a.taken b.taken marks a.coded b.coded

  -- turns that code nothing, with the same reply
  quiet-same : (m after later : Moment T ⊤) (history : List (Told T)) (turn other : Turn T ⊤) (told now before then : Heard T) →
      IsTook m history turn told now → IsTook m history other before then → turn.reply ≡ other.reply → turn.log ≡ [] → other.log ≡ [] → after ≡ later →
      IsSame turn other after later now then
  quiet-same m after later history turn other told now before then a b reply none nothing moment = record {
    moment = moment;
    history = history ++ a.taken;
    tells = a.tells;
    too = subst (λ (l : List (Told T)). Tells (history ++ l) then) (sym (logs-same m history turn other told now before then a b (ap (map mark) (none ∙ sym nothing))).1) b.tells;
    packets = ap (λ (r : Reply T ⊤). map seen (packet_of r)) reply;
  }

  -- turns that code a command
  codes-same : (m after later : Moment T ⊤) (history : List (Told T)) (turn other : Turn T ⊤) (told now before then : Heard T) → Tells history told → Tells history before →
      IsTook m history turn told now → IsTook m history other before then → after ≡ after_receive m turn.log turn.reply → later ≡ after_receive m other.log other.reply →
      CodesNext enc m turn → CodesNext enc m other → IsSame turn other after later now then
  codes-same m after later history turn other told now before then ahead tells a b is too codes coded =
      by_shown (is_showing codes.entry.command) codes.reply
      (subst (λ (e : LogEntry). MatchBool (is_showing e.command) ((packet : Packet T ⊤) × (other.reply ≡ GivesPacket packet) × IsNextPacket m e packet) (other.reply ≡ Status Encoded)) (sym entry) coded.reply)
    where
      marked : IsMarked m turn codes.entry
      marked = marked-of m turn told.scales now.scales codes ahead.answers a.scaled

      marked-too : IsMarked m other coded.entry
      marked-too = marked-of m other before.scales then.scales coded tells.answers b.scaled

      command : codes.entry.command ≡ coded.entry.command
      command = same_Some _ _ (sym codes.command ∙ coded.command)

      marks : map mark turn.log ≡ map mark other.log
      marks = marked.marks ∙ ap (λ (c : Command). marks_of (is_trial_due enc m.log c) c (scale_of at c)) command ∙ sym marked-too.marks

      same : (turn.log ≡ other.log) × (a.taken ≡ b.taken)
      same = logs-same m history turn other told now before then a b marks

      entry : codes.entry ≡ coded.entry
      entry = same-head _ _ _ _ (sym marked.real ∙ ap real_entries same.0 ∙ marked-too.real)

      tells-too : Tells (history ++ a.taken) then
      tells-too = subst (λ (l : List (Told T)). Tells (history ++ l) then) (sym same.1) b.tells

      by_shown : (t : Bool) → MatchBool t ((packet : Packet T ⊤) × (turn.reply ≡ GivesPacket packet) × IsNextPacket m codes.entry packet) (turn.reply ≡ Status Encoded) →
          MatchBool t ((packet : Packet T ⊤) × (other.reply ≡ GivesPacket packet) × IsNextPacket m codes.entry packet) (other.reply ≡ Status Encoded) →
          IsSame turn other after later now then
      by_shown false reply replied = record {
        moment = is ∙ ap₂ (after_receive m) same.0 (reply ∙ sym replied) ∙ sym too;
        history = history ++ a.taken;
        tells = a.tells;
        too = tells-too;
        packets = ap (λ (r : Reply T ⊤). map seen (packet_of r)) (reply ∙ sym replied);
      }
      by_shown true one two = record {
        moment = is ∙ ap (after_receive m turn.log) one.1 ∙ ap (λ (l : List LogEntry). after_receive m l (GivesPacket one.0)) same.0
            ∙ sym (ap (after_receive m other.log) two.1) ∙ sym too;
        history = history ++ a.taken;
        tells = a.tells;
        too = tells-too;
        packets = ap (λ (r : Reply T ⊤). map seen (packet_of r)) one.1
            ∙ ap (λ (s : Seen T). s ∷ []) (packet-same m codes.entry one.0 two.0 one.2 two.2 recs stats)
            ∙ sym (ap (λ (r : Reply T ⊤). map seen (packet_of r)) two.1);
      }
        where
          recs : option_map (λ rec. rec.value) one.0.rec ≡ option_map (λ rec. rec.value) two.0.rec
          recs = same-head _ _ _ _
              (ap (λ (r : Reply T ⊤). map (λ (p : Packet T ⊤). (seen p).rec) (packet_of r)) (sym one.1) ∙ a.recs
              ∙ ap (λ (l : List (Told T)). map (λ (x : Told T). x.gave.rec) (shown_ones l)) same.1
              ∙ sym b.recs ∙ ap (λ (r : Reply T ⊤). map (λ (p : Packet T ⊤). (seen p).rec) (packet_of r)) two.1)

          stats : one.0.enc_stats ≡ two.0.enc_stats
          stats = same-head _ _ _ _
              (ap (λ (r : Reply T ⊤). map (λ (p : Packet T ⊤). p.enc_stats) (packet_of r)) (sym one.1) ∙ a.stats
              ∙ ap (λ (l : List (Told T)). map (λ (x : Told T). x.gave.stats) (shown_ones l)) same.1
              ∙ sym b.stats ∙ ap (λ (r : Reply T ⊤). map (λ (p : Packet T ⊤). p.enc_stats) (packet_of r)) two.1)

  -- any two steps of one call
  step-same : (call copy : Call T ⊤) (m after later : Moment T ⊤) (history : List (Told T)) (turn other : Turn T ⊤) (told now before then : Heard T) → SameCall call copy →
      Tells history told → Tells history before → Unkeyed after.decisions → Unkeyed later.decisions →
      IsStep enc tables no_passes call turn m after told now → IsStep enc tables no_passes copy other m later before then → IsSame turn other after later now then
  step-same Receive Receive m after later history turn other told now before then same ahead tells un unkeyed a b =
      by_held (held_back enc m) a.answered b.answered
    where
      took : IsTook m history turn told now
      took = took-of Receive turn m after history told now a ahead

      took-too : IsTook m history other before then
      took-too = took-of Receive other m later history before then b tells

      by_held : (held : Option EncoderStatus) → MatchOption held (CodesNext enc m turn) (λ status. OnlyReplies turn (Status status)) →
          MatchOption held (CodesNext enc m other) (λ status. OnlyReplies other (Status status)) → IsSame turn other after later now then
      by_held None one two = codes-same m after later history turn other told now before then ahead tells took took-too a.moment b.moment one two
      by_held (Some status) one two =
          let reply : turn.reply ≡ other.reply = one.0 ∙ sym two.0 in
          quiet-same m after later history turn other told now before then took took-too reply one.1 two.1
          (a.moment ∙ ap₂ (after_receive m) (one.1 ∙ sym two.1) reply ∙ sym b.moment)
  step-same Flush Flush m after later history turn other told now before then same ahead tells un unkeyed a b =
      quiet-same m after later history turn other told now before then (took-of Flush turn m after history told now a ahead) (took-of Flush other m later history before then b tells)
      (a.answered.0.0 ∙ sym b.answered.0.0) a.answered.0.1 b.answered.0.1
      (moments-same enc m after later (λ D. after_flush enc D m) (λ D E. refl) (λ D E. refl) a.moment b.moment a.answered.1 b.answered.1 un unkeyed)
  step-same (Send frame parameters) (Send copy others) m after later history turn other told now before then same ahead tells un unkeyed a b =
      quiet-same m after later history turn other told now before then (took-of _ turn m after history told now a ahead) (took-of _ other m later history before then b tells)
      reply a.answered.0.1 b.answered.0.1
      (moments-same enc m after later (λ D. after_send enc D m (accepted_of frame.value parameters) turn.reply)
      (send-accepted enc m (accepted_of frame.value parameters) turn.reply) (send-flushed enc m (accepted_of frame.value parameters) turn.reply)
      a.moment (b.moment ∙ sent later.decisions) a.answered.1 (subst (Decides enc m) (sent later.decisions) b.answered.1) un unkeyed)
    where
      reply : turn.reply ≡ other.reply
      reply = a.answered.0.0 ∙ ap (sent_reply enc m) same.0 ∙ sym b.answered.0.0

      accepted : accepted_of copy.value others ≡ accepted_of frame.value parameters
      accepted = ap₂ accepted_of (sym same.0) (same.2 ∙ sym same.1)

      sent : (D : List Decision) → after_send enc D m (accepted_of copy.value others) other.reply ≡ after_send enc D m (accepted_of frame.value parameters) turn.reply
      sent D = ap₂ (after_send enc D m) accepted (sym reply)
  step-same (Send frame parameters) Flush m after later history turn other told now before then same ahead tells un unkeyed a b = absurd same
  step-same (Send frame parameters) Receive m after later history turn other told now before then same ahead tells un unkeyed a b = absurd same
  step-same Flush (Send frame parameters) m after later history turn other told now before then same ahead tells un unkeyed a b = absurd same
  step-same Flush Receive m after later history turn other told now before then same ahead tells un unkeyed a b = absurd same
  step-same Receive (Send frame parameters) m after later history turn other told now before then same ahead tells un unkeyed a b = absurd same
  step-same Receive Flush m after later history turn other told now before then same ahead tells un unkeyed a b = absurd same

  -- ---- whole runs

  grown : (m after : Moment T ⊤) → Decides enc m after → after.decisions ≡ m.decisions ++ drop (length m.decisions) after.decisions
  grown m after decides =
      sym (take-append-drop (length m.decisions) after.decisions) ∙ ap (λ (l : List Decision). l ++ drop (length m.decisions) after.decisions) (sym decides.kept)

  step-grows : (call : Call T ⊤) (turn : Turn T ⊤) (m after : Moment T ⊤) (told now : Heard T) → IsStep enc tables no_passes call turn m after told now →
      (more : List Decision) × (after.decisions ≡ m.decisions ++ more)
  step-grows Receive turn m after told now step =
      ([], ap (λ (x : Moment T ⊤). x.decisions) step.moment ∙ receive-decisions m turn.log turn.reply ∙ sym (append-nil m.decisions))
  step-grows Flush turn m after told now step = (_, grown m after (subst (Decides enc m) (sym step.moment) step.answered.1))
  step-grows (Send frame parameters) turn m after told now step = (_, grown m after (subst (Decides enc m) (sym step.moment) step.answered.1))

  steps-grow : (calls : List (Call T ⊤)) (turns : List (Turn T ⊤)) (m last : Moment T ⊤) (told now : Heard T) → AreSteps enc tables calls turns m last told now →
      (more : List Decision) × (last.decisions ≡ m.decisions ++ more)
  steps-grow [] [] m last told now steps = ([], ap (λ (x : Moment T ⊤). x.decisions) steps.0 ∙ sym (append-nil m.decisions))
  steps-grow [] (turn ∷ turns) m last told now steps = absurd steps
  steps-grow (call ∷ calls) [] m last told now steps = absurd steps
  steps-grow (call ∷ calls) (turn ∷ turns) m last told now steps =
      let first = step-grows call turn m steps.0 told steps.1 steps.2 in
      let rest = steps-grow calls turns steps.0 last steps.1 now steps.3 in
      (first.0 ++ rest.0, rest.1 ∙ ap (λ (l : List Decision). l ++ rest.0) first.1 ∙ append_assoc m.decisions first.0 rest.0)

  pub runs-same : (calls others : List (Call T ⊤)) (turns more : List (Turn T ⊤)) (m last end : Moment T ⊤) (history : List (Told T)) (told now before then : Heard T) →
      SameCalls calls others → Tells history told → Tells history before → Unkeyed last.decisions → Unkeyed end.decisions →
      AreSteps enc tables calls turns m last told now → AreSteps enc tables others more m end before then → map seen (packets_of turns) ≡ map seen (packets_of more)
  runs-same [] [] [] [] m last end history told now before then same ahead tells un unkeyed a b = refl
  runs-same [] [] (turn ∷ turns) more m last end history told now before then same ahead tells un unkeyed a b = absurd a
  runs-same [] [] [] (other ∷ more) m last end history told now before then same ahead tells un unkeyed a b = absurd b
  runs-same [] (copy ∷ others) turns more m last end history told now before then same ahead tells un unkeyed a b = absurd same
  runs-same (call ∷ calls) [] turns more m last end history told now before then same ahead tells un unkeyed a b = absurd same
  runs-same (call ∷ calls) (copy ∷ others) [] more m last end history told now before then same ahead tells un unkeyed a b = absurd a
  runs-same (call ∷ calls) (copy ∷ others) (turn ∷ turns) [] m last end history told now before then same ahead tells un unkeyed a b = absurd b
  runs-same (call ∷ calls) (copy ∷ others) (turn ∷ turns) (other ∷ more) m last end history told now before then same ahead tells un unkeyed a b =
      let grows = steps-grow calls turns a.0 last a.1 now a.3 in
      let grew = steps-grow others more b.0 end b.1 then b.3 in
      let one = step-same call copy m a.0 b.0 history turn other told a.1 before b.1 same.0 ahead tells
      (unkeyed-front a.0.decisions grows.0 (subst Unkeyed grows.1 un)) (unkeyed-front b.0.decisions grew.0 (subst Unkeyed grew.1 unkeyed)) a.2 b.2 in
      let rest = runs-same calls others turns more a.0 last end one.history a.1 now b.1 then same.1 one.tells one.too un unkeyed a.3
      (subst (λ (x : Moment T ⊤). AreSteps enc tables others more x end b.1 then) (sym one.moment) b.3) in
      ap (map seen) (flat_map-cons (λ (t : Turn T ⊤). packet_of t.reply) turn turns) ∙ map-append seen (packet_of turn.reply) (packets_of turns)
      ∙ ap₂ (λ (x y : List (Seen T)). x ++ y) one.packets rest
      ∙ sym (map-append seen (packet_of other.reply) (packets_of more)) ∙ sym (ap (map seen) (flat_map-cons (λ (t : Turn T ⊤). packet_of t.reply) other more))
