-- What a receive answers, and what it leaves of a session.
use Rattle.std.proofs.Common.{◌≡◌, ◌⊎◌, inl, inr, ℕ, zero, suc, ◌+◌, ◌<◌, ◌≤◌, ◌==◌, nat_lt, Bool, true, false, cond, not, ◌&&◌, ◌||◌, All, IfSome, IsTrue, MatchBool, MatchOption, List, [], ◌∷◌, ◌++◌, drop, map, length, length-append, append-nil, append_assoc, slice_get, slice_set, Option, Some, None, is_some, is_none, Result, Ok, Err, ℤ, pos, negsuc, ◌+ℤ◌, ◌-ℤ◌, ◌≤ℤ◌, int_lt, int_le, unsigned_abs, FitsSigned, w32, to_z, of_z, refl, sym, ap, ◌∙◌, subst, arith}
use Rattle.std.specs.Int.{int_min, int_max, saturate_signed}
use Rattle.std.proofs.lemmas.Bool.Decides.{nat_tests}
use Rattle.std.proofs.lemmas.Int.{clamps, ints, to_z-of_z}
use Rattle.std.proofs.lemmas.List.{length-set}
use Rattle.std.proofs.lemmas.List.Elements.{All-append, All-cons, All-nil, filter-append}
use Rattle.std.proofs.lemmas.Option.{slice_get_within}
use Rattle.av1_settings.specs.declared.encoder.EncoderConfig.{EncoderConfig}
use Rattle.av1_settings.specs.declared.status.EncoderStatus.{EncoderStatus}
use Rattle.av1_settings.specs.declared.status.EncoderStatus.TheVariants.{Encoded, Failure, LimitReached, NeedMoreData, NotReady, OutOfMemory as NoMemory}
use Rattle.metrics_window.proofs.Bounds.{fits_32}
use Rattle.metrics_window.specs.Tallies.{all_frames, count_set, less, number_at, shown_of}
use Rattle.metrics_window.specs.Window.{AllKnown}
use Rattle.metrics_window.specs.declared.tally.Tally.{Tally}
use Rattle.pass_data.specs.Emitted.{Emitted, with_waiting}
use Rattle.pass_data.specs.Given.{Given, coded as after_coded, coded_by, current, has_next, needed, needed_by, needed_by_header, needed_in_window, without_metrics}
use Rattle.pass_data.specs.declared.given.Header.{Header}
use Rattle.pass_stats.specs.declared.metrics.RCFrameMetrics.{RCFrameMetrics}
use Rattle.pyramid.specs.Known.{is_coding}
use Rattle.pyramid.specs.declared.command.Command.{Command}
use Rattle.rate_model.specs.Measure.{Entry}
use Rattle.ratecontrol.proofs.KeptLaws.{kept_bitrate}
use Rattle.ratecontrol.specs.Kept.{kept, with_log}
use Rattle.ratecontrol.specs.Passes.{commands, frames_needed, is_controlled, is_ready}
use Rattle.ratecontrol.specs.Rate.{Rate}
use Rattle.ratecontrol.specs.Update.{frame_data}
use Rattle.session_log.proofs.Logs.{same_start, started_bitrate}
use Rattle.session_log.specs.Passes.{Passes, passes_after, rate_at, started}
use Rattle.session_log.specs.Readings.{measured}
use Rattle.session_log.specs.declared.entry.LogEntry.{LogEntry}
use Rattle.session_core.specs.declared.call.Call.TheVariants.{Receive}
use Rattle.session_core.specs.declared.fault.SessionFault.{SessionFault}
use Rattle.session_core.specs.declared.fault.SessionFault.TheVariants.{Coder, OutOfMemory, PassData}
use Rattle.session_core.specs.declared.packet.Packet.{Packet}
use Rattle.session_core.specs.declared.transcript.Reply.{Reply}
use Rattle.session_core.specs.declared.transcript.Reply.TheVariants.{Sent, Flushed, Packet as GivesPacket, Status}
use Rattle.session_core.specs.declared.transcript.Turn.{Turn}
use Rattle.session_core.specs.Contexts.{GivesReceived, IsAnswered, IsCall, IsFailed, Session, Waits, at_of, status_of}
use Rattle.session_core.specs.Moments.{Moment, plan_at}
use Rattle.session_core.specs.PassCalls.{rate_in, required_of}
use Rattle.session_core.specs.PassTurns.{awaits_data, is_done}
use Rattle.session_core.specs.Quantisers.{passes_behind}
use Rattle.session_core.specs.Steps.{Fails}
use Rattle.session_core.specs.Told.{Heard}
use Rattle.session_core.specs.Turns.{AreTrials, CodesNext, HaveBytes, IsTrial, OnlyReplies, after_receive, held_back, is_showing, needs_more_data, real_entries}
use Rattle.session_channels.specs.declared.fault.ChannelFault.{ChannelFault}
use Rattle.session_channels.specs.declared.fault.ChannelFault.TheVariants.{Coder as CoderFault, OutOfMemory as NoRoom, PacketsClosed, PassDataEnded}
use Rattle.session_channels.specs.Acts.{Does, Ears, Hand, IsCoding, IsOpen, Point, Receives, hears, owing, packets_in, received}
use Rattle.session_channels.specs.Courses.{CoderFails, IsPutFault, PutsAll, PutsPackets, RunsDry, Stopped, Went, total_of}
use Rattle.session_channels.specs.Queues.{Queue}
use Rattle.session_channels.specs.Wells.{ArePassesWell, IsKnown, IsLeft, IsOwed, IsPaid, IsSameInput, IsUntried, IsWell, last_command, left_of}
use Rattle.session_channels.proofs.Joins.{packets-none}
use Rattle.session_channels.proofs.LawsActs.{not-waiting, receive-answered}
use Rattle.session_channels.proofs.LawsCounted.{counts-few}
use Rattle.session_channels.proofs.Parts.{count-kept, of_packets}

-- ---- answers

abbrev refuses : (T O : Type 0) → EncoderStatus → Result (Packet T O) EncoderStatus
refuses T O status = Err status

coded-status : {T O : Type 0} (shows : Bool) (reply : Reply T O) (status : EncoderStatus) (Next : Packet T O → Type 0) →
    MatchBool shows ((packet : Packet T O) × (reply ≡ GivesPacket packet) × Next packet) (reply ≡ Status Encoded) →
    GivesReceived reply (Err status) → status ≡ Encoded
coded-status {T} {O} true reply status Next replies gives =
    let is : refuses T O status ≡ Ok replies.0 = subst (λ (r : Reply T O). GivesReceived r (Err status)) replies.1 gives in
    absurd (cc)
coded-status {T} {O} false reply status Next replies gives =
    let is : refuses T O status ≡ Err Encoded = subst (λ (r : Reply T O). GivesReceived r (Err status)) replies gives in
    cc

module _ {T O D S C : Type 0} (before after : Session T O D S C) (told now : Heard T) where
  abbrev pub Calls : Result (Packet T O) EncoderStatus → Type 0
  Calls result = IsCall GivesReceived Receive before after told now result

  abbrev pub Fault : EncoderStatus → Type 0
  Fault status = IsFailed {A = Packet T O} Receive before after told now (Err status)

  abbrev pub awaits : Bool
  awaits = awaits_data before.enc (at_of before) Receive

  -- it waits for pass data
  pub record Stays (status : EncoderStatus) : Type 0 where
    pub waits : awaits ≡ true
    pub status_is : status ≡ NotReady
    pub same : after ≡ before

  codes-next : (turn : Turn T O) → IsKnown before →
      MatchOption (held_back before.enc before.moment) (CodesNext before.enc before.moment turn) (λ status. OnlyReplies turn (Status status)) →
      CodesNext before.enc before.moment turn
  codes-next turn known is = subst (λ (o : Option EncoderStatus). MatchOption o (CodesNext before.enc before.moment turn) (λ status. OnlyReplies turn (Status status))) known is

  -- why a receive gives no packet
  refused : (status : EncoderStatus) → before.failure ≡ None → IsKnown before → Calls (Err status) →
      (status ≡ Encoded) ⊎ (Stays status ⊎ Fault status)
  refused status unfailed known call =
      by_cases awaits refl
      (subst (λ (f : Option SessionFault). MatchOption f
      (MatchBool awaits (Waits GivesReceived before after (refuses T O status)) (IsAnswered GivesReceived Receive before after told now (Err status) ⊎ Fault status))
      (λ fault. (refuses T O status ≡ Err Failure) × (after ≡ before))) unfailed call)
    where
      by_cases : (b : Bool) → awaits ≡ b →
          MatchBool b (Waits GivesReceived before after (refuses T O status)) (IsAnswered GivesReceived Receive before after told now (Err status) ⊎ Fault status) →
          (status ≡ Encoded) ⊎ (Stays status ⊎ Fault status)
      by_cases true waits is = inr (inl (record { waits = waits; status_is = let e = is.0 in cc; same = is.1 }))
      by_cases false goes (inl one) =
          let codes = codes-next one.turn known one.step.answered in
          inl (coded-status (is_showing codes.entry.command) one.turn.reply status _ codes.reply one.reply)
      by_cases false goes (inr failed) = inr (inr failed)

  -- it is one of these
  pub others : (status : EncoderStatus) → before.failure ≡ None → IsKnown before → Calls (Err status) →
      (status ≡ Encoded → ⊥) → (status ≡ NotReady → ⊥) → (status ≡ NoMemory → ⊥) → (status ≡ Failure → ⊥) → ⊥
  others status unfailed known call encoded waits memory fails =
      elim (refused status unfailed known call) [
        | inl is ↦ encoded is
        | inr (inl stays) ↦ waits stays.status_is
        | inr (inr failed) ↦ by_fault failed.fault failed.status
      ]
    where
      by_fault : (fault : SessionFault) → refuses T O status ≡ Err (status_of fault) → ⊥
      by_fault (Coder number) is = fails (cc)
      by_fault OutOfMemory is = memory (cc)
      by_fault (PassData refusal) is = fails (cc)

  pub failing : before.failure ≡ None → IsKnown before → Calls (Err Failure) → Fault Failure
  failing unfailed known call =
      elim (refused Failure unfailed known call) [
        | inl is ↦ absurd (cc)
        | inr (inl stays) ↦ let is = stays.status_is in absurd (cc)
        | inr (inr failed) ↦ failed
      ]

  -- then it is the coder that failed
  pub coder-kept : before.failure ≡ None → IsKnown before → Calls (Err Failure) → (number : ℕ) × (after.failure ≡ Some (Coder number))
  coder-kept unfailed known call = let failed = failing unfailed known call in by_fault failed.fault failed.kept failed.status failed.fails
    where
      by_fault : (fault : SessionFault) → after.failure ≡ Some fault → refuses T O Failure ≡ Err (status_of fault) →
          Fails before.enc before.tables before.passes Receive before.moment told now fault → (number : ℕ) × (after.failure ≡ Some (Coder number))
      by_fault (Coder number) kept is fails = (number, kept)
      by_fault OutOfMemory kept is fails = absurd (cc)
      by_fault (PassData refusal) kept is fails = absurd fails

  pub dry : before.failure ≡ None → IsKnown before → Calls (Err NotReady) → Stays NotReady
  dry unfailed known call =
      elim (refused NotReady unfailed known call) [
        | inl is ↦ absurd (cc)
        | inr (inl stays) ↦ stays
        | inr (inr failed) ↦ absurd (by_fault failed.fault failed.status)
      ]
    where
      by_fault : (fault : SessionFault) → refuses T O NotReady ≡ Err (status_of fault) → ⊥
      by_fault (Coder number) is = cc
      by_fault OutOfMemory is = cc
      by_fault (PassData refusal) is = cc

-- ---- the stretch

module _ {T O D S C P : Type 0} (ears : Ears T D S C) (handing : Bool) (contents : P → Option (List (Result (Packet T O) ChannelFault))) (queue : P → Queue) (hand : Hand T O) (before after : Session T O D S C) (is_open : IsOpen hand) (known : IsKnown before) (fed : required_of before ≡ 0) where
  abbrev from : Point T O D S C
  from = record { hand = hand; session = before }

  is-coding : IsCoding from
  is-coding = record { coding = is_open; known = known; fed = fed }

  pub went-received : (a b : P) (packet : Option (Packet T O)) → Does ears (Receives packet) before after →
      PutsPackets contents queue a b (packets_in {T = T} {O = O} (Receives packet ∷ [])) →
      Went ears handing (of_packets contents queue a b) from (record { hand = owing handing hand; session = after })
  went-received a b packet call puts = record {
    acts = Receives packet ∷ [];
    run = (record { hand = owing handing hand; session = after }, record { due = is-coding; does = call; held = refl }, refl);
    frames = refl;
    packets = puts;
    metrics = refl;
    handed = refl;
  }

  pub went-none-received : (a : P) → Does {O = O} ears (Receives None) before after →
      Went ears handing (of_packets contents queue a a) from (record { hand = owing handing hand; session = after })
  went-none-received a call = went-received a a None call (packets-none contents queue a)

  -- the queue refuses the packet
  pub stopped-put : (a b : P) (packet : Packet T O) (fault : ChannelFault) → Does ears (Receives (Some packet)) before after →
      PutsAll contents queue a b [] × IsPutFault (queue a) (queue b) fault →
      Stopped ears handing (of_packets contents queue a b) from after fault
  stopped-put a b packet PacketsClosed call kept = record {
    acts = [];
    last = from;
    run = refl;
    taken = [];
    cause = (refl, record { closed = kept.1; due = inl (record { due = is-coding; packet = packet; call = call }) });
    frames = refl;
    packets = kept.0;
    metrics = refl;
    handed = refl;
  }
  stopped-put a b packet NoRoom call kept = record {
    acts = [];
    last = from;
    run = refl;
    taken = [];
    cause = refl;
    frames = refl;
    packets = kept.0;
    metrics = refl;
    handed = refl;
  }
  stopped-put a b packet fault call kept = absurd kept.1

  pub stopped-memory : (a : P) → Stopped ears handing (of_packets contents queue a a) from after NoRoom
  stopped-memory a = record {
    acts = [];
    last = from;
    run = refl;
    taken = [];
    cause = refl;
    frames = refl;
    packets = packets-none contents queue a;
    metrics = refl;
    handed = refl;
  }

  coder-fails : (command : ℕ) → before.failure ≡ None → before.moment.commands ≡ length (real_entries before.moment.log) →
      IsCall {A = Packet T O} GivesReceived Receive before after (hears ears before) (hears ears after) (Err Failure) → after.failure ≡ Some (Coder command) →
      CoderFails ears from after command
  coder-fails command unfailed real call kept =
      let failed = failing before after (hears ears before) (hears ears after) unfailed known call in
      let own = failed.kept in
      let is : failed.fault ≡ Coder command = cc in
      let fails : Fails before.enc before.tables before.passes Receive before.moment (hears ears before) (hears ears after) (Coder command) =
      subst (λ (f : SessionFault). Fails before.enc before.tables before.passes Receive before.moment (hears ears before) (hears ears after) f) is failed.fails in
      record {
        due = is-coding;
        call = call;
        kept = kept;
        real = sym fails.1.due.next ∙ real;
        rose = fails.1.rose;
      }

  pub stopped-coder : (a : P) (command : ℕ) → before.failure ≡ None →
      before.moment.commands ≡ length (real_entries before.moment.log) →
      IsCall {A = Packet T O} GivesReceived Receive before after (hears ears before) (hears ears after) (Err Failure) → after.failure ≡ Some (Coder command) →
      Stopped ears handing (of_packets contents queue a a) from after (CoderFault command)
  stopped-coder a command unfailed real call kept = record {
    acts = [];
    last = from;
    run = refl;
    taken = [];
    cause = (refl, coder-fails command unfailed real call kept);
    frames = refl;
    packets = packets-none contents queue a;
    metrics = refl;
    handed = refl;
  }

  pub stopped-dry : (a : P) (total : ℤ) → RunsDry from after total →
      Stopped ears handing (of_packets contents queue a a) from after (PassDataEnded total)
  stopped-dry a total runs = record {
    acts = [];
    last = from;
    run = refl;
    taken = [];
    cause = (refl, runs);
    frames = refl;
    packets = packets-none contents queue a;
    metrics = refl;
    handed = refl;
  }

-- ---- where a receive waits

waits-for : (none ready : Bool) → (none && not ready) ≡ true → ready ≡ false
waits-for true true is = absurd (cc)
waits-for true false is = refl
waits-for false ready is = absurd (cc)

goes-on : (none ready : Bool) → none ≡ true → (none && not ready) ≡ false → ready ≡ true
goes-on true true held is = refl
goes-on true false held is = absurd (cc)
goes-on false ready held is = absurd (cc)

unready : (first waits second next : Bool) → (not (first && waits) && (not second || next)) ≡ false →
    ((first ≡ true) × (waits ≡ true)) ⊎ ((second ≡ true) × (next ≡ false))
unready true true second next is = inl (refl, refl)
unready true false true true is = absurd (cc)
unready true false true false is = inr (refl, refl)
unready true false false next is = absurd (cc)
unready false waits true true is = absurd (cc)
unready false waits true false is = inr (refl, refl)
unready false waits false next is = absurd (cc)

-- what is ready has handed on its last data, and has the next frame's
ready-both : (first waits second next : Bool) → (not (first && waits) && (not second || next)) ≡ true →
    (first ≡ true → waits ≡ false) × (second ≡ true → next ≡ true)
ready-both true true second next is = absurd (cc)
ready-both true false true true is = (λ _. refl, λ _. refl)
ready-both true false true false is = absurd (cc)
ready-both true false false next is = (λ _. refl, λ no-second. absurd (cc))
ready-both false waits true true is = (λ no-first. absurd (cc), λ _. refl)
ready-both false waits true false is = absurd (cc)
ready-both false waits false next is = (λ no-first. absurd (cc), λ no-second. absurd (cc))

none-counted : (z : ℤ) → unsigned_abs z ≡ 0 → z ≡ pos 0
none-counted (pos n) is = omega (arith, ints)
none-counted (negsuc n) is = absurd (omega (arith, ints))

at-end : (total counted : ℤ) (coded : ℕ) → int_le total counted ≡ true → counted ≤ℤ pos coded → pos coded ≤ℤ total → pos coded ≡ total
at-end total counted coded all few behind = omega (arith, ints)

second-of : (a b : Bool) → (a && b) ≡ true → b ≡ true
second-of true b is = is
second-of false b is = absurd (cc)

no-length : (n : ℕ) → (int_le (pos 0) (pos 0) && nat_lt 0 n) ≡ false → n ≡ 0
no-length n is = grind (arith, ints, nat_tests)

no-held : (xs : List RCFrameMetrics) → length xs ≡ 0 → xs ≡ []
no-held [] is = refl
no-held (x ∷ xs) is = absurd (omega arith)

window-end : (delay units left total : ℤ) (coded : ℕ) →
    int_max (int_min (int_min delay units -ℤ pos 0) (left -ℤ pos 0)) (pos 0) ≡ pos 0 → pos 1 ≤ℤ delay → pos 1 ≤ℤ units →
    left ≡ (total -ℤ pos coded) → pos coded ≤ℤ total → pos coded ≡ total
window-end delay units left total coded none some_delay some_units is behind = omega (arith, ints, clamps)

-- where no metrics are needed and the next aren't there, the summary's are used up
used-up : (g : Given) (coded : ℕ) (counted delay : ℤ) (header : Header) → IsLeft g coded header → counted ≤ℤ pos coded →
    pos 1 ≤ℤ delay →
    needed_by_header delay counted header g ≡ pos 0 → has_next (pos 0) g ≡ false → pos coded ≡ header.total
used-up g coded counted delay header left few some_delay need none = by_tests (int_le header.total counted) g.is_finite (is_some g.next) refl need none
  where
    by_tests : (done finite next : Bool) → int_le header.total counted ≡ done →
        cond done (pos 0) (cond finite (needed_in_window delay header g) (cond next (pos 0) (pos 1))) ≡ pos 0 →
        cond finite (int_le (pos 0) (pos 0) && nat_lt 0 (length g.window.held)) next ≡ false → pos coded ≡ header.total
    by_tests true finite next is need none = at-end header.total counted coded is few left.behind
    by_tests false true next is need none =
        let nothing : g.window.held ≡ [] = no-held g.window.held (no-length (length g.window.held) none) in
        window-end delay header.ntus (all_frames g.left) header.total coded
        (subst (λ (xs : List RCFrameMetrics). int_max (int_min (int_min delay header.ntus -ℤ shown_of xs) (all_frames g.left -ℤ pos (length xs))) (pos 0) ≡ pos 0) nothing need)
        some_delay left.units left.left left.behind
    by_tests false false true is need none = absurd (cc)
    by_tests false false false is need none = absurd (omega (arith, ints))

kept-delay : (s : Rate) (es : List Entry) → (kept s es).reservoir_delay ≡ s.reservoir_delay
unfolding kept
kept-delay s es = by_bitrate (int_lt (pos 0) s.bitrate)
  where
    by_bitrate : (b : Bool) → (cond b (with_log s es) s).reservoir_delay ≡ s.reservoir_delay
    by_bitrate true = refl
    by_bitrate false = refl

needed-by : (delay counted : ℤ) (g : Given) (header : Header) → g.header ≡ Some header →
    needed delay counted g ≡ needed_by_header delay counted header g
unfolding needed
needed-by delay counted g header is = ap (λ (o : Option Header). needed_by o delay counted g) is

needs-on : (a b : Bool) (z : ℤ) → a ≡ true → b ≡ true → cond (a && b) z (pos 0) ≡ z
needs-on true true z p q = refl
needs-on true false z p q = absurd (cc)
needs-on false b z p q = absurd (cc)

not-done : (done wants : Bool) → cond done (Some LimitReached) (cond wants (Some NeedMoreData) None) ≡ None → done ≡ false
not-done true wants is = absurd (cc)
not-done false wants is = refl

some-header : (o : Option Header) → is_some o ≡ true → (header : Header) × (o ≡ Some header)
some-header None is = absurd (cc)
some-header (Some header) is = (header, refl)

module _ {T O D S C : Type 0} (handing : Bool) (coded : ℤ) (session : Session T O D S C) (well : IsWell handing coded session) (known : IsKnown session) where
  abbrev rate : Rate
  rate = rate_in session

  none-held : is_none (held_back session.enc session.moment) ≡ true
  none-held = ap (λ (o : Option EncoderStatus). is_none o) known

  rate-controlled : session.passes.second ≡ true → is_controlled rate ≡ true
  rate-controlled second =
      ap (λ z. int_lt (pos 0) z) (kept_bitrate (started session.enc session.passes) (map measured session.moment.log) ∙ started_bitrate session.enc session.passes)
      ∙ well.passes.counted second

  some-delay : pos 1 ≤ℤ rate.reservoir_delay
  some-delay = subst (λ z. pos 1 ≤ℤ z) (sym (kept-delay (started session.enc session.passes) (map measured session.moment.log))) well.passes.delay

  none-needed : required_of session ≡ 0 → frames_needed rate ≡ pos 0
  none-needed fed =
      none-counted (frames_needed rate)
      (subst (λ b. cond b 0 (unsigned_abs (frames_needed rate)) ≡ 0) (not-done (is_done session.moment) (needs_more_data session.enc session.moment) known)
      (subst (λ (f : Option SessionFault). elim f [ None ↦ cond (is_done session.moment) 0 (unsigned_abs (frames_needed rate)) | Some fault ↦ 0 ] ≡ 0) well.unfailed fed))

  -- all that a summary counts is coded
  behind-summary : required_of session ≡ 0 → session.passes.second ≡ true →
      has_next (frames_needed rate) session.passes.given ≡ false → (header : Header) → session.passes.given.header ≡ Some header →
      pos session.moment.commands ≡ header.total
  behind-summary fed second none header is =
      let need = none-needed fed in
      used-up session.passes.given session.moment.commands (commands rate) rate.reservoir_delay header
      (subst (λ (o : Option Header). IfSome o (IsLeft session.passes.given session.moment.commands)) is well.passes.left)
      (counts-few session well.real well.untried) some-delay
      (sym (needed-by rate.reservoir_delay (commands rate) session.passes.given header is)
      ∙ (sym (needs-on session.passes.second (is_controlled rate) (needed rate.reservoir_delay (commands rate) session.passes.given) second (rate-controlled second)) ∙ need))
      (subst (λ z. has_next z session.passes.given ≡ false) need none)

  -- it stands behind the last command that has pass data
  record IsBehindAll : Type 0 where
    pub kept : total_of session.passes.given.header ≡ coded
    pub behind : pos session.moment.commands ≡ coded

  behind-last : session.moment.commands ≡ last_command → IsBehindAll
  behind-last last = by_header session.passes.given.header well.passes.left refl
    where
      by_header : (o : Option Header) → IfSome o (IsLeft session.passes.given session.moment.commands) →
          session.passes.given.header ≡ o → IsBehindAll
      by_header None left is = let count = well.counted in record {
        kept = ap total_of is ∙ (omega (arith, ints, clamps));
        behind = omega (arith, ints, clamps);
      }
      by_header (Some header) left is = let count = well.counted in let few = left.behind in let most = left.total in record {
        kept = ap total_of is ∙ (omega (arith, ints, clamps));
        behind = omega (arith, ints, clamps);
      }

  behind-total : (header : Header) → session.passes.given.header ≡ Some header → pos session.moment.commands ≡ header.total →
      IsBehindAll
  behind-total header is all =
      let left : IsLeft session.passes.given session.moment.commands header = subst (λ (o : Option Header). IfSome o (IsLeft session.passes.given session.moment.commands)) is well.passes.left in
      let count = well.counted in
      let most = left.total in
      record {
        kept = ap total_of is ∙ (omega (arith, ints, clamps));
        behind = omega (arith, ints, clamps);
      }

  waits-behind : IsPaid handing session → required_of session ≡ 0 → awaits_data session.enc (at_of session) Receive ≡ true →
      IsBehindAll
  waits-behind paid fed waits =
      elim (unready session.passes.first (is_some session.passes.emitted.waiting) session.passes.second (has_next (frames_needed rate) session.passes.given)
      (waits-for (is_none (held_back session.enc session.moment)) (is_ready rate) waits)) [
        | inl both ↦ behind-last (same-count session.moment.commands last_command (sym (paid.waits (sym well.passes.first ∙ both.0)) ∙ both.1))
        | inr both ↦
            let header = some-header session.passes.given.header (sym well.passes.second ∙ both.0) in
            behind-total header.0 header.1 (behind-summary fed both.0 both.1 header.0 header.1)
      ]
    where
      same-count : (n m : ℕ) → (n == m) ≡ true → n ≡ m
      same-count n m is = grind (arith, nat_tests)

-- where nothing is required, it waits for pass data behind the last command that has some
pub received-dry : {T O D S C : Type 0} (handing : Bool) (coded : ℤ) (last : Point T O D S C) (now : Session T O D S C) (told then_told : Heard T) →
    IsWell handing coded last.session → IsPaid handing last.session → IsCoding last →
    Calls last.session now told then_told (Err NotReady) → RunsDry last now coded
received-dry handing coded last now told then_told well paid due is =
    let stays = dry last.session now told then_told well.unfailed due.known is in
    let all = waits-behind handing coded last.session well due.known paid due.fed stays.waits in
    record {
      due = due;
      waits = stays.waits;
      counted = sym well.counted;
      kept = all.kept;
      behind = all.behind;
      same = stays.same;
    }

-- ---- what a command that is coded leaves

record HasReceived {T O : Type 0} (moment : Moment T O) (log : List LogEntry) (after : Moment T O) : Type 0 where
  pub accepted : after.accepted ≡ moment.accepted
  pub flushed : after.flushed ≡ moment.flushed
  pub decisions : after.decisions ≡ moment.decisions
  pub commands : after.commands ≡ moment.commands + length (real_entries log)
  pub log_is : after.log ≡ moment.log ++ log

received-moment : {T O : Type 0} (moment : Moment T O) (log : List LogEntry) (reply : Reply T O) →
    HasReceived moment log (after_receive moment log reply)
received-moment moment log (Sent number) = record { accepted = refl; flushed = refl; decisions = refl; commands = refl; log_is = refl }
received-moment moment log Flushed = record { accepted = refl; flushed = refl; decisions = refl; commands = refl; log_is = refl }
received-moment moment log (GivesPacket packet) = record { accepted = refl; flushed = refl; decisions = refl; commands = refl; log_is = refl }
received-moment moment log (Status status) = record { accepted = refl; flushed = refl; decisions = refl; commands = refl; log_is = refl }

-- of a try nothing counts, a show isn't tried, and what the second pass was given stays
record AreTries (trials : List LogEntry) : Type 0 where
  pub none_real : real_entries trials ≡ []
  pub untried : All IsUntried trials
  pub given : (enc : EncoderConfig) (passes : Passes) (log : List LogEntry) →
      (passes_behind enc passes log trials).given ≡ passes.given

try-given : (enc : EncoderConfig) (passes : Passes) (log : List LogEntry) (entry : LogEntry) → entry.trial ≡ true →
    (passes_after enc passes log entry).given ≡ passes.given
try-given enc passes log entry tried =
    by_tests (int_lt (pos 0) enc.bitrate) passes.second entry.trial
    (cond passes.first (with_waiting (frame_data (measured entry) (rate_at enc passes log)) passes.emitted) passes.emitted) tried
  where
    by_tests : (b second trial : Bool) (emitted : Emitted) → trial ≡ true →
        (cond b (record passes { given = cond (second && not trial) (after_coded passes.given) passes.given; emitted = emitted }) passes).given ≡ passes.given
    by_tests true true true emitted is = refl
    by_tests true false trial emitted is = refl
    by_tests false second trial emitted is = refl
    by_tests true true false emitted is = absurd (cc)

are-tries : {T O : Type 0} (enc : EncoderConfig) (moment : Moment T O) (command : Command) (trials : List LogEntry) →
    AreTrials enc moment command trials → AreTries trials
are-tries enc moment command trials are = by_due (is_coding command) _ refl are
  where
    by_due : (codes due : Bool) → is_coding command ≡ codes → MatchBool (codes && due) (IsTrial command trials) (trials ≡ []) →
        AreTries trials
    by_due true true codes one = subst AreTries (sym one.one) (record {
      none_real = ap (λ b. cond (not b) (one.trial ∷ []) []) one.tried;
      untried = All-cons IsUntried one.trial [] (λ shows. let e = one.same in absurd (cc)) (All-nil IsUntried);
      given = λ e passes log. try-given e passes log one.trial one.tried;
    })
    by_due true false codes none = subst AreTries (sym none) (record { none_real = refl; untried = All-nil IsUntried; given = λ e passes log. refl })
    by_due false due codes none = subst AreTries (sym none) (record { none_real = refl; untried = All-nil IsUntried; given = λ e passes log. refl })

-- ---- along entries

record KeepsGiven (before after : Given) : Type 0 where
  pub header : after.header ≡ before.header
  pub finite : after.is_finite ≡ before.is_finite

coded-keeps : (g : Given) → KeepsGiven g (after_coded g)
unfolding after_coded
coded-keeps g = by_metrics (current g)
  where
    by_metrics : (m : Option RCFrameMetrics) → KeepsGiven g (coded_by m g)
    by_metrics None = record { header = refl; finite = refl }
    by_metrics (Some m) = record { header = refl; finite = refl }

-- which passes are on, the summary's header and the kind of the buffer stay
record KeepsPasses (before after : Passes) : Type 0 where
  pub first : after.first ≡ before.first
  pub second : after.second ≡ before.second
  pub given : KeepsGiven before.given after.given

same-keeps : (passes : Passes) → KeepsPasses passes passes
same-keeps passes = record { first = refl; second = refl; given = record { header = refl; finite = refl } }

entry-keeps : (enc : EncoderConfig) (passes : Passes) (log : List LogEntry) (entry : LogEntry) →
    KeepsPasses passes (passes_after enc passes log entry)
entry-keeps enc passes log entry =
    by_tests (int_lt (pos 0) enc.bitrate) (passes.second && not entry.trial)
    (cond passes.first (with_waiting (frame_data (measured entry) (rate_at enc passes log)) passes.emitted) passes.emitted)
  where
    by_tests : (b codes : Bool) (emitted : Emitted) →
        KeepsPasses passes (cond b (record passes { given = cond codes (after_coded passes.given) passes.given; emitted = emitted }) passes)
    by_tests true true emitted = record { first = refl; second = refl; given = coded-keeps passes.given }
    by_tests true false emitted = record { first = refl; second = refl; given = record { header = refl; finite = refl } }
    by_tests false codes emitted = same-keeps passes

entries-keep : (enc : EncoderConfig) (passes : Passes) (log entries : List LogEntry) →
    KeepsPasses passes (passes_behind enc passes log entries)
entries-keep enc passes log [] = same-keeps passes
entries-keep enc passes log (entry ∷ entries) =
    let one = entry-keeps enc passes log entry in
    let rest = entries-keep enc (passes_after enc passes log entry) (log ++ entry ∷ []) entries in
    record {
      first = rest.first ∙ one.first;
      second = rest.second ∙ one.second;
      given = record { header = rest.given.header ∙ one.given.header; finite = rest.given.finite ∙ one.given.finite };
    }

-- behind entries and one more
behind-push : (enc : EncoderConfig) (passes : Passes) (before entries : List LogEntry) (entry : LogEntry) →
    passes_after enc (passes_behind enc passes before entries) (before ++ entries) entry ≡ passes_behind enc passes before (entries ++ entry ∷ [])
behind-push enc passes before [] entry = ap (λ (log : List LogEntry). passes_after enc passes log entry) (append-nil before)
behind-push enc passes before (one ∷ entries) entry =
    ap (λ (log : List LogEntry). passes_after enc (passes_behind enc (passes_after enc passes before one) (before ++ one ∷ []) entries) log entry)
    (sym (append_assoc before (one ∷ []) entries))
    ∙ behind-push enc (passes_after enc passes before one) (before ++ one ∷ []) entries entry

-- behind an entry its data waits
entry-waits : (enc : EncoderConfig) (passes : Passes) (log : List LogEntry) (entry : LogEntry) →
    int_lt (pos 0) enc.bitrate ≡ true → passes.first ≡ true →
    is_some (passes_after enc passes log entry).emitted.waiting ≡ true
entry-waits enc passes log entry controlled first =
    by_tests (int_lt (pos 0) enc.bitrate) passes.first (cond (passes.second && not entry.trial) (after_coded passes.given) passes.given) (frame_data (measured entry) (rate_at enc passes log)) controlled first
  where
    by_tests : (b f : Bool) (given : Given) (m : RCFrameMetrics) → b ≡ true → f ≡ true →
        is_some (cond b (record passes { given = given; emitted = cond f (with_waiting m passes.emitted) passes.emitted }) passes).emitted.waiting ≡ true
    by_tests true true given m p q = refl
    by_tests true false given m p q = absurd (cc)
    by_tests false f given m p q = absurd (cc)

-- what is coded for good uses metrics up
entry-given : (enc : EncoderConfig) (passes : Passes) (log : List LogEntry) (entry : LogEntry) →
    int_lt (pos 0) enc.bitrate ≡ true → passes.second ≡ true → entry.trial ≡ false →
    (passes_after enc passes log entry).given ≡ after_coded passes.given
entry-given enc passes log entry controlled second real =
    by_tests (int_lt (pos 0) enc.bitrate) passes.second entry.trial
    (cond passes.first (with_waiting (frame_data (measured entry) (rate_at enc passes log)) passes.emitted) passes.emitted) controlled second real
  where
    by_tests : (b s trial : Bool) (emitted : Emitted) → b ≡ true → s ≡ true → trial ≡ false →
        (cond b (record passes { given = cond (s && not trial) (after_coded passes.given) passes.given; emitted = emitted }) passes).given ≡ after_coded passes.given
    by_tests true true false emitted p q r = refl
    by_tests true true true emitted p q r = absurd (cc)
    by_tests true false trial emitted p q r = absurd (cc)
    by_tests false s trial emitted p q r = absurd (cc)

-- ---- the metrics that are used up

-- an element of a list that was stored at one place
at-set : (numbers : List ℤ) (k s : ℕ) (z : ℤ) → k < length numbers →
    ((s ≡ k) × (number_at (slice_set numbers k z) s ≡ z)) ⊎ (number_at (slice_set numbers k z) s ≡ number_at numbers s)
at-set [] k s z within = absurd (omega arith)
at-set (x ∷ numbers) zero zero z within = inl (refl, refl)
at-set (x ∷ numbers) zero (suc s) z within = inr refl
at-set (x ∷ numbers) (suc k) zero z within = inr refl
at-set (x ∷ numbers) (suc k) (suc s) z within =
    elim (at-set numbers k s z (omega arith)) [
      | inl is ↦ inl (ap suc is.0, is.1)
      | inr is ↦ inr is
    ]

abbrev total_by : List ℤ → ℤ
total_by counts = all_frames (record { counts = counts; sums = []; shown = pos 0 })

-- the total falls by one with one of the counts
total-less : (counts : List ℤ) (k : ℕ) (z : ℤ) → length counts ≡ 5 → k ≤ 4 → z ≡ (number_at counts k -ℤ pos 1) →
    total_by (slice_set counts k z) ≡ (total_by counts -ℤ pos 1)
total-less (a ∷ b ∷ c ∷ d ∷ e ∷ []) zero z five known is = omega (arith, ints)
total-less (a ∷ b ∷ c ∷ d ∷ e ∷ []) (suc zero) z five known is = omega (arith, ints)
total-less (a ∷ b ∷ c ∷ d ∷ e ∷ []) (suc (suc zero)) z five known is = omega (arith, ints)
total-less (a ∷ b ∷ c ∷ d ∷ e ∷ []) (suc (suc (suc zero))) z five known is = omega (arith, ints)
total-less (a ∷ b ∷ c ∷ d ∷ e ∷ []) (suc (suc (suc (suc zero)))) z five known is = omega (arith, ints)
total-less (a ∷ b ∷ c ∷ d ∷ e ∷ []) (suc (suc (suc (suc (suc k))))) z five known is = absurd (omega arith)
total-less counts k z five known is = absurd (omega arith)

-- a count of the summary's doesn't leave its type
count-falls : (x : ℤ) (n : ℕ) → pos 0 ≤ℤ (x +ℤ pos n) → x ≤ℤ pos last_command → (pos n +ℤ pos 1) ≤ℤ pos last_command →
    saturate_signed w32 (x +ℤ negsuc 0) ≡ (x -ℤ pos 1)
count-falls x n low high few = fits_32 (x +ℤ negsuc 0) (omega (arith, ints)) (omega (arith, ints)) ∙ (omega (arith, ints))

-- the next frame's metrics are there
record IsNext (g : Given) (n : ℕ) (header : Header) : Type 0 where
  pub metrics : RCFrameMetrics
  pub is : current g ≡ Some metrics
  pub known : metrics.fti ≤ 4
  pub fewer : (pos n +ℤ pos 1) ≤ℤ header.total

first-held : (xs : List RCFrameMetrics) → nat_lt 0 (length xs) ≡ true → AllKnown xs →
    (m : RCFrameMetrics) × (slice_get xs 0 ≡ Some m) × (m.fti ≤ 4)
first-held [] some known = absurd (cc)
first-held (x ∷ xs) some known = (x, refl, known.0)

some-next : (o : Option RCFrameMetrics) → is_some o ≡ true → IfSome o (λ one. one.fti ≤ 4) →
    (m : RCFrameMetrics) × (o ≡ Some m) × (m.fti ≤ 4)
some-next None some known = absurd (cc)
some-next (Some m) some known = (m, refl, known)

next-metrics : (g : Given) (n : ℕ) (need : ℤ) (header : Header) → IsLeft g n header → has_next need g ≡ true → IsNext g n header
next-metrics g n need header left has = by_kind g.is_finite refl has
  where
    held-some : (length_is : ℕ) → nat_lt 0 length_is ≡ true → 1 ≤ length_is
    held-some length_is some = grind (arith, nat_tests)

    by_kind : (finite : Bool) → g.is_finite ≡ finite →
        cond finite (int_le need (pos 0) && nat_lt 0 (length g.window.held)) (is_some g.next) ≡ true → IsNext g n header
    by_kind true finite has =
        let some : nat_lt 0 (length g.window.held) ≡ true = second-of (int_le need (pos 0)) (nat_lt 0 (length g.window.held)) has in
        let first = first-held g.window.held some left.known in
        let most = left.held in
        let all = left.left in
        let longer = held-some (length g.window.held) some in
        record {
          metrics = first.0;
          is = ap (λ b. cond b (slice_get g.window.held 0) g.next) finite ∙ first.1;
          known = first.2;
          fewer = omega (arith, ints);
        }
    by_kind false finite has =
        let one = some-next g.next has left.known_next in
        let few = left.next has in
        record {
          metrics = one.0;
          is = ap (λ b. cond b (slice_get g.window.held 0) g.next) finite ∙ one.1;
          known = one.2;
          fewer = omega (arith, ints);
        }

known-behind : (xs : List RCFrameMetrics) → AllKnown xs → AllKnown (drop 1 xs)
known-behind [] known = tt
known-behind (x ∷ xs) known = known.1

held-fewer : (xs : List RCFrameMetrics) (frames left : ℤ) → pos (length xs) ≤ℤ frames → left ≡ (frames -ℤ pos 1) →
    pos 0 ≤ℤ left → pos (length (drop 1 xs)) ≤ℤ left
held-fewer [] frames left most is some = some
held-fewer (x ∷ xs) frames left most is some = omega (arith, ints)

less-counts : (m : RCFrameMetrics) (t : Tally) → (less m t).counts ≡ count_set t.counts m.fti (negsuc 0)
unfolding less
less-counts m t = refl

used-left : (g : Given) (n : ℕ) (header : Header) (m : RCFrameMetrics) → IsLeft g n header → m.fti ≤ 4 →
    (pos n +ℤ pos 1) ≤ℤ header.total → IsLeft (without_metrics m g) (n + 1) header
used-left g n header m left known fewer =
    let counts = g.left.counts in
    let z = saturate_signed w32 (number_at counts m.fti +ℤ negsuc 0) in
    let most = left.total in
    let few : (pos n +ℤ pos 1) ≤ℤ pos last_command = omega (arith, ints) in
    let falls : z ≡ (number_at counts m.fti -ℤ pos 1) = count-falls (number_at counts m.fti) n (left.low m.fti) (left.high m.fti) few in
    let five = left.counts in
    let within : m.fti < length counts = omega arith in
    let are : (less m g.left).counts ≡ slice_set counts m.fti z = less-counts m g.left in
    let totals : total_by (slice_set counts m.fti z) ≡ (total_by counts -ℤ pos 1) = total-less counts m.fti z five known falls in
    let same : all_frames (less m g.left) ≡ total_by (slice_set counts m.fti z) = ap (λ (l : List ℤ). total_by l) are in
    let old = left.left in
    let now : all_frames (less m g.left) ≡ (all_frames g.left -ℤ pos 1) = same ∙ totals in
    record {
      behind = omega (arith, ints);
      total = most;
      units = left.units;
      left = omega (arith, ints);
      held = held-fewer g.window.held (all_frames g.left) (all_frames (less m g.left)) left.held now (omega (arith, ints));
      next = λ some. absurd (cc);
      counts = ap (λ (l : List ℤ). length l) are ∙ (length-set counts m.fti z ∙ five);
      low = λ s. subst (λ (l : List ℤ). pos 0 ≤ℤ (number_at l s +ℤ pos (n + 1))) (sym are) (low-at counts m.fti z s falls within (left.low s));
      high = λ s. subst (λ (l : List ℤ). number_at l s ≤ℤ pos last_command) (sym are) (high-at counts m.fti z s falls within (left.high s));
      known = known-behind g.window.held left.known;
      known_next = tt;
    }
  where
    low-at : (counts : List ℤ) (k : ℕ) (z : ℤ) (s : ℕ) → z ≡ (number_at counts k -ℤ pos 1) → k < length counts →
        pos 0 ≤ℤ (number_at counts s +ℤ pos n) →
        pos 0 ≤ℤ (number_at (slice_set counts k z) s +ℤ pos (n + 1))
    low-at counts k z s falls within low =
        elim (at-set counts k s z within) [
          | inl is ↦ (let here : number_at counts s ≡ number_at counts k = ap (λ (i : ℕ). number_at counts i) is.0 in let there = is.1 in omega (arith, ints))
          | inr is ↦ omega (arith, ints)
        ]

    high-at : (counts : List ℤ) (k : ℕ) (z : ℤ) (s : ℕ) → z ≡ (number_at counts k -ℤ pos 1) → k < length counts →
        number_at counts s ≤ℤ pos last_command →
        number_at (slice_set counts k z) s ≤ℤ pos last_command
    high-at counts k z s falls within high =
        elim (at-set counts k s z within) [
          | inl is ↦ (let here : number_at counts s ≡ number_at counts k = ap (λ (i : ℕ). number_at counts i) is.0 in let there = is.1 in omega (arith, ints))
          | inr is ↦ omega (arith, ints)
        ]

left-coded : (g : Given) (n : ℕ) (need : ℤ) (header : Header) → IsLeft g n header → has_next need g ≡ true →
    IsLeft (after_coded g) (n + 1) header
unfolding after_coded
left-coded g n need header left has =
    let next = next-metrics g n need header left has in
    subst (λ (o : Option RCFrameMetrics). IsLeft (coded_by o g) (n + 1) header) (sym next.is) (used-left g n header next.metrics left next.known next.fewer)

-- one more, up to the last value of the count
next-count : (count : ℤ) (n : ℕ) → count ≡ int_min (pos n) (pos last_command) →
    saturate_signed w32 (count +ℤ pos 1) ≡ int_min (pos (n + 1)) (pos last_command)
next-count count n is = by_size (nat_lt n last_command) refl
  where
    by_size : (b : Bool) → nat_lt n last_command ≡ b → saturate_signed w32 (count +ℤ pos 1) ≡ int_min (pos (n + 1)) (pos last_command)
    by_size true small =
        let less : n < last_command = is-less n last_command small in
        let same : count ≡ pos n = omega (arith, ints, clamps) in
        fits_32 (count +ℤ pos 1) (omega (arith, ints)) (omega (arith, ints)) ∙ (omega (arith, ints, clamps))
      where
        is-less : (a b : ℕ) → nat_lt a b ≡ true → a < b
        is-less a b h = grind (arith, nat_tests)
    by_size false large =
        let more : last_command ≤ n = not-less n last_command large in
        let same : count ≡ pos last_command = omega (arith, ints, clamps) in
        ap (λ z. saturate_signed w32 (z +ℤ pos 1)) same ∙ (omega (arith, ints, clamps))
      where
        not-less : (a b : ℕ) → nat_lt a b ≡ false → b ≤ a
        not-less a b h = grind (arith, nat_tests)

-- ---- a receive that codes

module _ {T O D S C : Type 0} (packet : Option (Packet T O)) (before after : Session T O D S C) (told now : Heard T) (known : IsKnown before) (is : Calls before after told now (received packet)) where
  one : IsAnswered GivesReceived Receive before after told now (received packet)
  one = receive-answered before after told now packet is

  codes : CodesNext before.enc before.moment one.turn
  codes = codes-next before after told now one.turn known one.step.answered

  moves : HasReceived before.moment one.turn.log after.moment
  moves = subst (λ (m : Moment T O). HasReceived before.moment one.turn.log m) (sym one.step.moment) (received-moment before.moment one.turn.log one.turn.reply)

  tries : AreTries codes.trials
  tries = are-tries before.enc before.moment codes.entry.command codes.trials codes.tried

  -- one entry counts
  reals : real_entries one.turn.log ≡ codes.entry ∷ []
  reals =
      ap real_entries codes.log
      ∙ (filter-append (λ (e : LogEntry). not e.trial) codes.trials (codes.entry ∷ [])
      ∙ (ap (λ (l : List LogEntry). l ++ real_entries (codes.entry ∷ [])) tries.none_real
      ∙ ap (λ b. cond (not b) (codes.entry ∷ []) []) codes.real))

  one-more : after.moment.commands ≡ before.moment.commands + 1
  one-more =
      let count : length (real_entries one.turn.log) ≡ 1 = ap (λ (l : List LogEntry). length l) reals in
      let is = moves.commands in
      omega arith

  passes-are : after.passes ≡ passes_after before.enc (passes_behind before.enc before.passes before.moment.log codes.trials) (before.moment.log ++ codes.trials) codes.entry
  passes-are =
      one.passes
      ∙ (ap (λ (l : List LogEntry). passes_behind before.enc before.passes before.moment.log l) codes.log
      ∙ sym (behind-push before.enc before.passes before.moment.log codes.trials codes.entry))

  before-last : KeepsPasses before.passes (passes_behind before.enc before.passes before.moment.log codes.trials)
  before-last = entries-keep before.enc before.passes before.moment.log codes.trials

  keeps : KeepsPasses before.passes after.passes
  keeps = subst (λ (p : Passes). KeepsPasses before.passes p) (sym one.passes) (entries-keep before.enc before.passes before.moment.log one.turn.log)

  pub received-same : IsSameInput before after
  received-same = record { settings = one.settings; accepted = moves.accepted; flushed = moves.flushed }

  pub received-smaller : left_of after < left_of before
  received-smaller =
      let within : before.moment.commands < length (plan_at before.enc before.moment) = slice_get_within (plan_at before.enc before.moment) before.moment.commands codes.entry.command codes.command in
      let plan : length (plan_at after.enc after.moment) ≡ length (plan_at before.enc before.moment) =
      same-plan before.enc after.enc before.moment after.moment one.settings moves.accepted moves.decisions in
      let more = one-more in
      omega arith
    where
      same-plan : (e f : EncoderConfig) (m n : Moment T O) → f ≡ e → n.accepted ≡ m.accepted → n.decisions ≡ m.decisions →
          length (plan_at f n) ≡ length (plan_at e m)
      same-plan e f m n p q r = rw (p, q, r) refl

  abbrev awaiting : Bool
  awaiting = awaits_data before.enc (at_of before) Receive

  -- it didn't wait
  ready : before.failure ≡ None → is_ready (rate_in before) ≡ true
  ready unfailed = goes-on (is_none (held_back before.enc before.moment)) (is_ready (rate_in before)) (ap (λ (o : Option EncoderStatus). is_none o) known) (by_call awaiting refl by_unfailed)
    where
      by_unfailed : MatchBool awaiting (Waits GivesReceived before after (received packet)) (IsAnswered GivesReceived Receive before after told now (received packet) ⊎ IsFailed Receive before after told now (received packet))
      by_unfailed = subst (λ (f : Option SessionFault). MatchOption f
          (MatchBool awaiting (Waits GivesReceived before after (received packet)) (IsAnswered GivesReceived Receive before after told now (received packet) ⊎ IsFailed Receive before after told now (received packet)))
          (λ fault. (received packet ≡ Err Failure) × (after ≡ before))) unfailed is

      by_call : (b : Bool) → awaiting ≡ b →
          MatchBool b (Waits GivesReceived before after (received packet)) (IsAnswered GivesReceived Receive before after told now (received packet) ⊎ IsFailed Receive before after told now (received packet)) →
          awaiting ≡ false
      by_call true waits stays = absurd (not-waiting packet stays.0)
      by_call false goes call = goes

  not-last : (n m : ℕ) → n ≤ m → (n == m) ≡ false → n < m
  not-last n m few other = grind (arith, nat_tests)

  -- a first pass's last data was handed on, so the next is counted too
  below : (handing : Bool) (count : ℤ) → IsWell handing count before → IsPaid handing before → handing ≡ true →
      before.moment.commands < last_command
  below handing count well paid hands =
      let both = ready-both before.passes.first (is_some before.passes.emitted.waiting) before.passes.second (has_next (frames_needed (rate_in before)) before.passes.given) (ready well.unfailed) in
      not-last before.moment.commands last_command (paid.few hands) (sym (paid.waits hands) ∙ both.0 (well.passes.first ∙ hands))

  pub received-owed : (handing : Bool) (count : ℤ) → IsWell handing count before → IsPaid handing before → IsOwed handing after
  received-owed handing count well paid = record {
    few = λ hands. let more = one-more in let less = below handing count well paid hands in omega arith;
    waits = λ hands last. ap (λ (p : Passes). is_some p.emitted.waiting) passes-are
        ∙ entry-waits before.enc (passes_behind before.enc before.passes before.moment.log codes.trials) (before.moment.log ++ codes.trials) codes.entry
        (well.passes.controlled hands) (before-last.first ∙ (well.passes.first ∙ hands));
  }

  next-given : (handing : Bool) (count : ℤ) → IsWell handing count before → before.passes.second ≡ true →
      after.passes.given ≡ after_coded before.passes.given
  next-given handing count well second =
      ap (λ (p : Passes). p.given) passes-are
      ∙ (entry-given before.enc (passes_behind before.enc before.passes before.moment.log codes.trials) (before.moment.log ++ codes.trials) codes.entry
      (well.passes.counted second) (before-last.second ∙ second) codes.real
      ∙ ap (λ (g : Given). after_coded g) (tries.given before.enc before.passes before.moment.log))

  left-after : (handing : Bool) (count : ℤ) → IsWell handing count before →
      IfSome after.passes.given.header (IsLeft after.passes.given after.moment.commands)
  left-after handing count well =
      subst (λ (o : Option Header). IfSome o (IsLeft after.passes.given after.moment.commands)) (sym keeps.given.header)
      (by_header before.passes.given.header refl well.passes.left)
    where
      by_header : (o : Option Header) → before.passes.given.header ≡ o →
          IfSome o (IsLeft before.passes.given before.moment.commands) →
          IfSome o (IsLeft after.passes.given after.moment.commands)
      by_header None is left = tt
      by_header (Some header) is left =
          let second : before.passes.second ≡ true = well.passes.second ∙ ap (λ (o : Option Header). is_some o) is in
          let both = ready-both before.passes.first (is_some before.passes.emitted.waiting) before.passes.second (has_next (frames_needed (rate_in before)) before.passes.given) (ready well.unfailed) in
          subst (λ (n : ℕ). IsLeft after.passes.given n header) (sym one-more)
          (subst (λ (g : Given). IsLeft g (before.moment.commands + 1) header) (sym (next-given handing count well second))
          (left-coded before.passes.given before.moment.commands (frames_needed (rate_in before)) header left (both.1 second)))

  passes-after : (handing : Bool) (count : ℤ) → IsWell handing count before → ArePassesWell handing after
  passes-after handing count well =
      let passes = well.passes in
      record {
        first = keeps.first ∙ passes.first;
        second = keeps.second ∙ (passes.second ∙ ap (λ (o : Option Header). is_some o) (sym keeps.given.header));
        controlled = λ hands. subst (λ (e : EncoderConfig). IsTrue (int_lt (pos 0) e.bitrate)) (sym one.settings) (passes.controlled hands);
        counted = λ second. subst (λ (e : EncoderConfig). IsTrue (int_lt (pos 0) e.bitrate)) (sym one.settings) (passes.counted (sym keeps.second ∙ second));
        delay = subst (λ (r : Rate). pos 1 ≤ℤ r.reservoir_delay)
            (sym (ap (λ (e : EncoderConfig). started e after.passes) one.settings ∙ same_start before.enc before.passes after.passes keeps.given.header keeps.given.finite)) passes.delay;
        left = left-after handing count well;
      }

  pub received-well : (handing : Bool) (count : ℤ) → IsWell handing count before →
      (after.failure ≡ None → HaveBytes after.moment.log) →
      IsWell handing (int_min (pos (before.moment.commands + 1)) (pos last_command)) after
  received-well handing count well bytes = record {
    unfailed = one.unfailed;
    within = let most = well.within in let same = moves.accepted in omega arith;
    counted = ap (λ (n : ℕ). int_min (pos n) (pos last_command)) (sym one-more);
    real =
        let split : length (real_entries (before.moment.log ++ one.turn.log)) ≡ length (real_entries before.moment.log) + length (real_entries one.turn.log) =
        ap (λ (l : List LogEntry). length l) (filter-append (λ (e : LogEntry). not e.trial) before.moment.log one.turn.log) ∙ length-append (real_entries before.moment.log) (real_entries one.turn.log) in
        let same : length (real_entries after.moment.log) ≡ length (real_entries (before.moment.log ++ one.turn.log)) = ap (λ (l : List LogEntry). length (real_entries l)) moves.log_is in
        let old = well.real in
        let more = moves.commands in
        omega arith;
    untried = subst (λ (l : List LogEntry). All IsUntried l) (sym moves.log_is)
        (All-append IsUntried before.moment.log one.turn.log well.untried
        (subst (λ (l : List LogEntry). All IsUntried l) (sym codes.log)
        (All-append IsUntried codes.trials (codes.entry ∷ []) tries.untried (All-cons IsUntried codes.entry [] (λ shows. codes.real) (All-nil IsUntried)))));
    bytes = bytes one.unfailed;
    passes = passes-after handing count well;
  }

  -- by the count that saturates
  pub received-counted : (handing : Bool) (count next : ℤ) → IsWell handing count before →
      (after.failure ≡ None → HaveBytes after.moment.log) → FitsSigned w32 count →
      next ≡ saturate_signed w32 (to_z w32 (of_z w32 count) +ℤ pos 1) → IsWell handing (to_z w32 (of_z w32 next)) after
  received-counted handing count next well bytes fits is =
      let same : next ≡ int_min (pos (before.moment.commands + 1)) (pos last_command) = is ∙ (ap (λ z. saturate_signed w32 (z +ℤ pos 1)) (to_z-of_z w32 count fits) ∙ next-count count before.moment.commands well.counted) in
      let stands : IsWell handing next after = subst (λ z. IsWell handing z after) (sym same) (received-well handing count well bytes) in
      subst (λ z. IsWell handing z after) (sym (count-kept handing next after stands)) stands
