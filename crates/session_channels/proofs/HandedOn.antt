-- What a first pass hands on when it is asked, and what that leaves of a session.
use Rattle.std.proofs.Common.{◌≡◌, inr, ℕ, ◌≤◌, ◌-◌, ◌^◌, ◌==◌, Bool, true, false, cond, not, ◌&&◌, MatchOption, List, [], ◌∷◌, ◌++◌, map, option_to_list, Option, Some, None, is_some, Result, Ok, Err, IfErr, OnOk, ℤ, pos, ◌≤ℤ◌, int_lt, refl, sym, ap, ◌∙◌, subst, arith}
use Rattle.std.proofs.lemmas.Bool.Decides.{nat_tests}
use Rattle.std.proofs.lemmas.Int.{ints}
use Rattle.pass_data.specs.Emitted.{Emitted, emitted_by, with_frame_emitted}
use Rattle.pass_data.specs.declared.rc_data.RcData.{RcData}
use Rattle.pass_stats.specs.declared.metrics.RCFrameMetrics.{RCFrameMetrics}
use Rattle.ratecontrol.specs.Passes.{after_frame_emitted, after_summary, can_emit, commands, given_out, gives_frame, gives_summary, is_controlled}
use Rattle.ratecontrol.specs.Rate.{Rate}
use Rattle.ratecontrol.proofs.KeptLaws.{kept_bitrate}
use Rattle.session_log.proofs.Logs.{same_start, started_bitrate}
use Rattle.session_log.specs.Passes.{Passes, passes_of, started}
use Rattle.session_log.specs.Readings.{measured}
use Rattle.session_core.specs.declared.fault.SessionFault.{SessionFault}
use Rattle.session_core.specs.Contexts.{Session}
use Rattle.session_core.specs.PassCalls.{IsTakeCall, rate_in, with_rate}
use Rattle.session_core.specs.PassTurns.{IsPassData, is_done}
use Rattle.session_channels.specs.declared.fault.ChannelFault.{ChannelFault}
use Rattle.session_channels.specs.declared.fault.ChannelFault.TheVariants.{Coder, FrameRefused, PassData, PassDataMissing, PassDataKind, PassDataEnded, PacketsClosed, OutOfMemory}
use Rattle.session_channels.specs.Acts.{Ears, Hand, HandsOn, Owes, owing}
use Rattle.session_channels.specs.Courses.{Drove, IsPutFault, PutsAll, SaidClosed, Stopped, Turns, Went, untouched}
use Rattle.session_channels.specs.Queues.{Queue}
use Rattle.session_channels.specs.Wells.{IsOwed, IsPaid, IsWell, last_command}
use Rattle.session_channels.proofs.Given.{counts_many}
use Rattle.session_channels.proofs.Joins.{puts-none}
use Rattle.session_channels.proofs.LawsCounted.{counts-few}

-- ---- what was emitted

-- the data that waited is taken
taken-waits : (e : Emitted) → is_some (with_frame_emitted e).waiting ≡ false
unfolding with_frame_emitted
taken-waits e = by_waiting e.waiting refl
  where
    by_waiting : (w : Option RCFrameMetrics) → e.waiting ≡ w → is_some (emitted_by w e).waiting ≡ false
    by_waiting None is = ap (λ (o : Option RCFrameMetrics). is_some o) is
    by_waiting (Some m) is = refl

-- else what waits stays
out-waits : (done : Bool) (rate : Rate) → is_controlled rate ≡ true →
    is_some (given_out done rate).emitted.waiting ≡ (is_some rate.emitted.waiting && not (can_emit rate))
out-waits done rate controlled = by_tests (is_controlled rate) (is_some rate.emitted.waiting) (can_emit rate) (gives_summary done rate) controlled refl
  where
    by_tests : (on waits emits summary : Bool) → on ≡ true → is_some rate.emitted.waiting ≡ waits →
        is_some (cond (on && waits) (record rate { emitted = cond emits (with_frame_emitted rate.emitted) rate.emitted }) (cond summary (after_summary rate) rate)).emitted.waiting
        ≡ (waits && not emits)
    by_tests true true true summary on is = taken-waits rate.emitted
    by_tests true true false summary on is = is
    by_tests true false emits true on is = is
    by_tests true false emits false on is = is
    by_tests false waits emits summary on is = absurd (cc)

-- nothing else changes
out-passes : (done : Bool) (rate : Rate) → passes_of (given_out done rate) ≡ record (passes_of rate) { emitted = (given_out done rate).emitted }
out-passes done rate = by_tests (gives_frame rate) (gives_summary done rate)
  where
    by_tests : (frame summary : Bool) → passes_of (cond frame (after_frame_emitted rate) (cond summary (after_summary rate) rate))
        ≡ record (passes_of rate) { emitted = (cond frame (after_frame_emitted rate) (cond summary (after_summary rate) rate)).emitted }
    by_tests true summary = refl
    by_tests false true = refl
    by_tests false false = refl

-- so it waits still where the summary can't count it
last-waits : (waits : Bool) (n limit : ℕ) → n ≤ limit → (n ≡ limit → waits ≡ true) → (waits && not (int_lt (pos n) (pos limit))) ≡ (n == limit)
last-waits waits n limit few owed = by_tests waits (int_lt (pos n) (pos limit)) (n == limit) refl refl owed
  where
    by_tests : (w emits last : Bool) → int_lt (pos n) (pos limit) ≡ emits → (n == limit) ≡ last → (n ≡ limit → w ≡ true) → (w && not emits) ≡ last
    by_tests true true true less same h = absurd (grind (arith, ints, nat_tests))
    by_tests true true false less same h = refl
    by_tests true false true less same h = refl
    by_tests true false false less same h = absurd (grind (arith, ints, nat_tests))
    by_tests false emits true less same h = let is : n ≡ limit = grind (arith, nat_tests) in let no = h is in absurd (cc)
    by_tests false emits false less same h = refl

-- rate control counts every command
counts-all : (c : ℤ) (n limit : ℕ) → c ≤ℤ pos n → (pos n ≤ℤ pos limit → pos n ≤ℤ c) → n ≤ limit → c ≡ pos n
counts-all c n limit low high few = let many = high (omega (arith, ints)) in omega (arith, ints)

-- ---- the call

module _ {T O D S C : Type 0} (before : Session T O D S C) where
  abbrev emitted_then : Emitted
  emitted_then = (given_out (is_done before.moment) (rate_in before)).emitted

  -- nothing changes but what the first pass emitted
  abbrev handed_of : Session T O D S C
  handed_of = record before { passes = record before.passes { emitted = emitted_then } }

  handed-is : (after : Session T O D S C) (message : Option RcData) → before.failure ≡ None → IsTakeCall before after message → after ≡ handed_of
  handed-is after message none is =
      (subst (λ (f : Option SessionFault). MatchOption f
      (IsPassData (is_done before.moment) (rate_in before) message × (after ≡ with_rate (given_out (is_done before.moment) (rate_in before)) before))
      (λ fault. (message ≡ None) × (after ≡ before))) none is).1
      ∙ ap (λ (p : Passes). record before { passes = p }) (out-passes (is_done before.moment) (rate_in before))

  handed-well : (handing : Bool) (coded : ℤ) → IsWell handing coded before → IsWell handing coded handed_of
  handed-well handing coded well =
      let passes = well.passes in
      record {
        unfailed = well.unfailed;
        within = well.within;
        counted = well.counted;
        real = well.real;
        untried = well.untried;
        bytes = well.bytes;
        passes = record {
          first = passes.first;
          second = passes.second;
          controlled = passes.controlled;
          counted = passes.counted;
          delay = subst (λ (r : Rate). pos 1 ≤ℤ r.reservoir_delay) (sym (same_start before.enc before.passes handed_of.passes refl refl)) passes.delay;
          left = passes.left;
        };
      }

  handed-paid : (handing : Bool) (coded : ℤ) → IsWell handing coded before → IsOwed handing before → IsPaid handing handed_of
  handed-paid handing coded well owed = record {
    few = owed.few;
    waits = λ on.
        let rate = rate_in before in
        let controlled : is_controlled rate ≡ true =
        ap (λ z. int_lt (pos 0) z)
        (kept_bitrate (started before.enc before.passes) (map measured before.moment.log) ∙ started_bitrate before.enc before.passes) ∙ well.passes.controlled on in
        let counts : commands rate ≡ pos before.moment.commands =
        counts-all (commands rate) before.moment.commands last_command (counts-few before well.real well.untried)
        (counts_many before well.real well.bytes (well.passes.controlled on)) (owed.few on) in
        out-waits (is_done before.moment) rate controlled
        ∙ (ap (λ n. is_some before.passes.emitted.waiting && not (int_lt n (pos (2 ^ 31 - 1)))) counts
        ∙ last-waits (is_some before.passes.emitted.waiting) before.moment.commands last_command (owed.few on) (owed.waits on));
  }

  pub taken-well : (handing : Bool) (coded : ℤ) (after : Session T O D S C) (message : Option RcData) → IsWell handing coded before → IsTakeCall before after message → IsWell handing coded after
  taken-well handing coded after message well is = subst (λ (s : Session T O D S C). IsWell handing coded s) (sym (handed-is after message well.unfailed is)) (handed-well handing coded well)

  pub taken-paid : (handing : Bool) (coded : ℤ) (after : Session T O D S C) (message : Option RcData) → IsWell handing coded before → IsOwed handing before → IsTakeCall before after message →
      IsPaid handing after
  taken-paid handing coded after message well owed is =
      subst (λ (s : Session T O D S C). IsPaid handing s) (sym (handed-is after message well.unfailed is)) (handed-paid handing coded well owed)

-- ---- where the message is put

pub on-ok : {A : Type 0} (result : Result (Unit {0}) ChannelFault) → A → OnOk result A
on-ok (Ok done) is = is
on-ok (Err fault) is = tt

-- ---- the stretch

-- what was put into the queue of pass data
abbrev pub handing_to : {T O Q : Type 0} → (Q → Option (List RcData)) → (Q → Queue) → Q → Q → Turns T O
handing_to contents queue before now = record untouched {
  handed = PutsAll contents queue before now;
  severed = SaidClosed (queue before) (queue now);
}

module _ {T O D S C Q : Type 0} (contents : Q → Option (List RcData)) (queue : Q → Queue) (ears : Ears T D S C) (hand : Hand T O) (before after : Session T O D S C) where
  -- the data that is owed
  hands-on : (message : Option RcData) (q0 q1 : Q) → IsTakeCall before after message → PutsAll contents queue q0 q1 (option_to_list message ++ []) →
      Went ears true (handing_to contents queue q0 q1) (record { hand = Owes hand; session = before }) (record { hand = hand; session = after })
  hands-on message q0 q1 is puts = record {
    acts = HandsOn message ∷ [];
    run = (record { hand = hand; session = after }, record { due = tt; does = is; held = refl }, refl);
    frames = refl;
    packets = refl;
    metrics = refl;
    handed = puts;
  }

  -- it isn't put
  refused-by : (message : RcData) (q0 q1 : Q) (fault : ChannelFault) → IsTakeCall before after (Some message) → PutsAll contents queue q0 q1 [] → IsPutFault (queue q0) (queue q1) fault →
      Stopped ears true (handing_to contents queue q0 q1) (record { hand = Owes hand; session = before }) after fault
  refused-by message q0 q1 PacketsClosed is puts closed = record {
    acts = [];
    last = record { hand = Owes hand; session = before };
    run = refl;
    taken = [];
    cause = (refl, record { closed = closed; due = inr (record { hand = hand; owes = refl; message = message; call = is }) });
    frames = refl;
    packets = refl;
    metrics = refl;
    handed = puts;
  }
  refused-by message q0 q1 OutOfMemory is puts none = record {
    acts = [];
    last = record { hand = Owes hand; session = before };
    run = refl;
    taken = [];
    cause = refl;
    frames = refl;
    packets = refl;
    metrics = refl;
    handed = puts;
  }
  refused-by message q0 q1 (Coder command) is puts never = absurd never
  refused-by message q0 q1 (FrameRefused status) is puts never = absurd never
  refused-by message q0 q1 (PassData refusal) is puts never = absurd never
  refused-by message q0 q1 PassDataKind is puts never = absurd never
  refused-by message q0 q1 PassDataMissing is puts never = absurd never
  refused-by message q0 q1 (PassDataEnded total) is puts never = absurd never

  by_result : (message : RcData) (q0 q1 : Q) (result : Result (Unit {0}) ChannelFault) → IsTakeCall before after (Some message) →
      OnOk result (PutsAll contents queue q0 q1 (message ∷ [])) →
      IfErr result (λ fault. PutsAll contents queue q0 q1 [] × IsPutFault (queue q0) (queue q1) fault) →
      Drove ears true (handing_to contents queue q0 q1) (record { hand = Owes hand; session = before }) (record { hand = hand; session = after }) result
  by_result message q0 q1 (Ok done) is puts refused = hands-on (Some message) q0 q1 is puts
  by_result message q0 q1 (Err fault) is puts refused = refused-by message q0 q1 fault is refused.0 refused.1

  -- where it is asked for
  pub hand-drove : (handing : Bool) (message : RcData) (q0 q1 : Q) (result : Result (Unit {0}) ChannelFault) → handing ≡ true → IsTakeCall before after (Some message) →
      OnOk result (PutsAll contents queue q0 q1 (message ∷ [])) →
      IfErr result (λ fault. PutsAll contents queue q0 q1 [] × IsPutFault (queue q0) (queue q1) fault) →
      Drove ears handing (handing_to contents queue q0 q1) (record { hand = owing handing hand; session = before }) (record { hand = hand; session = after }) result
  hand-drove true message q0 q1 result on is puts refused = by_result message q0 q1 result is puts refused
  hand-drove false message q0 q1 result on is puts refused = absurd (cc)

  pub hand-nothing : (handing : Bool) (q : Q) → handing ≡ true → IsTakeCall before after None →
      Went ears handing (handing_to contents queue q q) (record { hand = owing handing hand; session = before }) (record { hand = hand; session = after })
  hand-nothing true q on is = hands-on None q q is (puts-none contents queue q)
  hand-nothing false q on is = absurd (cc)
