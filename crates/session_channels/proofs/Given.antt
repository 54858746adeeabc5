-- What stays and what changes where a frame's metrics are given.
use Rattle.std.proofs.Common.{◌≡◌, ◌⊎◌, inl, inr, ℕ, suc, ◌+◌, ◌-◌, ◌*◌, ◌^◌, ◌<◌, ◌≤◌, ◌==◌, nat_lt, nat_le, Bool, true, false, cond, not, ◌&&◌, List, [], ◌∷◌, ◌++◌, filter, map, length, length-append, MatchOption, Option, Some, None, is_some, IfSome, Result, Ok, Err, refl, sym, ap, ◌∙◌, subst, arith, ℤ, pos, negsuc, ◌+ℤ◌, ◌-ℤ◌, ◌≤ℤ◌, int_lt, int_le, unsigned_abs}
use Rattle.std.specs.Int.{int_max, int_min}
use Rattle.std.proofs.lemmas.Int.{ints, clamps}
use Rattle.std.proofs.lemmas.Bool.Decides.{nat_tests}
use Rattle.arrayvec.specs.ArrayVec.{ArrayVec}
use Rattle.av1_settings.specs.declared.encoder.EncoderConfig.{EncoderConfig}
use Rattle.av1_settings.specs.declared.status.EncoderStatus.{EncoderStatus}
use Rattle.av1_settings.specs.declared.status.EncoderStatus.TheVariants.{Failure}
use Rattle.pass_stats.specs.Metric.{subtype_at}
use Rattle.pass_stats.specs.declared.metrics.RCFrameMetrics.{RCFrameMetrics}
use Rattle.metrics_window.specs.Tallies.{all_frames, shown_of}
use Rattle.metrics_window.specs.Window.{AllKnown, with_taken}
use Rattle.pass_data.specs.declared.error.PassDataError.{PassDataError}
use Rattle.pass_data.specs.declared.error.PassDataError.TheVariants.{NotNeeded, TooManyFrames, WrongSize}
use Rattle.pass_data.specs.declared.given.Header.{Header}
use Rattle.pass_data.specs.Given.{Given, Outcome, bad_packet, into_window, metrics_at, needed, needed_by, needed_in_window, refused, sent, taken, with_metrics}
use Rattle.pass_data.specs.declared.rc_data.RcData.{RcData}
use Rattle.pass_data.specs.declared.rc_data.RcData.TheVariants.{Frame as OfFrame, Summary as OfSummary}
use Rattle.pyramid.specs.Subtypes.{subtype_of}
use Rattle.rate_model.specs.Measure.{Entry}
use Rattle.ratecontrol.specs.Kept.{kept, with_log}
use Rattle.ratecontrol.specs.Log.{is_coded, is_show}
use Rattle.ratecontrol.specs.Passes.{commands, frames_needed, is_controlled, over_the_file, over_the_window, set_up, set_up_by}
use Rattle.ratecontrol.specs.Rate.{Rate}
use Rattle.ratecontrol.specs.Start.{start}
use Rattle.session_log.proofs.Logs.{same_start, started_bitrate}
use Rattle.session_log.specs.Passes.{Passes, packet_sent, started, with_passes}
use Rattle.session_log.specs.Readings.{measured, start_of}
use Rattle.session_log.specs.declared.entry.LogEntry.{LogEntry}
use Rattle.session_core.specs.declared.fault.SessionFault.{SessionFault}
use Rattle.session_core.specs.declared.fault.SessionFault.TheVariants.{PassData}
use Rattle.session_core.specs.Contexts.{Session}
use Rattle.session_core.specs.PassCalls.{IsGiven, rate_in, required_of}
use Rattle.session_core.specs.PassTurns.{is_done}
use Rattle.session_core.specs.Turns.{HaveBytes, real_entries}
use Rattle.session_channels.specs.declared.fault.ChannelFault.TheVariants.{PassData as Refuses, PassDataKind}
use Rattle.session_channels.specs.Acts.{Ears, Gives, Hand, IsOpen, all_well}
use Rattle.session_channels.specs.Courses.{Stopped, Turns, Went, untouched}
use Rattle.session_channels.specs.Wells.{IsKnown, IsLeft, IsPaid, IsWell, last_command, room_of}

-- ---- where metrics are needed

-- after so many commands, by this header
pub record IsNeeded (counted : ℤ) (g : Given) (header : Header) : Type 0 where
  pub fewer : (counted +ℤ pos 1) ≤ℤ header.total
  pub window : g.is_finite ≡ true → (pos (length g.window.held) +ℤ pos 1) ≤ℤ all_frames g.left
  pub whole : g.is_finite ≡ false → is_some g.next ≡ false

below : (a b : ℤ) → int_le a b ≡ false → (b +ℤ pos 1) ≤ℤ a
below a b h = omega (arith, ints)

window_room : (units frames : ℤ) → 1 ≤ unsigned_abs (int_max (int_min units frames) (pos 0)) → pos 1 ≤ℤ frames
window_room units (pos n) h = omega (arith, ints, clamps)
window_room units (negsuc n) h = omega (arith, ints, clamps)

one_more : (held : ℕ) (left : ℤ) → pos 1 ≤ℤ (left -ℤ pos held) → (pos held +ℤ pos 1) ≤ℤ left
one_more held left h = omega (arith, ints)

needs_by : (on done finite next : Bool) (w : ℤ) → 1 ≤ unsigned_abs (cond on (cond done (pos 0) (cond finite w (cond next (pos 0) (pos 1)))) (pos 0))
    → (done ≡ false) × (finite ≡ true → 1 ≤ unsigned_abs w) × (finite ≡ false → next ≡ false)
needs_by false done finite next w h = absurd (omega arith)
needs_by true true finite next w h = absurd (omega arith)
needs_by true false true next w h = (refl, λ _. h, λ e. absurd (cc))
needs_by true false false true w h = absurd (omega arith)
needs_by true false false false w h = (refl, λ e. absurd (cc), λ _. refl)

needs_header : (on : Bool) (delay counted : ℤ) (g : Given) (header : Header) → 1 ≤ unsigned_abs (cond on (needed_by (Some header) delay counted g) (pos 0)) → IsNeeded counted g header
needs_header on delay counted g header h =
    let units = int_min delay header.ntus -ℤ shown_of g.window.held in
    let frames = all_frames g.left -ℤ pos (length g.window.held) in
    let by = needs_by on (int_le header.total counted) g.is_finite (is_some g.next) (needed_in_window delay header g) h in
    record {
      fewer = below header.total counted by.0;
      window = λ finite. one_more (length g.window.held) (all_frames g.left) (window_room units frames (by.1 finite));
      whole = by.2;
    }

needs_none : (on : Bool) → 1 ≤ unsigned_abs (cond on (pos 0) (pos 0)) → ⊥
needs_none true h = omega arith
needs_none false h = omega arith

needs_some : (header : Option Header) (on : Bool) (delay counted : ℤ) (g : Given) → 1 ≤ unsigned_abs (cond on (needed_by header delay counted g) (pos 0))
    → (one : Header) × (header ≡ Some one) × IsNeeded counted g one
needs_some None on delay counted g h = absurd (needs_none on h)
needs_some (Some one) on delay counted g h = (one, refl, needs_header on delay counted g one h)

needs : (on : Bool) (delay counted : ℤ) (g : Given) → 1 ≤ unsigned_abs (cond on (needed delay counted g) (pos 0))
    → (header : Header) × (g.header ≡ Some header) × IsNeeded counted g header
unfolding needed
needs on delay counted g h = needs_some g.header on delay counted g h

undone : (done : Bool) (n : ℕ) → 1 ≤ cond done 0 n → 1 ≤ n
undone true n h = absurd (omega arith)
undone false n h = h

module _ {T O D S C : Type 0} (session : Session T O D S C) where
  pub required : session.failure ≡ None → 1 ≤ required_of session → 1 ≤ unsigned_abs (frames_needed (rate_in session))
  required unfailed h =
      undone (is_done session.moment) (unsigned_abs (frames_needed (rate_in session)))
      (subst (λ (f : Option SessionFault). 1 ≤ elim f [ None ↦ cond (is_done session.moment) 0 (unsigned_abs (frames_needed (rate_in session))) | Some fault ↦ 0 ]) unfailed h)

  -- a summary stands, and it counts more frames
  pub needs_metrics : session.failure ≡ None → 1 ≤ required_of session → (header : Header) × (session.passes.given.header ≡ Some header) × IsNeeded (commands (rate_in session)) session.passes.given header
  needs_metrics unfailed h =
      needs (session.passes.second && is_controlled (rate_in session)) (rate_in session).reservoir_delay (commands (rate_in session)) session.passes.given
      (required unfailed h)

-- ---- where every entry has bytes, rate control counts every command

record CountsNone (r : Rate) : Type 0 where
  pub coded : r.coded ≡ pos 0
  pub shown_again : r.shown_again ≡ pos 0

start_none : (enc : EncoderConfig) (passes : Passes) → CountsNone (with_passes passes (start_of enc))
unfolding start
start_none enc passes = record { coded = refl; shown_again = refl }

levels_none : (finite : Bool) (h : Header) (r : Rate) → CountsNone r → CountsNone (cond finite (over_the_window h r) (over_the_file h r))
levels_none true h r none = record { coded = none.coded; shown_again = none.shown_again }
levels_none false h r none = record { coded = none.coded; shown_again = none.shown_again }

set_up_none : (header : Option Header) (r : Rate) → CountsNone r → CountsNone (set_up_by header r)
unfolding set_up
set_up_none None r none = none
set_up_none (Some h) r none =
    let levels = levels_none r.given.is_finite h r none in
    record { coded = levels.coded; shown_again = levels.shown_again }

started_none : (enc : EncoderConfig) (passes : Passes) → CountsNone (started enc passes)
started_none enc passes =
    let none = set_up_none passes.given.header (with_passes passes (start_of enc)) (start_none enc passes) in
    record { coded = none.coded; shown_again = none.shown_again }

many_counted : (c z l : ℤ) (a b n : ℕ) → c ≡ pos 0 → z ≡ pos 0 → pos n ≤ℤ l → n ≤ a + b → pos n ≤ℤ (int_min (c +ℤ pos a) l +ℤ int_min (z +ℤ pos b) l)
many_counted c z l a b n p q fits many = omega (arith, ints, clamps)

kept_many : (s : Rate) (es : List Entry) (n : ℕ) → CountsNone s → int_lt (pos 0) s.bitrate ≡ true → pos n ≤ℤ pos (2 ^ 62)
    → n ≤ length (filter is_coded es) + length (filter is_show es) → pos n ≤ℤ commands (kept s es)
unfolding kept
kept_many s es n none on fits many =
    subst (λ b. pos n ≤ℤ commands (cond b (with_log s es) s)) (sym on)
    (many_counted s.coded s.shown_again (pos (2 ^ 62)) (length (filter is_coded es)) (length (filter is_show es)) n none.coded none.shown_again fits many)

one_counted : {E F : Type 0} (low trial bits : Bool) (x : E) (e : F) (xs ys : List E) (rs : List F) → bits ≡ true → length rs ≤ length xs + length ys →
    length (cond (not trial) (e ∷ rs) rs) ≤ length (cond (low && (not trial && bits)) (x ∷ xs) xs) + length (cond (not low) (x ∷ ys) ys)
one_counted true true true x e xs ys rs has many = omega arith
one_counted true false true x e xs ys rs has many = omega arith
one_counted false true true x e xs ys rs has many = omega arith
one_counted false false true x e xs ys rs has many = omega arith
one_counted low trial false x e xs ys rs has many = absurd (cc)

some_bits : (size : ℕ) → 1 ≤ size → int_lt (pos 0) (pos (8 * size)) ≡ true
some_bits size h = grind (arith, nat_tests)

log_many : (log : List LogEntry) → HaveBytes log → length (real_entries log) ≤ length (filter is_coded (map measured log)) + length (filter is_show (map measured log))
log_many [] have = omega arith
log_many (entry ∷ log) have =
    one_counted (nat_lt (subtype_of entry.command) 4) entry.trial (int_lt (pos 0) (measured entry).bits) (measured entry) entry
    (filter is_coded (map measured log)) (filter is_show (map measured log)) (real_entries log)
    (some_bits (length entry.bytes) (have 0 entry (omega arith)))
    (log_many log (λ k d below. have (suc k) d (omega arith)))

fits_count : (n : ℕ) → pos n ≤ℤ pos last_command → pos n ≤ℤ pos (2 ^ 62)
fits_count n h = omega (arith, ints)

pub counts_many : {T O D S C : Type 0} (session : Session T O D S C) → session.moment.commands ≡ length (real_entries session.moment.log) → HaveBytes session.moment.log
    → int_lt (pos 0) session.enc.bitrate ≡ true → pos session.moment.commands ≤ℤ pos last_command → pos session.moment.commands ≤ℤ commands (rate_in session)
counts_many session real have on fits =
    let many = log_many session.moment.log have in
    kept_many (started session.enc session.passes) (map measured session.moment.log) session.moment.commands (started_none session.enc session.passes)
    (ap (λ b. int_lt (pos 0) b) (started_bitrate session.enc session.passes) ∙ on) (fits_count session.moment.commands fits)
    (omega arith)

-- ---- a packet that is taken

-- these metrics join the window, or are the next frame's
pub record Joins (g : Given) (m : RCFrameMetrics) (after : Given) : Type 0 where
  pub finite : g.is_finite ≡ true
  pub free : length g.window.held < g.window.capacity
  pub after_is : after ≡ record g { window = with_taken m g.window }

pub record Follows (g : Given) (m : RCFrameMetrics) (after : Given) : Type 0 where
  pub whole : g.is_finite ≡ false
  pub after_is : after ≡ record g { next = Some m }

pub record Takes (g after : Given) : Type 0 where
  pub metrics : RCFrameMetrics
  pub known : metrics.fti ≤ 4
  pub by_kind : Joins g metrics after ⊎ Follows g metrics after

open_window : (capacity held : ℕ) → nat_le capacity held ≡ false → held < capacity
open_window capacity held h = grind (arith, nat_tests)

known_subtype : (fti : ℕ) → nat_lt 4 fti ≡ false → fti ≤ 4
known_subtype fti h = grind (arith, nat_tests)

joins : (full : Bool) (m : RCFrameMetrics) (g : Given) → g.is_finite ≡ true → nat_le g.window.capacity (length g.window.held) ≡ full → m.fti ≤ 4
    → (cond full (refused TooManyFrames g) (taken (record g { window = with_taken m g.window }))).refused ≡ None
    → Takes g (cond full (refused TooManyFrames g) (taken (record g { window = with_taken m g.window }))).given
joins true m g finite is known h = absurd (cc)
joins false m g finite is known h = record {
  metrics = m;
  known = known;
  by_kind = inl (record { finite = finite; free = open_window g.window.capacity (length g.window.held) is; after_is = refl });
}

takes_metrics : (finite : Bool) (m : RCFrameMetrics) (g : Given) → g.is_finite ≡ finite → m.fti ≤ 4
    → (cond finite (into_window m g) (taken (record g { next = Some m }))).refused ≡ None
    → Takes g (cond finite (into_window m g) (taken (record g { next = Some m }))).given
takes_metrics true m g is known h = joins (nat_le g.window.capacity (length g.window.held)) m g is refl known h
takes_metrics false m g is known h = record { metrics = m; known = known; by_kind = inr (record { whole = is; after_is = refl }) }

takes_needed : (is_needed : Bool) (bytes : List ℕ) (g : Given) → subtype_at bytes ≤ 4
    → (cond is_needed (with_metrics (metrics_at bytes) g) (refused NotNeeded g)).refused ≡ None
    → Takes g (cond is_needed (with_metrics (metrics_at bytes) g) (refused NotNeeded g)).given
takes_needed true bytes g known h = takes_metrics g.is_finite (metrics_at bytes) g refl known h
takes_needed false bytes g known h = absurd (cc)

takes_kind : (bad is_needed : Bool) (bytes : List ℕ) (g : Given) → nat_lt 4 (subtype_at bytes) ≡ bad
    → (cond bad (refused (bad_packet bytes) g) (cond is_needed (with_metrics (metrics_at bytes) g) (refused NotNeeded g))).refused ≡ None
    → Takes g (cond bad (refused (bad_packet bytes) g) (cond is_needed (with_metrics (metrics_at bytes) g) (refused NotNeeded g))).given
takes_kind true is_needed bytes g is h = absurd (cc)
takes_kind false is_needed bytes g is h = takes_needed is_needed bytes g (known_subtype (subtype_at bytes) is) h

takes_size : (whole is_needed : Bool) (bytes : List ℕ) (g : Given)
    → (cond whole (cond (nat_lt 4 (subtype_at bytes)) (refused (bad_packet bytes) g) (cond is_needed (with_metrics (metrics_at bytes) g) (refused NotNeeded g)))
    (refused (WrongSize (length bytes)) g)).refused ≡ None
    → Takes g (cond whole (cond (nat_lt 4 (subtype_at bytes)) (refused (bad_packet bytes) g) (cond is_needed (with_metrics (metrics_at bytes) g) (refused NotNeeded g)))
    (refused (WrongSize (length bytes)) g)).given
takes_size true is_needed bytes g h = takes_kind (nat_lt 4 (subtype_at bytes)) is_needed bytes g refl h
takes_size false is_needed bytes g h = absurd (cc)

pub takes : (is_needed : Bool) (bytes : List ℕ) (g : Given) → (sent is_needed bytes g).refused ≡ None → Takes g (sent is_needed bytes g).given
unfolding sent
takes is_needed bytes g h = takes_size (length bytes == 8) is_needed bytes g h

-- ---- what it leaves

known_pushed : (xs : List RCFrameMetrics) (m : RCFrameMetrics) → AllKnown xs → m.fti ≤ 4 → AllKnown (xs ++ m ∷ [])
known_pushed [] m known h = (h, tt)
known_pushed (x ∷ xs) m known h = (known.0, known_pushed xs m known.1 h)

one_longer : (xs : List RCFrameMetrics) (m : RCFrameMetrics) (left : ℤ) → (pos (length xs) +ℤ pos 1) ≤ℤ left → pos (length (xs ++ m ∷ [])) ≤ℤ left
one_longer xs m left h = let longer = length-append xs (m ∷ []) in omega (arith, ints)

one_fewer : (counted coded total : ℤ) → (counted +ℤ pos 1) ≤ℤ total → coded ≤ℤ counted → coded ≤ℤ (total -ℤ pos 1)
one_fewer counted coded total h k = omega (arith, ints)

left_joined : (g after : Given) (m : RCFrameMetrics) (coded : ℕ) (counted : ℤ) (header : Header) → IsNeeded counted g header → m.fti ≤ 4 → Joins g m after → IsLeft g coded header → IsLeft after coded header
left_joined g after m coded counted header need known joined left =
    subst (λ (x : Given). IsLeft x coded header) (sym joined.after_is)
    (record {
      behind = left.behind;
      total = left.total;
      units = left.units;
      left = left.left;
      held = one_longer g.window.held m (all_frames g.left) (need.window joined.finite);
      next = left.next;
      counts = left.counts;
      low = left.low;
      high = left.high;
      known = known_pushed g.window.held m left.known known;
      known_next = left.known_next;
    })

left_followed : (g after : Given) (m : RCFrameMetrics) (coded : ℕ) (counted : ℤ) (header : Header) → IsNeeded counted g header → pos coded ≤ℤ counted → m.fti ≤ 4 → Follows g m after → IsLeft g coded header → IsLeft after coded header
left_followed g after m coded counted header need most known follows left =
    subst (λ (x : Given). IsLeft x coded header) (sym follows.after_is)
    (record {
      behind = left.behind;
      total = left.total;
      units = left.units;
      left = left.left;
      held = left.held;
      next = λ _. one_fewer counted (pos coded) header.total need.fewer most;
      counts = left.counts;
      low = left.low;
      high = left.high;
      known = left.known;
      known_next = known;
    })

pub left_taken : (g after : Given) (coded : ℕ) (counted : ℤ) (header : Header) → IsNeeded counted g header → pos coded ≤ℤ counted → Takes g after → IsLeft g coded header → IsLeft after coded header
left_taken g after coded counted header need most one left =
    elim one.by_kind [
      | inl joined ↦ left_joined g after one.metrics coded counted header need one.known joined left
      | inr follows ↦ left_followed g after one.metrics coded counted header need most one.known follows left
    ]

pub record Keeps (g after : Given) : Type 0 where
  pub header : after.header ≡ g.header
  pub finite : after.is_finite ≡ g.is_finite

pub keeps_taken : (g after : Given) → Takes g after → Keeps g after
keeps_taken g after one =
    elim one.by_kind [
      | inl joined ↦ record { header = ap (λ (x : Given). x.header) joined.after_is; finite = ap (λ (x : Given). x.is_finite) joined.after_is }
      | inr follows ↦ record { header = ap (λ (x : Given). x.header) follows.after_is; finite = ap (λ (x : Given). x.is_finite) follows.after_is }
    ]

-- the metrics for which there is room
abbrev pub room_in : Given → ℕ
room_in g = cond g.is_finite (g.window.capacity - length g.window.held) (cond (is_some g.next) 0 1)

less_room : (capacity : ℕ) (xs : List RCFrameMetrics) (m : RCFrameMetrics) → length xs < capacity → capacity - length (xs ++ m ∷ []) < capacity - length xs
less_room capacity xs m h = let longer = length-append xs (m ∷ []) in omega arith

room_joined : (g : Given) (m : RCFrameMetrics) (finite : Bool) (next : ℕ) → finite ≡ true → length g.window.held < g.window.capacity
    → cond finite (g.window.capacity - length (g.window.held ++ m ∷ [])) next < cond finite (g.window.capacity - length g.window.held) next
room_joined g m true next is free = less_room g.window.capacity g.window.held m free
room_joined g m false next is free = absurd (cc)

room_followed : (finite next : Bool) (room : ℕ) → finite ≡ false → next ≡ false → cond finite room 0 < cond finite room (cond next 0 1)
room_followed true next room is none = absurd (cc)
room_followed false true room is none = absurd (cc)
room_followed false false room is none = omega arith

pub room_taken : (g after : Given) (counted : ℤ) (header : Header) → IsNeeded counted g header → Takes g after → room_in after < room_in g
room_taken g after counted header need one =
    elim one.by_kind [
      | inl joined ↦ subst (λ (x : Given). room_in x < room_in g) (sym joined.after_is) (room_joined g one.metrics g.is_finite (cond (is_some g.next) 0 1) joined.finite joined.free)
      | inr follows ↦ subst (λ (x : Given). room_in x < room_in g) (sym follows.after_is)
          (room_followed g.is_finite (is_some g.next) (g.window.capacity - length g.window.held) follows.whole (need.whole follows.whole))
    ]

-- ---- the call

abbrev Answers : {T O D S C : Type 0} → Outcome → Session T O D S C → Session T O D S C → Result (Unit {0}) EncoderStatus → Type 0
Answers outcome before after result =
    let given = record before { passes = record before.passes { given = outcome.given } } in
    elim outcome.refused [
      | None ↦ (result ≡ Ok tt) × (after ≡ given)
      | Some refusal ↦ (result ≡ Err Failure) × (after ≡ record given { failure = Some (PassData refusal) })
    ]

module _ {T O D S C : Type 0} (message : List ℕ) (before after : Session T O D S C) where
  -- what was sent is accepted
  pub record IsAccepted : Type 0 where
    pub unrefused : (packet_sent before.enc before.passes before.moment.log message).refused ≡ None
    pub after_is : after ≡ record before { passes = record before.passes { given = (packet_sent before.enc before.passes before.moment.log message).given } }

  answers : (result : Result (Unit {0}) EncoderStatus) → before.failure ≡ None → IsGiven message before after result → Answers (packet_sent before.enc before.passes before.moment.log message) before after result
  answers result unfailed is =
      subst (λ (f : Option SessionFault). MatchOption f (Answers (packet_sent before.enc before.passes before.moment.log message) before after result) (λ fault. (result ≡ Err Failure) × (after ≡ before))) unfailed is

  accepted_by : (refusal : Option PassDataError) (given : Given) (result : Result (Unit {0}) EncoderStatus) → result ≡ Ok tt → Answers (record { given = given; refused = refusal }) before after result
      → (refusal ≡ None) × (after ≡ record before { passes = record before.passes { given = given } })
  accepted_by None given result ok is = (refl, is.1)
  accepted_by (Some refusal) given result ok is = let no = is.0 in absurd (cc)

  pub accepted : (result : Result (Unit {0}) EncoderStatus) → before.failure ≡ None → IsGiven message before after result → result ≡ Ok tt → IsAccepted
  accepted result unfailed is ok =
      let outcome = packet_sent before.enc before.passes before.moment.log message in
      let by = accepted_by outcome.refused outcome.given result ok (answers result unfailed is) in
      record { unrefused = by.0; after_is = by.1 }

  refused_by : (refusal : Option PassDataError) (given : Given) (result : Result (Unit {0}) EncoderStatus) (status : EncoderStatus) → result ≡ Err status → Answers (record { given = given; refused = refusal }) before after result
      → (why : PassDataError) × (result ≡ Err Failure) × (after.failure ≡ Some (PassData why))
  refused_by None given result status err is = let no = is.0 in absurd (cc)
  refused_by (Some refusal) given result status err is = (refusal, is.0, ap (λ (s : Session T O D S C). s.failure) is.1)

  -- where it isn't, the refusal is kept
  pub refused_so : (result : Result (Unit {0}) EncoderStatus) (status : EncoderStatus) → before.failure ≡ None → IsGiven message before after result → result ≡ Err status
      → (why : PassDataError) × (result ≡ Err Failure) × (after.failure ≡ Some (PassData why))
  refused_so result status unfailed is err =
      let outcome = packet_sent before.enc before.passes before.moment.log message in
      refused_by outcome.refused outcome.given result status err (answers result unfailed is)

-- ---- what stands behind it

on_of : (b : Bool) (header : Option Header) (one : Header) → b ≡ is_some header → header ≡ Some one → b ≡ true
on_of b header one is some = is ∙ ap (λ (o : Option Header). is_some o) some

module _ {T O D S C : Type 0} (handing : Bool) (coded : ℤ) (session : Session T O D S C) (given : Given) where
  abbrev with_given : Session T O D S C
  with_given = record session { passes = record session.passes { given = given } }

  left_of_given : IsWell handing coded session → 1 ≤ required_of session → Takes session.passes.given given → IfSome given.header (IsLeft given session.moment.commands)
  left_of_given well needed one =
      let need = needs_metrics session well.unfailed needed in
      let keeps = keeps_taken session.passes.given given one in
      let left : IsLeft session.passes.given session.moment.commands need.0 =
      subst (λ (o : Option Header). IfSome o (IsLeft session.passes.given session.moment.commands)) need.1 well.passes.left in
      let on : session.passes.second ≡ true = on_of session.passes.second session.passes.given.header need.0 well.passes.second need.1 in
      let fits : pos session.moment.commands ≤ℤ pos last_command = in_all (pos session.moment.commands) need.0.total (pos last_command) left.behind left.total in
      let most = counts_many session well.real well.bytes (well.passes.counted on) fits in
      subst (λ (o : Option Header). IfSome o (IsLeft given session.moment.commands)) (sym (keeps.header ∙ need.1))
      (left_taken session.passes.given given session.moment.commands (commands (rate_in session)) need.0 need.2 most one left)
    where
      in_all : (a b c : ℤ) → a ≤ℤ b → b ≤ℤ c → a ≤ℤ c
      in_all a b c h k = omega (arith, ints)

  well_taken : IsWell handing coded session → 1 ≤ required_of session → Takes session.passes.given given → IsWell handing coded with_given
  well_taken well needed one =
      let keeps = keeps_taken session.passes.given given one in
      let passes = well.passes in
      record {
        unfailed = well.unfailed;
        within = well.within;
        counted = well.counted;
        real = well.real;
        untried = well.untried;
        bytes = well.bytes;
        passes = record {
          first = passes.first;
          second = passes.second ∙ ap (λ (o : Option Header). is_some o) (sym keeps.header);
          controlled = passes.controlled;
          counted = passes.counted;
          delay = subst (λ (r : Rate). pos 1 ≤ℤ r.reservoir_delay)
              (sym (same_start session.enc session.passes with_given.passes keeps.header keeps.finite)) passes.delay;
          left = left_of_given well needed one;
        };
      }

  paid_taken : IsPaid handing session → IsPaid handing with_given
  paid_taken paid = record { few = paid.few; waits = paid.waits }

module _ {T O D S C : Type 0} (message : List ℕ) (before after : Session T O D S C) (result : Result (Unit {0}) EncoderStatus) (handing : Bool) (coded : ℤ) (is : IsGiven message before after result) (ok : result ≡ Ok tt) (well : IsWell handing coded before) (needed : 1 ≤ required_of before) where
  got : IsAccepted message before after
  got = accepted message before after result well.unfailed is ok

  abbrev given_to : Given
  given_to = (packet_sent before.enc before.passes before.moment.log message).given

  took : Takes before.passes.given given_to
  took = takes (int_lt (pos 0) (frames_needed (rate_in before))) message before.passes.given got.unrefused

  pub well-given : IsWell handing coded after
  well-given = subst (λ (s : Session T O D S C). IsWell handing coded s) (sym got.after_is) (well_taken handing coded before given_to well needed took)

  pub paid-given : IsPaid handing before → IsPaid handing after
  paid-given paid = subst (λ (s : Session T O D S C). IsPaid handing s) (sym got.after_is) (paid_taken handing coded before given_to paid)

  pub room-given : room_of after < room_of before
  room-given =
      let need = needs_metrics before well.unfailed needed in
      subst (λ (s : Session T O D S C). room_of s < room_of before) (sym got.after_is)
      (room_taken before.passes.given given_to (commands (rate_in before)) need.0 need.2 took)

-- ---- the stretch

-- the message that was taken
abbrev pub taking : {T O : Type 0} → RcData → Turns T O
taking message = record untouched { metrics = λ taken. taken ≡ message ∷ [] }

module _ {T O D S C : Type 0} (ears : Ears T D S C) (handing : Bool) (hand : Hand T O) (before after : Session T O D S C) (message : RcData) (is_open : IsOpen hand) (known : IsKnown before) (needed : 1 ≤ required_of before) where
  pub went-given : (metrics : ArrayVec ℕ) → message ≡ OfFrame metrics → IsGiven metrics.items before after all_well
      → Went ears handing (taking message) (record { hand = hand; session = before }) (record { hand = hand; session = after })
  went-given metrics is call = record {
    acts = Gives metrics ∷ [];
    run = (
      record { hand = hand; session = after },
      record { due = record { coding = is_open; known = known; needed = needed }; does = call; held = refl },
      refl,
    );
    frames = refl;
    packets = refl;
    metrics = ap (λ (m : RcData). m ∷ []) (sym is);
    handed = refl;
  }

  pub refused-given : (metrics : ArrayVec ℕ) (refusal : PassDataError) → message ≡ OfFrame metrics → IsGiven metrics.items before after (Err Failure) → after.failure ≡ Some (PassData refusal)
      → Stopped ears handing (taking message) (record { hand = hand; session = before }) after (Refuses refusal)
  refused-given metrics refusal is call kept = record {
    acts = [];
    last = record { hand = hand; session = before };
    run = refl;
    taken = message ∷ [];
    cause = record {
      due = record { coding = is_open; known = known; needed = needed };
      message = metrics;
      taken_is = ap (λ (m : RcData). m ∷ []) is;
      call = call;
      kept = kept;
    };
    frames = refl;
    packets = refl;
    metrics = refl;
    handed = refl;
  }

  pub summary-given : (summary : ArrayVec ℕ) → message ≡ OfSummary summary
      → Stopped ears handing (taking message) (record { hand = hand; session = before }) before PassDataKind
  summary-given summary is = record {
    acts = [];
    last = record { hand = hand; session = before };
    run = refl;
    taken = message ∷ [];
    cause = record {
      due = record { coding = is_open; known = known; needed = needed };
      message = summary;
      taken_is = ap (λ (m : RcData). m ∷ []) is;
      same = refl;
    };
    frames = refl;
    packets = refl;
    metrics = refl;
    handed = refl;
  }
