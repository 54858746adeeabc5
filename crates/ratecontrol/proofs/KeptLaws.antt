-- The state after the entries of a session's log is what is kept of them.
use Rattle.std.proofs.Common.{◌≡◌, ℕ, zero, suc, ◌+◌, ◌*◌, ◌<◌, ◌≤◌, ◌^◌, Bool, true, false, cond, not, ◌&&◌, ◌==◌, nat_lt, List, [], ◌∷◌, ◌++◌, length, length-append, refl, ap, sym, subst, ◌∙◌, arith, int_lt, int_div, IfSome, Option, Some, None, ℤ, pos, negsuc, ◌+ℤ◌, ◌-ℤ◌, ◌*ℤ◌, ◌≤ℤ◌}
use Rattle.std.specs.List.{All, filter}
use Rattle.std.specs.Int.{int_min, int_max, int_shr}
use Rattle.std.specs.Ordering.{int_eq}
use Rattle.std.proofs.lemmas.Bool.Decides.{nat_tests, Decides-int_eq}
use Rattle.std.proofs.lemmas.Int.{ints, clamps}
use Rattle.std.proofs.lemmas.List.{get_or_append_left}
use Rattle.std.proofs.lemmas.List.Elements.{All-append, All-nil}
use Rattle.std.proofs.lemmas.Nat.{mul-le}
use Rattle.rate_model.specs.Curves.{start_subtypes}
use Rattle.rate_model.specs.Measure.{Entry, entry, LAST_I32}
use Rattle.rate_model.specs.Subtype.{SubtypeRate, subtype_at, no_subtype}
use Rattle.pass_stats.specs.declared.metrics.RCFrameMetrics.{RCFrameMetrics}
use Rattle.pass_data.specs.Emitted.{with_waiting}
use Rattle.pass_data.specs.Given.{coded}
use Rattle.reservoir.specs.Levels.{between, bits_per_tu_of, reservoir_delay_of, reservoir_most, reservoir_target}
use Rattle.reservoir.specs.Moves.{LAST_COUNT}
use Rattle.ratecontrol.specs.Rate.{Rate}
use Rattle.ratecontrol.specs.Start.{start}
use Rattle.ratecontrol.specs.Update.{update, after, after_with_data, after_frame, after_show, with_subtype, with_frame_data, frame_data, charged, estimate}
use Rattle.ratecontrol.specs.Log.{AllFrames, HasRoom, HasBiasRoom, after_all, spent, is_coded, is_show, subtype_after_all, reservoir_after_all}
use Rattle.ratecontrol.specs.Kept.{kept, with_log, subtypes_after_all, real_of, is_trial_due, with_passes_of, handed_on, IsSessionStart, IsSessionEntry, IsSessionLog}
use Rattle.ratecontrol.specs.Passes.{commands, over_the_file, over_the_window, set_up, set_up_by, with_exponents}
use Rattle.pass_data.specs.declared.given.Header.{Header}
use Rattle.ratecontrol.proofs.Four.{is_four}
use Rattle.ratecontrol.proofs.LogLaws.{settled, subtype_of_own, passes_lt}
use Rattle.ratecontrol.proofs.ReservoirLaws.{by_trial, reservoir_is_ledger}
use Rattle.ratecontrol.proofs.BiasLaws.{bias_is_sum, one_more}
use Rattle.ratecontrol.proofs.CountLaws.{coded_counted, shown_again_counted, shows_counted, frames_counted}

-- ---- without a bitrate

pub uncontrolled : (rate : Rate) (es : List Entry) → int_lt (pos 0) rate.bitrate ≡ false → after_all rate es ≡ rate
uncontrolled rate [] off = refl
uncontrolled rate (e ∷ es) off =
    ap (λ (r : Rate). after_all r es) (ap (λ b. cond b (after_with_data e rate) rate) off) ∙ uncontrolled rate es off

-- ---- what stays: all but six fields, as one equation

abbrev settings_of : Rate → Rate
settings_of r = record r { reservoir = pos 0; bias = pos 0; coded = pos 0; shown_again = pos 0; shows = pos 0; subtypes = [] }

settings_frame : (e : Entry) (rate : Rate) → settings_of (after_frame e rate) ≡ settings_of rate
unfolding after_frame
settings_frame e rate = elim e.trial as (λ b. settings_of (cond b (with_subtype e rate) (charged (estimate rate e) e.bits e.shown (with_subtype e rate))) ≡ settings_of rate) [
  | true ↦ refl
  | false ↦ refl
]

settings_show : (e : Entry) (rate : Rate) → settings_of (after_show e rate) ≡ settings_of rate
unfolding after_show
settings_show e rate = refl

settings_after : (e : Entry) (rate : Rate) → settings_of (after e rate) ≡ settings_of rate
settings_after e rate = elim (nat_lt e.subtype 4) as (λ b. settings_of (cond b (after_frame e rate) (after_show e rate)) ≡ settings_of rate) [
  | true ↦ settings_frame e rate
  | false ↦ settings_show e rate
]

-- in no pass nothing is handed on
no_pass : (m : RCFrameMetrics) (trial : Bool) (r : Rate) → r.first ≡ false → r.second ≡ false → with_frame_data m trial r ≡ r
no_pass m trial r not_first not_second =
    ap (λ b. record r { given = cond (b && not trial) (coded r.given) r.given; emitted = cond r.first (with_waiting m r.emitted) r.emitted }) not_second
    ∙ ap (λ b. record r { given = r.given; emitted = cond b (with_waiting m r.emitted) r.emitted }) not_first

settings_with_data : (e : Entry) (rate : Rate) → rate.first ≡ false → rate.second ≡ false → settings_of (after_with_data e rate) ≡ settings_of rate
settings_with_data e rate not_first not_second =
    let same = settings_after e rate in
    ap settings_of (no_pass (frame_data e rate) e.trial (after e rate) (ap (λ (r : Rate). r.first) same ∙ not_first) (ap (λ (r : Rate). r.second) same ∙ not_second)) ∙ same

settings_next : (e : Entry) (rate : Rate) → rate.first ≡ false → rate.second ≡ false → settings_of (update e rate) ≡ settings_of rate
settings_next e rate not_first not_second = elim (int_lt (pos 0) rate.bitrate) as (λ b. settings_of (cond b (after_with_data e rate) rate) ≡ settings_of rate) [
  | true ↦ settings_with_data e rate not_first not_second
  | false ↦ refl
]

settings_stay : (rate : Rate) (es : List Entry) → rate.first ≡ false → rate.second ≡ false → settings_of (after_all rate es) ≡ settings_of rate
settings_stay rate [] not_first not_second = refl
settings_stay rate (e ∷ es) not_first not_second =
    let next = settings_next e rate not_first not_second in
    settings_stay (update e rate) es (ap (λ (r : Rate). r.first) next ∙ not_first) (ap (λ (r : Rate). r.second) next ∙ not_second) ∙ next

-- ---- the subtypes, as a list

count_stays : (rate : Rate) (es : List Entry) → length (after_all rate es).subtypes ≡ length rate.subtypes
count_stays rate [] = refl
count_stays rate (e ∷ es) = count_stays (update e rate) es ∙ (settled e rate).count

subtypes_kept : (rate : Rate) (es : List Entry) → int_lt (pos 0) rate.bitrate ≡ true → length rate.subtypes ≡ 4 → (after_all rate es).subtypes ≡ subtypes_after_all rate es
subtypes_kept rate es on len =
    let own : (f : ℕ) → f < 4 → subtype_at (after_all rate es).subtypes f ≡ subtype_after_all rate f es = λ f below. subtype_of_own rate f es on below len in
    is_four no_subtype (after_all rate es).subtypes (count_stays rate es ∙ len) (own 0 (omega arith)) (own 1 (omega arith)) (own 2 (omega arith)) (own 3 (omega arith))

-- ---- a session's log has room

all_frames : (es : List Entry) → All IsSessionEntry es → AllFrames es
all_frames [] all = tt
all_frames (e ∷ es) all =
    let h = all 0 e (omega arith) in
    let most = h.most in (
      record { bits = h.least; short = omega (arith, ints); trial = λ trial. passes_lt e.subtype 4 (h.trial trial).0 },
      all_frames es (λ k d below. all (suc k) d (omega arith)),
    )

spent_next : (b : Bool) (bits rest : ℤ) (n : ℕ) → pos 0 ≤ℤ bits → bits ≤ℤ pos (8 * 2 ^ 48) → rest ≤ℤ pos (2 ^ 51 * n) → (cond b (pos 0) bits +ℤ rest) ≤ℤ pos (2 ^ 51 * suc n)
spent_next true bits rest n low high h = omega (arith, ints)
spent_next false bits rest n low high h = omega (arith, ints)

spent_most : (es : List Entry) → All IsSessionEntry es → spent es ≤ℤ pos (2 ^ 51 * length es)
spent_most [] all = omega (arith, ints)
spent_most (e ∷ es) all =
    let h = all 0 e (omega arith) in
    spent_next e.trial e.bits (spent es) (length es) h.least h.most (spent_most es (λ k d below. all (suc k) d (omega arith)))

has_room : (rate : Rate) (es : List Entry) → int_lt (pos 0) rate.bitrate ≡ true → IsSessionStart rate → IsSessionLog es → HasRoom rate es
has_room rate es on begun log =
    let spends = spent_most es log.all in
    let few = log.few in
    let holds = begun.holds in
    let most = begun.most in
    record { controlled = on; bits_per_tu = begun.bits_per_tu; full = begun.full; most = omega (arith, ints); room = omega (arith, ints) }

has_bias_room : (rate : Rate) (es : List Entry) → IsSessionStart rate → IsSessionLog es → HasBiasRoom rate es
has_bias_room rate es begun log =
    let none = begun.bias in
    let few = log.few in
    record { span = 0; within = rw none (record { low = omega (arith, ints); high = omega (arith, ints) }); room = omega arith }

-- ---- the whole state

abbrev with_parts : Rate → ℤ → ℤ → ℤ → ℤ → ℤ → List SubtypeRate → Rate
with_parts r reservoir bias coded shown_again shows subtypes =
    record r { reservoir = reservoir; bias = bias; coded = coded; shown_again = shown_again; shows = shows; subtypes = subtypes }

by_parts : (old new : Rate) → settings_of new ≡ settings_of old → (reservoir bias coded shown_again shows : ℤ) (subtypes : List SubtypeRate)
    → new.reservoir ≡ reservoir → new.bias ≡ bias → new.coded ≡ coded → new.shown_again ≡ shown_again → new.shows ≡ shows → new.subtypes ≡ subtypes
    → new ≡ with_parts old reservoir bias coded shown_again shows subtypes
by_parts old new same reservoir bias coded shown_again shows subtypes p q r s t u =
    ap (λ (z : Rate). with_parts z new.reservoir new.bias new.coded new.shown_again new.shows new.subtypes) same
    ∙ rw (p, q, r, s, t, u) refl

at_most : (n last : ℤ) → n ≡ pos 0 → pos 0 ≤ℤ last → n ≤ℤ last
at_most n last is h = rw is h

with_log_is : (rate : Rate) (es : List Entry) → int_lt (pos 0) rate.bitrate ≡ true → IsSessionStart rate → IsSessionLog es → after_all rate es ≡ with_log rate es
with_log_is rate es on begun log =
    let all = all_frames es log.all in
    by_parts rate (after_all rate es) (settings_stay rate es begun.not_first begun.not_second) _ _ _ _ _ _
    (reservoir_is_ledger rate es all (has_room rate es on begun log))
    (bias_is_sum rate es on begun.four all (has_bias_room rate es begun log))
    (coded_counted rate es on (at_most rate.coded LAST_COUNT begun.coded (omega (arith, ints))))
    (shown_again_counted rate es on (at_most rate.shown_again LAST_COUNT begun.shown_again (omega (arith, ints))))
    (shows_counted rate es on (at_most rate.shows LAST_I32 begun.shows (omega (arith, ints))))
    (subtypes_kept rate es on begun.four)

pub after_all_is_kept : (rate : Rate) (es : List Entry) → IsSessionStart rate → IsSessionLog es → after_all rate es ≡ kept rate es
unfolding kept
after_all_is_kept rate es begun log =
    by_trial (int_lt (pos 0) rate.bitrate)
    (λ on. with_log_is rate es on begun log ∙ sym (ap (λ b. cond b (with_log rate es) rate) on))
    (λ off. uncontrolled rate es off ∙ sym (ap (λ b. cond b (with_log rate es) rate) off))

pub kept_bitrate : (rate : Rate) (es : List Entry) → (kept rate es).bitrate ≡ rate.bitrate
unfolding kept
kept_bitrate rate es = elim (int_lt (pos 0) rate.bitrate) as (λ b. (cond b (with_log rate es) rate).bitrate ≡ rate.bitrate) [ true ↦ refl | false ↦ refl ]

pub kept_most : (rate : Rate) (es : List Entry) → (kept rate es).most ≡ rate.most
unfolding kept
kept_most rate es = elim (int_lt (pos 0) rate.bitrate) as (λ b. (cond b (with_log rate es) rate).most ≡ rate.most) [ true ↦ refl | false ↦ refl ]

pub kept_reservoir : (rate : Rate) (es : List Entry) → int_lt (pos 0) rate.bitrate ≡ true → (kept rate es).reservoir ≡ reservoir_after_all rate es
unfolding kept
kept_reservoir rate es on = ap (λ b. (cond b (with_log rate es) rate).reservoir) on

-- ---- along a log

pub log_before : (es : List Entry) (e : Entry) → IsSessionLog (es ++ e ∷ []) → IsSessionLog es
log_before es e log =
    let longer : length (es ++ e ∷ []) ≡ length es + 1 = length-append es (e ∷ []) in
    let few = log.few in
    record {
      few = omega arith;
      all = λ k d below. subst (λ x. IsSessionEntry x) (get_or_append_left es (e ∷ []) d k below) (log.all k d (omega arith));
    }

one_entry : (e : Entry) → IsSessionEntry e → All IsSessionEntry (e ∷ [])
one_entry e h zero d below = h
one_entry e h (suc k) d below = absurd (omega arith)

pub log_next : (es : List Entry) (e : Entry) → IsSessionLog es → length es < 2 ^ 33 → IsSessionEntry e → IsSessionLog (es ++ e ∷ [])
log_next es e log fewer h =
    let longer : length (es ++ e ∷ []) ≡ length es + 1 = length-append es (e ∷ []) in
    record { few = omega arith; all = All-append IsSessionEntry es (e ∷ []) log.all (one_entry e h) }

pub frame_entry : (bits : ℤ) (f : ℕ) (shown : Bool) (log_target : ℤ) (trial : Bool) → f < 4 → pos 1 ≤ℤ bits → bits ≤ℤ pos (8 * 2 ^ 48)
    → IsSessionEntry (entry bits f shown log_target trial)
frame_entry bits f shown log_target trial below some most = record {
  least = omega (arith, ints);
  most = most;
  subtype = omega arith;
  show = λ is. absurd (omega arith);
  trial = λ is. (below, some);
}

pub show_entry : (log_target : ℤ) → IsSessionEntry (entry (pos 24) 4 true log_target false)
show_entry log_target = record {
  least = omega (arith, ints);
  most = omega (arith, ints);
  subtype = omega arith;
  show = λ is. (refl, refl, refl);
  trial = λ is. absurd (cc);
}

pub kept_of_none : (rate : Rate) → IsSessionStart rate → kept rate [] ≡ rate
kept_of_none rate begun = sym (after_all_is_kept rate [] begun (record { few = omega arith; all = All-nil IsSessionEntry }))

-- what `update_state` leaves of what is kept
pub kept_next : (rate : Rate) (es : List Entry) (e : Entry) → IsSessionStart rate → IsSessionLog (es ++ e ∷ [])
    → update e (kept rate es) ≡ kept rate (es ++ e ∷ [])
kept_next rate es e begun log =
    ap (λ (r : Rate). update e r) (sym (after_all_is_kept rate es begun (log_before es e log)))
    ∙ (one_more rate es e ∙ after_all_is_kept rate (es ++ e ∷ []) begun log)

pub ruleset kept_laws = (after_all_is_kept, uncontrolled, kept_of_none, kept_next, kept_bitrate, kept_reservoir)

pub ruleset log_laws = (frame_entry, show_entry, log_next, log_before)

-- ---- when a trial is due

more_than_none : (z : ℤ) → pos 1 ≤ℤ z → int_eq z (pos 0) ≡ false
more_than_none z h =
    by_trial (int_eq z (pos 0))
    (λ yes.
    let is : z ≡ pos 0 = (Decides-int_eq _ _).0 yes in
    absurd (omega (arith, ints)))
    (λ no. no)

some_are_not_none : (n : ℕ) → (suc n == 0) ≡ false
some_are_not_none n = grind (arith, nat_tests)

one_at_least : (n : ℕ) → pos 1 ≤ℤ int_min (pos 0 +ℤ pos (suc n)) LAST_I32
one_at_least n = omega (arith, ints, clamps)

-- a count that stops at its last value is 0 just where there is nothing to count
none_counted : (n : ℕ) → int_eq (int_min (pos 0 +ℤ pos n) LAST_I32) (pos 0) ≡ (n == 0)
none_counted zero = refl
none_counted (suc n) = more_than_none (int_min (pos 0 +ℤ pos (suc n)) LAST_I32) (one_at_least n) ∙ sym (some_are_not_none n)

kept_at : (rate : Rate) (es : List Entry) (f : ℕ) → f < 4 → subtype_at (subtypes_after_all rate es) f ≡ subtype_after_all rate f es
kept_at rate es zero below = refl
kept_at rate es (suc zero) below = refl
kept_at rate es (suc (suc zero)) below = refl
kept_at rate es (suc (suc (suc zero))) below = refl
kept_at rate es (suc (suc (suc (suc f)))) below = absurd (omega arith)

no_frames : (rate : Rate) (f : ℕ) (es : List Entry) → f < 4 → (subtype_at rate.subtypes f).frames ≡ pos 0
    → int_eq (subtype_at (subtypes_after_all rate es) f).frames (pos 0) ≡ (length (real_of f es) == 0)
no_frames rate f es below none =
    let counted = frames_counted rate f es (at_most (subtype_at rate.subtypes f).frames LAST_I32 none (omega (arith, ints))) in
    ap (λ (s : SubtypeRate). int_eq s.frames (pos 0)) (kept_at rate es f below)
    ∙ (ap (λ n. int_eq n (pos 0)) counted
    ∙ (ap (λ n. int_eq (int_min (n +ℤ pos (length (real_of f es))) LAST_I32) (pos 0)) none ∙ none_counted (length (real_of f es))))

-- the answer of `needs_trial_encode`
abbrev needs_trial : ℕ → Rate → Bool
needs_trial f r = int_lt (pos 0) r.bitrate && int_eq (subtype_at r.subtypes f).frames (pos 0)

pub trial_is_due_from : (rate : Rate) (f : ℕ) (es : List Entry) → f < 4 → (subtype_at rate.subtypes f).frames ≡ pos 0
    → (int_lt (pos 0) (kept rate es).bitrate && int_eq (subtype_at (kept rate es).subtypes f).frames (pos 0)) ≡ is_trial_due rate f es
unfolding kept
trial_is_due_from rate f es below none =
    by_trial (int_lt (pos 0) rate.bitrate)
    (λ on.
    ap (λ b. needs_trial f (cond b (with_log rate es) rate)) on ∙ ap (λ b. int_lt (pos 0) rate.bitrate && b) (no_frames rate f es below none))
    (λ off.
    ap (λ b. needs_trial f (cond b (with_log rate es) rate)) off
    ∙ (ap (λ b. b && int_eq (subtype_at rate.subtypes f).frames (pos 0)) off ∙ sym (ap (λ b. b && (length (real_of f es) == 0)) off)))

pub trial_is_due : (rate : Rate) (f : ℕ) (es : List Entry) → f < 4 → IsSessionStart rate
    → (int_lt (pos 0) (kept rate es).bitrate && int_eq (subtype_at (kept rate es).subtypes f).frames (pos 0)) ≡ is_trial_due rate f es
trial_is_due rate f es below begun = trial_is_due_from rate f es below (begun.frames f)

-- ---- the start of a session

bits_in_range : (bits : ℤ) → (pos 24 ≤ℤ (between (pos 40) (pos (2 ^ 46)) bits -ℤ pos 16)) × ((between (pos 40) (pos (2 ^ 46)) bits -ℤ pos 16) ≤ℤ pos (2 ^ 46))
bits_in_range bits = (omega (arith, ints, clamps), omega (arith, ints, clamps))

short_delay : (x : ℤ) → (pos 1 ≤ℤ int_max (int_min x (pos 240)) (pos 12)) × (int_max (int_min x (pos 240)) (pos 12) ≤ℤ pos (2 ^ 17))
short_delay x = (omega (arith, ints, clamps), omega (arith, ints, clamps))

delay_in_range : (delay : Option ℤ) (interval : ℤ) → IfSome delay (λ d. (pos 12 ≤ℤ d) × (d ≤ℤ pos (2 ^ 17)))
    → (pos 1 ≤ℤ reservoir_delay_of delay interval) × (reservoir_delay_of delay interval ≤ℤ pos (2 ^ 17))
delay_in_range None interval h = short_delay (int_shr (pos 3 *ℤ interval) 1)
delay_in_range (Some d) interval h =
    let low = h.0 in
    (omega (arith, ints), h.1)

most_in_range : (bits delay : ℤ) → pos 24 ≤ℤ bits → bits ≤ℤ pos (2 ^ 46) → pos 1 ≤ℤ delay → delay ≤ℤ pos (2 ^ 17)
    → (pos 0 ≤ℤ reservoir_most bits delay) × (reservoir_most bits delay ≤ℤ pos (2 ^ 64))
most_in_range (pos a) (pos b) p q r s =
    let product : a * b ≤ 2 ^ 46 * 2 ^ 17 = mul-le a b (2 ^ 46) (2 ^ 17) (omega (arith, ints)) (omega (arith, ints)) in
    (omega (arith, ints), omega (arith, ints))
most_in_range (pos a) (negsuc b) p q r s = absurd (omega (arith, ints))
most_in_range (negsuc a) delay p q r s = absurd (omega (arith, ints))

half_of_most : (most : ℤ) → pos 0 ≤ℤ most → (pos 0 ≤ℤ reservoir_target most) × (reservoir_target most ≤ℤ most)
half_of_most (pos m) h = (omega (arith, ints), omega (arith, ints))
half_of_most (negsuc m) h = absurd (omega (arith, ints))

none_at_start : (ibpp : ℤ) (j : ℕ) → (subtype_at (start_subtypes ibpp) j).frames ≡ pos 0
unfolding start_subtypes
none_at_start ibpp zero = refl
none_at_start ibpp (suc zero) = refl
none_at_start ibpp (suc (suc zero)) = refl
none_at_start ibpp (suc (suc (suc zero))) = refl
none_at_start ibpp (suc (suc (suc (suc j)))) = refl

four_at_start : (ibpp : ℤ) → length (start_subtypes ibpp) ≡ 4
unfolding start_subtypes
four_at_start ibpp = refl

pub session_starts : (width height num den bitrate : ℤ) (greatest : Option ℕ) (least : ℕ) (interval : ℤ) (delay : Option ℤ)
    → IfSome delay (λ d. (pos 12 ≤ℤ d) × (d ≤ℤ pos (2 ^ 17))) → IsSessionStart (start width height num den bitrate greatest least interval delay)
unfolding start
session_starts width height num den bitrate greatest least interval delay h =
    let bits = bits_in_range (int_div (bitrate *ℤ den) num) in
    let delays = delay_in_range delay interval h in
    let most = most_in_range (bits_per_tu_of bitrate num den) (reservoir_delay_of delay interval) bits.0 bits.1 delays.0 delays.1 in
    let half = half_of_most (reservoir_most (bits_per_tu_of bitrate num den) (reservoir_delay_of delay interval)) most.0 in
    let low = bits.0 in
    record {
      not_first = refl;
      not_second = refl;
      bits_per_tu = omega (arith, ints);
      holds = half.0;
      full = half.1;
      most = (let high = most.1 in omega (arith, ints));
      bias = refl;
      coded = refl;
      shown_again = refl;
      shows = refl;
      four = four_at_start (int_div (width *ℤ height) (bits_per_tu_of bitrate num den));
      frames = none_at_start (int_div (width *ℤ height) (bits_per_tu_of bitrate num den));
    }

-- ---- the passes, beside the log

frame_apart : (e : Entry) (p r : Rate) → after_frame e (with_passes_of p r) ≡ with_passes_of p (after_frame e r)
unfolding after_frame
frame_apart e p r = elim e.trial as (λ b. cond b (with_subtype e (with_passes_of p r)) (charged (estimate r e) e.bits e.shown (with_subtype e (with_passes_of p r)))
    ≡ with_passes_of p (cond b (with_subtype e r) (charged (estimate r e) e.bits e.shown (with_subtype e r)))) [
      | true ↦ refl
      | false ↦ refl
    ]

show_apart : (e : Entry) (p r : Rate) → after_show e (with_passes_of p r) ≡ with_passes_of p (after_show e r)
unfolding after_show
show_apart e p r = refl

after_apart : (e : Entry) (p r : Rate) → after e (with_passes_of p r) ≡ with_passes_of p (after e r)
after_apart e p r = elim (nat_lt e.subtype 4) as (λ b. cond b (after_frame e (with_passes_of p r)) (after_show e (with_passes_of p r))
    ≡ with_passes_of p (cond b (after_frame e r) (after_show e r))) [
      | true ↦ frame_apart e p r
      | false ↦ show_apart e p r
    ]

-- an entry moves the passes by what the state before it tells of the entry, and the rest as in one pass
pub passes_apart : (e : Entry) (p r : Rate) → update e (with_passes_of p r) ≡ with_passes_of (handed_on e r p) (update e r)
passes_apart e p r = elim (int_lt (pos 0) r.bitrate) as (λ b. cond b (after_with_data e (with_passes_of p r)) (with_passes_of p r)
    ≡ with_passes_of (cond b (with_frame_data (frame_data e r) e.trial p) p) (cond b (after_with_data e r) r)) [
      | true ↦ ap (λ (x : Rate). with_frame_data (frame_data e r) e.trial x) (after_apart e p r)
      | false ↦ refl
    ]

-- ---- a start that a summary set up

-- nothing is coded
pub record IsFresh (r : Rate) : Type 0 where
  pub bits_per_tu : pos 0 ≤ℤ r.bits_per_tu
  pub holds : pos 0 ≤ℤ r.most → pos 0 ≤ℤ r.reservoir
  pub full : pos 0 ≤ℤ r.most → r.reservoir ≤ℤ r.most
  pub bias : r.bias ≡ pos 0
  pub coded : r.coded ≡ pos 0
  pub shown_again : r.shown_again ≡ pos 0
  pub shows : r.shows ≡ pos 0
  pub four : length r.subtypes ≡ 4
  pub frames : (subtype : ℕ) → (subtype_at r.subtypes subtype).frames ≡ pos 0

exponents_fresh : (exp : List ℕ) (subtypes : List SubtypeRate) (f : ℕ) → ((subtype : ℕ) → (subtype_at subtypes subtype).frames ≡ pos 0)
    → (subtype_at (with_exponents exp subtypes) f).frames ≡ pos 0
exponents_fresh exp subtypes zero none = none 0
exponents_fresh exp subtypes (suc zero) none = none 1
exponents_fresh exp subtypes (suc (suc zero)) none = none 2
exponents_fresh exp subtypes (suc (suc (suc zero))) none = none 3
exponents_fresh exp subtypes (suc (suc (suc (suc f)))) none = refl

levels_fresh : (b : Bool) (h : Header) (p q r : Rate) → IsSessionStart r
    → IsFresh (with_passes_of q (record (cond b (over_the_window h (with_passes_of p r)) (over_the_file h (with_passes_of p r))) { subtypes = with_exponents h.exp r.subtypes }))
levels_fresh true h p q r begun = record {
  bits_per_tu = begun.bits_per_tu;
  holds = λ _. begun.holds;
  full = λ _. begun.full;
  bias = begun.bias;
  coded = begun.coded;
  shown_again = begun.shown_again;
  shows = begun.shows;
  four = refl;
  frames = λ f. exponents_fresh h.exp r.subtypes f begun.frames;
}
levels_fresh false h p q r begun = record {
  bits_per_tu = begun.bits_per_tu;
  holds = λ low. (half_of_most (reservoir_most r.bits_per_tu h.ntus) low).0;
  full = λ low. (half_of_most (reservoir_most r.bits_per_tu h.ntus) low).1;
  bias = begun.bias;
  coded = begun.coded;
  shown_again = begun.shown_again;
  shows = begun.shows;
  four = refl;
  frames = λ f. exponents_fresh h.exp r.subtypes f begun.frames;
}

pub set_up_fresh : (header : Option Header) (p q r : Rate) → IsSessionStart r → IsFresh (with_passes_of q (set_up_by header (with_passes_of p r)))
unfolding set_up
set_up_fresh None p q r begun = record {
  bits_per_tu = begun.bits_per_tu;
  holds = λ _. begun.holds;
  full = λ _. begun.full;
  bias = begun.bias;
  coded = begun.coded;
  shown_again = begun.shown_again;
  shows = begun.shows;
  four = begun.four;
  frames = begun.frames;
}
set_up_fresh (Some h) p q r begun = levels_fresh p.given.is_finite h p q r begun

-- it is a session's start where its reservoir is one that the code can keep
pub set_up_starts : (header : Option Header) (p q r : Rate) → IsSessionStart r → q.first ≡ false → q.second ≡ false
    → pos 0 ≤ℤ (set_up_by header (with_passes_of p r)).most → (set_up_by header (with_passes_of p r)).most ≤ℤ pos (2 ^ 78)
    → IsSessionStart (with_passes_of q (set_up_by header (with_passes_of p r)))
set_up_starts header p q r begun not_first not_second low high =
    let fresh = set_up_fresh header p q r begun in
    record {
      not_first = not_first;
      not_second = not_second;
      bits_per_tu = fresh.bits_per_tu;
      holds = fresh.holds low;
      full = fresh.full low;
      most = high;
      bias = fresh.bias;
      coded = fresh.coded;
      shown_again = fresh.shown_again;
      shows = fresh.shows;
      four = fresh.four;
      frames = fresh.frames;
    }

nothing_counted : (n last : ℤ) → n ≡ pos 0 → pos 0 ≤ℤ last → int_min (n +ℤ pos 0) last ≡ n
nothing_counted n last is h = rw is (omega (arith, ints, clamps))

nothing_more : (z : ℤ) → (z +ℤ pos 0) ≡ z
nothing_more z = omega (arith, ints)

no_log : (r : Rate) → IsFresh r → with_log r [] ≡ r
no_log r fresh =
    rw (
      nothing_more r.reservoir,
      nothing_more r.bias,
      nothing_counted r.coded LAST_COUNT fresh.coded (omega (arith, ints)),
      nothing_counted r.shown_again LAST_COUNT fresh.shown_again (omega (arith, ints)),
      nothing_counted r.shows LAST_I32 fresh.shows (omega (arith, ints)),
      sym (is_four no_subtype r.subtypes fresh.four refl refl refl refl),
    ) refl

-- before a log it is what is kept
pub kept_of_fresh : (r : Rate) → IsFresh r → kept r [] ≡ r
unfolding kept
kept_of_fresh r fresh = elim (int_lt (pos 0) r.bitrate) as (λ b. cond b (with_log r []) r ≡ r) [ true ↦ no_log r fresh | false ↦ refl ]

-- ---- before anything is coded

none_where_none : (n : ℕ) (z : ℤ) → pos 0 ≤ℤ z → (int_min (pos 0 +ℤ pos n) LAST_COUNT +ℤ z) ≡ pos 0 → n ≡ 0
none_where_none n z low is = omega (arith, ints, clamps)

none_behind : (n m : ℕ) (a b : ℤ) → a ≡ pos 0 → b ≡ pos 0 → (int_min (a +ℤ pos n) LAST_COUNT +ℤ int_min (b +ℤ pos m) LAST_COUNT) ≡ pos 0 → (n ≡ 0) × (m ≡ 0)
none_behind n m a b none also is =
    let sum : (int_min (pos 0 +ℤ pos n) LAST_COUNT +ℤ int_min (pos 0 +ℤ pos m) LAST_COUNT) ≡ pos 0 = rw (none, also) at is in
    (omega (arith, ints, clamps), omega (arith, ints, clamps))

-- without commands no coded frame with bits, and no show, is in the log
pub no_commands : (r : Rate) (es : List Entry) → int_lt (pos 0) r.bitrate ≡ true → IsFresh r → commands (kept r es) ≡ pos 0
    → (length (filter is_coded es) ≡ 0) × (length (filter is_show es) ≡ 0)
unfolding kept
no_commands r es on fresh none =
    none_behind (length (filter is_coded es)) (length (filter is_show es)) r.coded r.shown_again fresh.coded fresh.shown_again
    (sym (ap (λ b. commands (cond b (with_log r es) r)) on) ∙ none)
