-- Counts after a list of frames.
use Rattle.std.proofs.Common.{◌≡◌, ℕ, suc, Bool, true, false, cond, not, ◌&&◌, ◌||◌, nat_lt, List, [], ◌∷◌, length, refl, ap, ◌∙◌, arith, int_lt, ℤ, pos, ◌+ℤ◌, ◌≤ℤ◌}
use Rattle.std.specs.List.{fold, filter}
use Rattle.std.specs.Int.{int_min}
use Rattle.std.proofs.lemmas.Int.{ints, clamps}
use Rattle.std.specs.Ordering.{int_eq}
use Rattle.rate_model.specs.Search.{power_log}
use Rattle.rate_model.specs.Subtype.{SubtypeRate, subtype_at}
use Rattle.ratecontrol.specs.Rate.{Rate}
use Rattle.rate_model.specs.Measure.{Entry, LAST_I32, grown, subtype_after, measured, counted, with_scale, following, has_delay_to_grow, with_grown_delay, with_longer_delay, scale_of}
use Rattle.reservoir.specs.Moves.{LAST_COUNT}
use Rattle.ratecontrol.specs.Update.{update, after, after_frame, after_show, with_subtype, charged, estimate}
use Rattle.ratecontrol.specs.Log.{after_all, is_coded, is_real, is_of, is_show, coded_after_all, frames_after_all, shown_again_after_all, shows_after_all, subtype_after_all}
use Rattle.ratecontrol.proofs.LogLaws.{settled, updated}

-- a count that grows by one where the test passes
grows : (last n : ℤ) (k : ℕ) → int_min (grown last n +ℤ pos k) last ≡ int_min (n +ℤ pos (suc k)) last
grows last n k = omega (arith, ints, clamps)

stays : (last n : ℤ) → n ≤ℤ last → n ≡ int_min (n +ℤ pos 0) last
stays last n h = omega (arith, ints, clamps)

grown_most : (last n : ℤ) → grown last n ≤ℤ last
grown_most last n = omega (arith, ints, clamps)

count_next : (last n : ℤ) (b : Bool) (ns : List Entry) (e : Entry)
    → int_min (cond b (grown last n) n +ℤ pos (length ns)) last ≡ int_min (n +ℤ pos (length (cond b (e ∷ ns) ns))) last
count_next last n true ns e = grows last n (length ns)
count_next last n false ns e = refl

next_most : (last n : ℤ) (b : Bool) → n ≤ℤ last → cond b (grown last n) n ≤ℤ last
next_most last n true h = grown_most last n
next_most last n false h = h

-- ---- the coded frames

coded_frame : (e : Entry) (rate : Rate) → (after_frame e rate).coded ≡ cond (not e.trial && int_lt (pos 0) e.bits) (grown LAST_COUNT rate.coded) rate.coded
unfolding after_frame
coded_frame e rate = elim e.trial as (λ b. (cond b (with_subtype e rate) (charged (estimate rate e) e.bits e.shown (with_subtype e rate))).coded ≡ (with_subtype e rate).coded) [
  | true ↦ refl
  | false ↦ refl
]

coded_show : (e : Entry) (rate : Rate) → (after_show e rate).coded ≡ rate.coded
unfolding after_show
coded_show e rate = refl

coded_next : (e : Entry) (rate : Rate) → (after e rate).coded ≡ cond (is_coded e) (grown LAST_COUNT rate.coded) rate.coded
coded_next e rate = elim (nat_lt e.subtype 4) as (λ b. (cond b (after_frame e rate) (after_show e rate)).coded ≡ cond (b && (not e.trial && int_lt (pos 0) e.bits)) (grown LAST_COUNT rate.coded) rate.coded) [
  | true ↦ coded_frame e rate
  | false ↦ coded_show e rate
]

pub coded_counted : (rate : Rate) (es : List Entry) → int_lt (pos 0) rate.bitrate ≡ true → rate.coded ≤ℤ LAST_COUNT → (after_all rate es).coded ≡ coded_after_all rate es
coded_counted rate [] on most = stays LAST_COUNT rate.coded most
coded_counted rate (e ∷ es) on most =
    let s = settled e rate in
    let is : (update e rate).coded ≡ cond (is_coded e) (grown LAST_COUNT rate.coded) rate.coded = ap (λ (r : Rate). r.coded) (updated e rate on) ∙ coded_next e rate in
    let next_top : (update e rate).coded ≤ℤ LAST_COUNT = rw is (next_most LAST_COUNT rate.coded (is_coded e) most) in
    coded_counted (update e rate) es (ap (int_lt (pos 0)) s.bitrate ∙ on) next_top
    ∙ (ap (λ n. int_min (n +ℤ pos (length (filter is_coded es))) LAST_COUNT) is ∙ count_next LAST_COUNT rate.coded (is_coded e) (filter is_coded es) e)

-- ---- the shows

again_frame : (e : Entry) (rate : Rate) → ((after_frame e rate).shown_again ≡ rate.shown_again) × ((after_frame e rate).shows ≡ rate.shows)
unfolding after_frame
again_frame e rate =
    elim e.trial as (λ b. let r = cond b (with_subtype e rate) (charged (estimate rate e) e.bits e.shown (with_subtype e rate)) in
    (r.shown_again ≡ rate.shown_again) × (r.shows ≡ rate.shows)) [
      | true ↦ (refl, refl)
      | false ↦ (refl, refl)
    ]

again_show : (e : Entry) (rate : Rate) → ((after_show e rate).shown_again ≡ grown LAST_COUNT rate.shown_again) × ((after_show e rate).shows ≡ grown LAST_I32 rate.shows)
unfolding after_show
again_show e rate = (refl, refl)

again_next : (e : Entry) (rate : Rate)
    → ((after e rate).shown_again ≡ cond (is_show e) (grown LAST_COUNT rate.shown_again) rate.shown_again) × ((after e rate).shows ≡ cond (is_show e) (grown LAST_I32 rate.shows) rate.shows)
again_next e rate =
    elim (nat_lt e.subtype 4) as (λ b. let r = cond b (after_frame e rate) (after_show e rate) in
    (r.shown_again ≡ cond (not b) (grown LAST_COUNT rate.shown_again) rate.shown_again) × (r.shows ≡ cond (not b) (grown LAST_I32 rate.shows) rate.shows)) [
      | true ↦ again_frame e rate
      | false ↦ again_show e rate
    ]

pub shown_again_counted : (rate : Rate) (es : List Entry) → int_lt (pos 0) rate.bitrate ≡ true → rate.shown_again ≤ℤ LAST_COUNT → (after_all rate es).shown_again ≡ shown_again_after_all rate es
shown_again_counted rate [] on most = stays LAST_COUNT rate.shown_again most
shown_again_counted rate (e ∷ es) on most =
    let s = settled e rate in
    let is : (update e rate).shown_again ≡ cond (is_show e) (grown LAST_COUNT rate.shown_again) rate.shown_again = ap (λ (r : Rate). r.shown_again) (updated e rate on) ∙ (again_next e rate).0 in
    let next_top : (update e rate).shown_again ≤ℤ LAST_COUNT = rw is (next_most LAST_COUNT rate.shown_again (is_show e) most) in
    shown_again_counted (update e rate) es (ap (int_lt (pos 0)) s.bitrate ∙ on) next_top
    ∙ (ap (λ n. int_min (n +ℤ pos (length (filter is_show es))) LAST_COUNT) is ∙ count_next LAST_COUNT rate.shown_again (is_show e) (filter is_show es) e)

pub shows_counted : (rate : Rate) (es : List Entry) → int_lt (pos 0) rate.bitrate ≡ true → rate.shows ≤ℤ LAST_I32 → (after_all rate es).shows ≡ shows_after_all rate es
shows_counted rate [] on most = stays LAST_I32 rate.shows most
shows_counted rate (e ∷ es) on most =
    let s = settled e rate in
    let is : (update e rate).shows ≡ cond (is_show e) (grown LAST_I32 rate.shows) rate.shows = ap (λ (r : Rate). r.shows) (updated e rate on) ∙ (again_next e rate).1 in
    let next_top : (update e rate).shows ≤ℤ LAST_I32 = rw is (next_most LAST_I32 rate.shows (is_show e) most) in
    shows_counted (update e rate) es (ap (int_lt (pos 0)) s.bitrate ∙ on) next_top
    ∙ (ap (λ n. int_min (n +ℤ pos (length (filter is_show es))) LAST_I32) is ∙ count_next LAST_I32 rate.shows (is_show e) (filter is_show es) e)

-- ---- the frames of a subtype

frames_grown : (f : ℕ) (delay_target : ℤ) (s : SubtypeRate) → (with_grown_delay f delay_target s).frames ≡ s.frames
frames_grown f delay_target s = elim (has_delay_to_grow f delay_target s) as (λ b. (cond b (with_longer_delay s) s).frames ≡ s.frames) [ true ↦ refl | false ↦ refl ]

frames_measured : (f : ℕ) (delay_target scale : ℤ) (trial : Bool) (s : SubtypeRate) → (measured f delay_target trial scale s).frames ≡ s.frames
unfolding measured
frames_measured f delay_target scale trial s =
    elim (trial || int_eq s.frames (pos 0)) as (λ b. (cond b (with_scale scale s) (following scale (with_grown_delay f delay_target s))).frames ≡ s.frames) [
      | true ↦ refl
      | false ↦ frames_grown f delay_target s
    ]

frames_told : (log_npixels delay_target : ℤ) (e : Entry) (s : SubtypeRate)
    → (cond (int_lt (pos 0) e.bits) (measured e.subtype delay_target e.trial (scale_of log_npixels e.bits (power_log e.log_target s.exponent)) s) s).frames ≡ s.frames
frames_told log_npixels delay_target e s =
    elim (int_lt (pos 0) e.bits) as (λ b. (cond b (measured e.subtype delay_target e.trial (scale_of log_npixels e.bits (power_log e.log_target s.exponent)) s) s).frames ≡ s.frames) [
      | true ↦ frames_measured e.subtype delay_target (scale_of log_npixels e.bits (power_log e.log_target s.exponent)) e.trial s
      | false ↦ refl
    ]

frames_of_counted : (trial : Bool) (t : SubtypeRate) → (counted trial t).frames ≡ cond (not trial) (grown LAST_I32 t.frames) t.frames
frames_of_counted true t = refl
frames_of_counted false t = refl

frames_step : (log_npixels delay_target : ℤ) (e : Entry) (s : SubtypeRate) → (subtype_after log_npixels delay_target e s).frames ≡ cond (is_real e) (grown LAST_I32 s.frames) s.frames
unfolding subtype_after
frames_step log_npixels delay_target e s =
    frames_of_counted e.trial (cond (int_lt (pos 0) e.bits) (measured e.subtype delay_target e.trial (scale_of log_npixels e.bits (power_log e.log_target s.exponent)) s) s)
    ∙ ap (λ n. cond (not e.trial) (grown LAST_I32 n) n) (frames_told log_npixels delay_target e s)

frames_folded : (log_npixels delay_target : ℤ) (s : SubtypeRate) (es : List Entry) → s.frames ≤ℤ LAST_I32
    → (fold (λ t e. subtype_after log_npixels delay_target e t) s es).frames ≡ int_min (s.frames +ℤ pos (length (filter is_real es))) LAST_I32
frames_folded log_npixels delay_target s [] most = stays LAST_I32 s.frames most
frames_folded log_npixels delay_target s (e ∷ es) most =
    let is = frames_step log_npixels delay_target e s in
    let next_top : (subtype_after log_npixels delay_target e s).frames ≤ℤ LAST_I32 = rw is (next_most LAST_I32 s.frames (is_real e) most) in
    frames_folded log_npixels delay_target (subtype_after log_npixels delay_target e s) es next_top
    ∙ (ap (λ n. int_min (n +ℤ pos (length (filter is_real es))) LAST_I32) is ∙ count_next LAST_I32 s.frames (is_real e) (filter is_real es) e)

pub frames_counted : (rate : Rate) (f : ℕ) (es : List Entry) → (subtype_at rate.subtypes f).frames ≤ℤ LAST_I32 → (subtype_after_all rate f es).frames ≡ frames_after_all rate f es
frames_counted rate f es most = frames_folded rate.log_npixels rate.delay_target (subtype_at rate.subtypes f) (filter (is_of f) es) most
