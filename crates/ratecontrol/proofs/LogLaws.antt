-- What is kept after a list of frames.
use Rattle.std.proofs.Common.{◌≡◌, ◌≢◌, ℕ, ◌<◌, true, false, cond, ◌==◌, nat_lt, List, [], ◌∷◌, length, refl, ap, sym, ◌∙◌, arith, subst, int_lt, ℤ, pos, length-set, inl, inr}
use Rattle.std.specs.List.{fold, filter}
use Rattle.std.proofs.lemmas.Bool.Decides.{nat_tests}
use Rattle.std.proofs.lemmas.Bool.{cases_eq}
use Rattle.std.proofs.lemmas.List.{get_or-set_other, get_or-set_same}
use Rattle.rate_model.specs.Subtype.{SubtypeRate, subtype_at, no_subtype}
use Rattle.ratecontrol.specs.Rate.{Rate}
use Rattle.rate_model.specs.Measure.{Entry, subtype_after}
use Rattle.ratecontrol.specs.Update.{update, after, after_with_data, after_frame, after_show, with_subtype, charged, estimate}
use Rattle.ratecontrol.specs.Log.{after_all, is_of, subtype_after_all}

-- what a frame leaves as it is
pub record IsSettled (old new : Rate) : Type 0 where
  pub bitrate : new.bitrate ≡ old.bitrate
  pub log_npixels : new.log_npixels ≡ old.log_npixels
  pub delay_target : new.delay_target ≡ old.delay_target
  pub bits_per_tu : new.bits_per_tu ≡ old.bits_per_tu
  pub most : new.most ≡ old.most
  pub count : length new.subtypes ≡ length old.subtypes

settled_frame : (e : Entry) (rate : Rate) → IsSettled rate (after_frame e rate)
unfolding after_frame
settled_frame e rate = elim e.trial as (λ b. IsSettled rate (cond b (with_subtype e rate) (charged (estimate rate e) e.bits e.shown (with_subtype e rate)))) [
  | true ↦ record { bitrate = refl; log_npixels = refl; delay_target = refl; bits_per_tu = refl; most = refl; count = simp length-set }
  | false ↦ record { bitrate = refl; log_npixels = refl; delay_target = refl; bits_per_tu = refl; most = refl; count = simp length-set }
]

settled_show : (e : Entry) (rate : Rate) → IsSettled rate (after_show e rate)
unfolding after_show
settled_show e rate = record { bitrate = refl; log_npixels = refl; delay_target = refl; bits_per_tu = refl; most = refl; count = refl }

settled_after : (e : Entry) (rate : Rate) → IsSettled rate (after e rate)
settled_after e rate = elim (nat_lt e.subtype 4) as (λ b. IsSettled rate (cond b (after_frame e rate) (after_show e rate))) [
  | true ↦ settled_frame e rate
  | false ↦ settled_show e rate
]

settled_with_data : (e : Entry) (rate : Rate) → IsSettled rate (after_with_data e rate)
settled_with_data e rate =
    let s = settled_after e rate in
    record { bitrate = s.bitrate; log_npixels = s.log_npixels; delay_target = s.delay_target; bits_per_tu = s.bits_per_tu; most = s.most; count = s.count }

pub settled : (e : Entry) (rate : Rate) → IsSettled rate (update e rate)
settled e rate = elim (int_lt (pos 0) rate.bitrate) as (λ b. IsSettled rate (cond b (after_with_data e rate) rate)) [
  | true ↦ settled_with_data e rate
  | false ↦ record { bitrate = refl; log_npixels = refl; delay_target = refl; bits_per_tu = refl; most = refl; count = refl }
]

-- ---- the subtypes

subtypes_of_frame : (e : Entry) (rate : Rate) → (after_frame e rate).subtypes ≡ (with_subtype e rate).subtypes
unfolding after_frame
subtypes_of_frame e rate = elim e.trial as (λ b. (cond b (with_subtype e rate) (charged (estimate rate e) e.bits e.shown (with_subtype e rate))).subtypes ≡ (with_subtype e rate).subtypes) [
  | true ↦ refl
  | false ↦ refl
]

subtypes_of_show : (e : Entry) (rate : Rate) → (after_show e rate).subtypes ≡ rate.subtypes
unfolding after_show
subtypes_of_show e rate = refl

is_same : (a b : ℕ) → a ≡ b → (a == b) ≡ true
is_same a b e = grind (arith, nat_tests)

is_other : (a b : ℕ) → a ≢ b → (a == b) ≡ false
is_other a b ne = grind (arith, nat_tests)

pub passes_lt : (a b : ℕ) → a < b → nat_lt a b ≡ true
passes_lt a b h = grind (arith, nat_tests)

pub updated : (e : Entry) (rate : Rate) → int_lt (pos 0) rate.bitrate ≡ true → update e rate ≡ after_with_data e rate
updated e rate on = ap (λ b. cond b (after_with_data e rate) rate) on

own_frame : (e : Entry) (rate : Rate) (f : ℕ) → e.subtype ≡ f → f < 4 → length rate.subtypes ≡ 4
    → subtype_at (after e rate).subtypes f ≡ subtype_after rate.log_npixels rate.delay_target e (subtype_at rate.subtypes f)
own_frame e rate f same below len =
    let inside : e.subtype < length rate.subtypes = omega arith in
    let frame : after e rate ≡ after_frame e rate = ap (λ b. cond b (after_frame e rate) (after_show e rate)) (passes_lt e.subtype 4 (omega arith)) in
    let read : (after e rate).subtypes ≡ (with_subtype e rate).subtypes = ap (λ (r : Rate). r.subtypes) frame ∙ subtypes_of_frame e rate in
    let at_own : subtype_at (with_subtype e rate).subtypes e.subtype ≡ subtype_after rate.log_npixels rate.delay_target e (subtype_at rate.subtypes e.subtype) =
    get_or-set_same rate.subtypes e.subtype _ no_subtype inside in
    ap (λ (xs : List SubtypeRate). subtype_at xs f) read
    ∙ subst (λ n. subtype_at (with_subtype e rate).subtypes n ≡ subtype_after rate.log_npixels rate.delay_target e (subtype_at rate.subtypes n)) same at_own

other_frame : (e : Entry) (rate : Rate) (f : ℕ) → e.subtype ≢ f → subtype_at (after e rate).subtypes f ≡ subtype_at rate.subtypes f
other_frame e rate f other =
    let ne : f ≢ e.subtype = λ h. other (sym h) in
    let kept : subtype_at (with_subtype e rate).subtypes f ≡ subtype_at rate.subtypes f = get_or-set_other rate.subtypes e.subtype f _ no_subtype ne in
    elim (nat_lt e.subtype 4) as (λ b. subtype_at (cond b (after_frame e rate) (after_show e rate)).subtypes f ≡ subtype_at rate.subtypes f) [
      | true ↦ ap (λ (xs : List SubtypeRate). subtype_at xs f) (subtypes_of_frame e rate) ∙ kept
      | false ↦ ap (λ (xs : List SubtypeRate). subtype_at xs f) (subtypes_of_show e rate)
    ]

abbrev over : ℤ → ℤ → SubtypeRate → List Entry → SubtypeRate
over log_npixels delay_target s entries = fold (λ t e. subtype_after log_npixels delay_target e t) s entries

by_same : {P : Type 0} (a b : ℕ) → (a ≡ b → P) → (a ≢ b → P) → P
by_same a b on_same on_other = elim (cases_eq a b) [ inl same ↦ on_same same | inr other ↦ on_other other ]

-- the entries of a subtype give it, whatever stands between them
pub subtype_of_own : (rate : Rate) (f : ℕ) (entries : List Entry) → int_lt (pos 0) rate.bitrate ≡ true → f < 4 → length rate.subtypes ≡ 4
    → subtype_at (after_all rate entries).subtypes f ≡ subtype_after_all rate f entries
subtype_of_own rate f [] on below len = refl
subtype_of_own rate f (e ∷ es) on below len =
    let next = update e rate in
    let s = settled e rate in
    let rest = subtype_of_own next f es (ap (int_lt (pos 0)) s.bitrate ∙ on) below (s.count ∙ len) in
    let same_settings : subtype_after_all next f es ≡ over rate.log_npixels rate.delay_target (subtype_at next.subtypes f) (filter (is_of f) es) =
    ap (λ n. over n next.delay_target (subtype_at next.subtypes f) (filter (is_of f) es)) s.log_npixels
    ∙ ap (λ d. over rate.log_npixels d (subtype_at next.subtypes f) (filter (is_of f) es)) s.delay_target in
    let first : next ≡ after_with_data e rate = updated e rate on in
    let read : subtype_at next.subtypes f ≡ subtype_at (after e rate).subtypes f = ap (λ (r : Rate). subtype_at r.subtypes f) first in
    let put : (t : SubtypeRate) → subtype_at next.subtypes f ≡ t
    → subtype_at (after_all rate (e ∷ es)).subtypes f ≡ over rate.log_npixels rate.delay_target t (filter (is_of f) es) =
    λ t is. rest ∙ (same_settings ∙ ap (λ (u : SubtypeRate). over rate.log_npixels rate.delay_target u (filter (is_of f) es)) is) in
    by_same e.subtype f
    (λ own.
    put _ (read ∙ own_frame e rate f own below len)
    ∙ sym (ap (λ b. over rate.log_npixels rate.delay_target (subtype_at rate.subtypes f) (cond b (e ∷ filter (is_of f) es) (filter (is_of f) es))) (is_same e.subtype f own)))
    (λ other.
    put _ (read ∙ other_frame e rate f other)
    ∙ sym (ap (λ b. over rate.log_npixels rate.delay_target (subtype_at rate.subtypes f) (cond b (e ∷ filter (is_of f) es) (filter (is_of f) es))) (is_other e.subtype f other)))
