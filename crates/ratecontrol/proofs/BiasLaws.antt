-- The bias after a list of frames.
use Rattle.std.proofs.Common.{◌≡◌, ℕ, suc, ◌+◌, ◌-◌, ◌*◌, ◌/◌, ◌%◌, ◌<◌, ◌≤◌, ◌^◌, Bool, true, false, cond, nat_lt, nat_le, List, [], ◌∷◌, ◌++◌, length, refl, ap, sym, ◌∙◌, arith, subst, int_lt, ℤ, pos, negsuc, ◌+ℤ◌, ◌-ℤ◌, ◌≤ℤ◌}
use Rattle.std.specs.Int.{saturate_signed, w64}
use Rattle.std.proofs.lemmas.Int.{ints}
use Rattle.std.proofs.lemmas.Bool.{ltb-true}
use Rattle.std.proofs.lemmas.List.Sums.{fold-append}
use Rattle.fixed_log.specs.Within.{IsWithin}
use Rattle.fixed_log.specs.Exponential.{bexp64, scaled, mantissa}
use Rattle.rate_model.specs.Subtype.{SubtypeRate}
use Rattle.ratecontrol.specs.Rate.{Rate}
use Rattle.ratecontrol.specs.Ledger.{total}
use Rattle.rate_model.specs.Measure.{Entry}
use Rattle.reservoir.specs.Moves.{FAR, not_far}
use Rattle.ratecontrol.specs.Update.{SHOW_BITS, expected, estimate, update, after, after_with_data, after_frame, after_show, with_subtype, charged}
use Rattle.ratecontrol.specs.Log.{AllFrames, HasBiasRoom, after_all, subtype_after_all, estimate_after_all, bias_changes, bias_after_all}
use Rattle.ratecontrol.proofs.Exponentials.{exponential_positive}
use Rattle.ratecontrol.proofs.LogLaws.{settled, updated, subtype_of_own}
use Rattle.ratecontrol.proofs.ReservoirLaws.{by_trial, not_far_is}

-- an estimate is a number of bits that fits its type
record IsEstimate (x : ℤ) : Type 0 where
  low : pos 0 ≤ℤ x
  high : x ≤ℤ pos (2 ^ 63)

saturated_most : (z : ℤ) → saturate_signed w64 z ≤ℤ pos (2 ^ 63)
saturated_most (pos n) = omega (arith, ints)
saturated_most (negsuc n) = omega (arith, ints)

lesser : (b : Bool) (x y most : ℤ) → x ≤ℤ most → y ≤ℤ most → cond b x y ≤ℤ most
lesser true x y most p q = p
lesser false x y most p q = q

exponential_most : (v : ℤ) → bexp64 v ≤ℤ pos (2 ^ 63)
unfolding bexp64
exponential_most (pos v) =
    lesser (nat_le 63 (v / 2 ^ 57)) (pos (2 ^ 63 - 1)) (saturate_signed w64 (scaled (v / 2 ^ 57) (mantissa (v / 2 ^ 57) (v % 2 ^ 57)))) (pos (2 ^ 63))
    (omega (arith, ints)) (saturated_most _)
exponential_most (negsuc v) = omega (arith, ints)

one_of : (b : Bool) (x y : ℤ) → IsEstimate x → IsEstimate y → IsEstimate (cond b x y)
one_of true x y p q = p
one_of false x y p q = q

is_expected : (log_npixels : ℤ) (s : SubtypeRate) (e : Entry) → IsEstimate (expected log_npixels s e)
is_expected log_npixels s e =
    one_of (int_lt (pos 0) e.bits) _ (pos 0) (record { low = exponential_positive _; high = exponential_most _ })
    (record { low = omega (arith, ints); high = omega (arith, ints) })

is_estimate : (rate : Rate) (before : List Entry) (e : Entry) → IsEstimate (estimate_after_all rate before e)
is_estimate rate before e =
    one_of (nat_lt e.subtype 4) _ (pos SHOW_BITS) (is_expected rate.log_npixels (subtype_after_all rate e.subtype before) e)
    (record { low = omega (arith, ints); high = omega (arith, ints) })

-- ---- one frame

real_bias : (e : Entry) (rate : Rate) → e.trial ≡ false
    → (after e rate).bias ≡ not_far (rate.bias +ℤ (cond (nat_lt e.subtype 4) (estimate rate e) (pos SHOW_BITS) -ℤ e.bits))
unfolding after_frame after_show
real_bias e rate real =
    elim (nat_lt e.subtype 4) as (λ b. (cond b (after_frame e rate) (after_show e rate)).bias ≡ not_far (rate.bias +ℤ (cond b (estimate rate e) (pos SHOW_BITS) -ℤ e.bits))) [
      | true ↦ ap (λ b. (cond b (with_subtype e rate) (charged (estimate rate e) e.bits e.shown (with_subtype e rate))).bias) real
      | false ↦ refl
    ]

trial_bias : (e : Entry) (rate : Rate) → e.trial ≡ true → nat_lt e.subtype 4 ≡ true → (after e rate).bias ≡ rate.bias
unfolding after_frame
trial_bias e rate trial coded =
    ap (λ b. (cond b (after_frame e rate) (after_show e rate)).bias) coded
    ∙ ap (λ b. (cond b (with_subtype e rate) (charged (estimate rate e) e.bits e.shown (with_subtype e rate))).bias) trial

near : (m n : ℕ) (bias d : ℤ) → IsWithin m bias → IsWithin (2 ^ 63) d → m + 2 ^ 63 * suc n ≤ FAR → IsWithin (m + 2 ^ 63) (bias +ℤ d)
near m n bias d h k room =
    let a = h.low in
    let b = h.high in
    let p = k.low in
    let q = k.high in
    record { low = omega (arith, ints); high = omega (arith, ints) }

kept_near : (m : ℕ) (z : ℤ) → IsWithin m z → m ≤ FAR → not_far z ≡ z
kept_near m z h room =
    let a = h.low in
    let b = h.high in
    not_far_is z (omega (arith, ints)) (omega (arith, ints))

less_bits : (x bits : ℤ) → IsEstimate x → pos 0 ≤ℤ bits → bits ≤ℤ pos (2 ^ 63) → IsWithin (2 ^ 63) (x -ℤ bits)
less_bits x bits h p q =
    let a = h.low in
    let b = h.high in
    record { low = omega (arith, ints); high = omega (arith, ints) }

step_room : (m n : ℕ) → m + 2 ^ 63 * suc n ≤ FAR → (m + 2 ^ 63) + 2 ^ 63 * n ≤ FAR
step_room m n h = omega arith

less_room : (m n : ℕ) → m + 2 ^ 63 * suc n ≤ FAR → m + 2 ^ 63 * n ≤ FAR
less_room m n h = omega arith

top_room : (m n : ℕ) → m + 2 ^ 63 * suc n ≤ FAR → m + 2 ^ 63 ≤ FAR
top_room m n h = omega arith

plus_total : (bias d rest : ℤ) → (bias +ℤ d) +ℤ rest ≡ bias +ℤ (d +ℤ rest)
plus_total bias d rest = omega (arith, ints)

no_change : (bias : ℤ) → bias ≡ bias +ℤ pos 0
no_change bias = omega (arith, ints)

-- ---- the list: r is the state after the frames before

-- the settings stay along a list
pub record IsStill (old new : Rate) : Type 0 where
  pub log_npixels : new.log_npixels ≡ old.log_npixels
  pub bitrate : new.bitrate ≡ old.bitrate

below_four : (n : ℕ) → nat_lt n 4 ≡ true → n < 4
below_four n h = ltb-true _ _ h

still : (rate : Rate) (es : List Entry) → IsStill rate (after_all rate es)
still rate [] = record { log_npixels = refl; bitrate = refl }
still rate (e ∷ es) =
    let s = settled e rate in
    let rest = still (update e rate) es in
    record { log_npixels = rest.log_npixels ∙ s.log_npixels; bitrate = rest.bitrate ∙ s.bitrate }

-- what is expected of a frame, in the state after the frames before
same_estimate : (rate : Rate) (before : List Entry) (e : Entry) → int_lt (pos 0) rate.bitrate ≡ true → length rate.subtypes ≡ 4
    → cond (nat_lt e.subtype 4) (estimate (after_all rate before) e) (pos SHOW_BITS) ≡ estimate_after_all rate before e
same_estimate rate before e on len =
    by_trial (nat_lt e.subtype 4)
    (λ coded.
    let below : e.subtype < 4 = below_four e.subtype coded in
    let own = subtype_of_own rate e.subtype before on below len in
    let same : estimate (after_all rate before) e ≡ expected rate.log_npixels (subtype_after_all rate e.subtype before) e =
    ap (λ (s : SubtypeRate). expected (after_all rate before).log_npixels s e) own
    ∙ ap (λ n. expected n (subtype_after_all rate e.subtype before) e) (still rate before).log_npixels in
    ap (λ b. cond b (estimate (after_all rate before) e) (pos SHOW_BITS)) coded
    ∙ (same ∙ sym (ap (λ b. cond b (expected rate.log_npixels (subtype_after_all rate e.subtype before) e) (pos SHOW_BITS)) coded)))
    (λ show.
    ap (λ b. cond b (estimate (after_all rate before) e) (pos SHOW_BITS)) show
    ∙ sym (ap (λ b. cond b (expected rate.log_npixels (subtype_after_all rate e.subtype before) e) (pos SHOW_BITS)) show))

pub one_more : (rate : Rate) (before : List Entry) (e : Entry) → update e (after_all rate before) ≡ after_all rate (before ++ e ∷ [])
one_more rate before e = sym (fold-append (λ (r : Rate) (x : Entry). update x r) rate before (e ∷ []))

bias_from : (rate : Rate) (before es : List Entry) (m : ℕ) → int_lt (pos 0) rate.bitrate ≡ true → length rate.subtypes ≡ 4 → AllFrames es
    → IsWithin m (after_all rate before).bias → m + 2 ^ 63 * length es ≤ FAR
    → (after_all (after_all rate before) es).bias ≡ (after_all rate before).bias +ℤ total (bias_changes rate before es)
bias_from rate before [] m on len all within room = no_change (after_all rate before).bias
bias_from rate before (e ∷ es) m on len all within room =
    let r = after_all rate before in
    let on_r : int_lt (pos 0) r.bitrate ≡ true = ap (int_lt (pos 0)) (still rate before).bitrate ∙ on in
    let first : update e r ≡ after_with_data e r = updated e r on_r in
    let next = one_more rate before e in
    let moved = ap (λ (s : Rate). (after_all s es).bias) next in
    by_trial e.trial
    (λ trial.
    let is : (after_all rate (before ++ e ∷ [])).bias ≡ r.bias =
    sym (ap (λ (s : Rate). s.bias) next) ∙ (ap (λ (s : Rate). s.bias) first ∙ trial_bias e r trial (all.0.trial trial)) in
    let rest = bias_from rate (before ++ e ∷ []) es m on len all.1 (subst (λ z. IsWithin m z) (sym is) within) (less_room m (length es) room) in
    let dropped : total (bias_changes rate before (e ∷ es)) ≡ total (bias_changes rate (before ++ e ∷ []) es) =
    ap (λ b. total (cond b (bias_changes rate (before ++ e ∷ []) es) ((estimate_after_all rate before e -ℤ e.bits) ∷ bias_changes rate (before ++ e ∷ []) es))) trial in
    moved ∙ (rest ∙ (ap (λ z. z +ℤ total (bias_changes rate (before ++ e ∷ []) es)) is ∙ sym (ap (λ z. r.bias +ℤ z) dropped))))
    (λ real.
    let d = estimate_after_all rate before e -ℤ e.bits in
    let small = less_bits (estimate_after_all rate before e) e.bits (is_estimate rate before e) all.0.bits all.0.short in
    let within_next = near m (length es) r.bias d within small room in
    let is : (after_all rate (before ++ e ∷ [])).bias ≡ r.bias +ℤ d =
    sym (ap (λ (s : Rate). s.bias) next) ∙ (ap (λ (s : Rate). s.bias) first ∙ (real_bias e r real
    ∙ (ap (λ x. not_far (r.bias +ℤ (x -ℤ e.bits))) (same_estimate rate before e on len)
    ∙ kept_near (m + 2 ^ 63) (r.bias +ℤ d) within_next (top_room m (length es) room)))) in
    let rest = bias_from rate (before ++ e ∷ []) es (m + 2 ^ 63) on len all.1 (subst (λ z. IsWithin (m + 2 ^ 63) z) (sym is) within_next) (step_room m (length es) room) in
    let kept : total (bias_changes rate before (e ∷ es)) ≡ d +ℤ total (bias_changes rate (before ++ e ∷ []) es) =
    ap (λ b. total (cond b (bias_changes rate (before ++ e ∷ []) es) (d ∷ bias_changes rate (before ++ e ∷ []) es))) real in
    moved ∙ (rest ∙ (ap (λ z. z +ℤ total (bias_changes rate (before ++ e ∷ []) es)) is
    ∙ (plus_total r.bias d (total (bias_changes rate (before ++ e ∷ []) es)) ∙ sym (ap (λ z. r.bias +ℤ z) kept)))))

pub bias_is_sum : (rate : Rate) (es : List Entry) → int_lt (pos 0) rate.bitrate ≡ true → length rate.subtypes ≡ 4 → AllFrames es → HasBiasRoom rate es
    → (after_all rate es).bias ≡ bias_after_all rate es
bias_is_sum rate es on len all h = bias_from rate [] es h.span on len all h.within h.room
