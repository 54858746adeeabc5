-- The exponential is never negative.
use Rattle.std.proofs.Common.{◌≡◌, ℕ, zero, suc, ◌+◌, ◌-◌, ◌*◌, ◌/◌, ◌%◌, ◌<◌, ◌≤◌, ◌^◌, Bool, true, false, cond, nat_lt, nat_le, refl, arith, ℤ, pos, negsuc, ◌+ℤ◌, ◌*ℤ◌, ◌≤ℤ◌}
use Rattle.std.specs.Int.{int_shr, is_negative, saturate_signed, w64}
use Rattle.std.proofs.Math.Nat.{div-mul-le_self, mul-le-mul_left, div-le_self, pow-le-pow_right}
use Rattle.std.proofs.lemmas.Int.{ints}
use Rattle.std.proofs.lemmas.Nat.{le-div, pow_pos}
use Rattle.fixed_log.specs.Table.{stepped, turns_from}
use Rattle.fixed_log.specs.Exponential.{ExpState, exp_turn, doubling_turn, exp_runs, low_turn, doubling_low_turn, low_runs, low_bits, mantissa, scaled, bexp64, START}

-- ---- the turns of the value

back_or_on : (back : Bool) (v q : ℕ) → q ≤ v → pos 0 ≤ℤ stepped back (pos v) (pos q)
back_or_on true v q h = omega (arith, ints)
back_or_on false v q h = omega (arith, ints)

stepped_positive : (back : Bool) (z : ℤ) (k : ℕ) → pos 0 ≤ℤ z → pos 0 ≤ℤ stepped back z (int_shr z k)
stepped_positive back (pos v) k h = back_or_on back v (v / 2 ^ k) (div-le_self v (2 ^ k))
stepped_positive back (negsuc v) k h = absurd h.le

turn_positive : (i : ℕ) (s : ExpState) → pos 0 ≤ℤ s.value → pos 0 ≤ℤ (exp_turn i s).value
turn_positive i s h = stepped_positive (is_negative s.left) s.value (i + 1) h

run_positive : (first count : ℕ) (s : ExpState) → pos 0 ≤ℤ s.value → pos 0 ≤ℤ (turns_from doubling_turn first count s).value
unfolding turns_from
run_positive first zero s h = h
run_positive first (suc k) s h = turn_positive (first + k) (turns_from doubling_turn first k s) (run_positive first k s h)

runs_positive : (s : ExpState) → pos 0 ≤ℤ s.value → pos 0 ≤ℤ (exp_runs s).value
unfolding exp_runs
runs_positive s h =
    let a = turns_from doubling_turn 0 3 s in
    let b = exp_turn 3 a in
    let c = turns_from doubling_turn 3 9 b in
    let d = exp_turn 12 c in
    run_positive 12 20 d (turn_positive 12 c (run_positive 3 9 b (turn_positive 3 a (run_positive 0 3 s h))))

-- ---- the turns of the low bits: each takes at most the value over 2^32 off them

shorter : (v m n : ℕ) → 0 < m → m ≤ n → v / n ≤ v / m
shorter v m n p h =
    let less : v / n * m ≤ v / n * n = mul-le-mul_left (v / n) h in
    le-div (v / n) v m p (omega (arith, div-mul-le_self v n))

back_or_on_low : (back : Bool) (z : ℤ) (q n part : ℕ) → q ≤ part → pos 0 ≤ℤ (z +ℤ pos n) → pos 0 ≤ℤ (stepped back z (pos q) +ℤ pos (n + part))
back_or_on_low true z q n part h near = omega (arith, ints)
back_or_on_low false z q n part h near = omega (arith, ints)

low_turn_near : (high i n : ℕ) (s : ExpState) → 32 ≤ i → pos 0 ≤ℤ (s.value +ℤ pos n) → pos 0 ≤ℤ ((low_turn (pos high) i s).value +ℤ pos (n + high / 2 ^ 32))
low_turn_near high i n s past near =
    back_or_on_low (is_negative s.left) s.value (high / 2 ^ i) n (high / 2 ^ 32)
    (shorter high (2 ^ 32) (2 ^ i) (pow_pos 32) (pow-le-pow_right {n = 2} (omega arith) {i = 32} {j = i} past)) near

further : (z : ℤ) (a b : ℕ) → a ≡ b → pos 0 ≤ℤ (z +ℤ pos a) → pos 0 ≤ℤ (z +ℤ pos b)
further z a b e h = omega (arith, ints)

one_part_more : (n k part : ℕ) → (n + k * part) + part ≡ n + suc k * part
one_part_more n k part = omega arith

low_run_near : (high first count n : ℕ) (s : ExpState) → 32 ≤ first → pos 0 ≤ℤ (s.value +ℤ pos n)
    → pos 0 ≤ℤ ((turns_from (doubling_low_turn (pos high)) first count s).value +ℤ pos (n + count * (high / 2 ^ 32)))
unfolding turns_from
low_run_near high first zero n s past near = further s.value n (n + 0 * (high / 2 ^ 32)) (omega arith) near
low_run_near high first (suc k) n s past near =
    let before = turns_from (doubling_low_turn (pos high)) first k s in
    further (low_turn (pos high) (first + k) before).value _ _ (one_part_more n k (high / 2 ^ 32))
    (low_turn_near high (first + k) (n + k * (high / 2 ^ 32)) before (omega arith) (low_run_near high first k n s past near))

thirty : (high part : ℕ) (z : ℤ) → part * 2 ^ 32 ≤ high → pos 0 ≤ℤ (z +ℤ pos (((0 + 7 * part) + part) + 22 * part)) → pos 0 ≤ℤ (pos 2 *ℤ pos high +ℤ z)
thirty high part z h near = omega (arith, ints)

low_runs_least : (high : ℕ) (s : ExpState) → s.value ≡ pos 0 → pos 0 ≤ℤ (pos 2 *ℤ pos high +ℤ (low_runs (pos high) s).value)
unfolding low_runs
low_runs_least high s none =
    let start : pos 0 ≤ℤ (s.value +ℤ pos 0) = rw none (omega (arith, ints)) in
    let first = low_run_near high 32 7 0 s (omega arith) start in
    let second = low_turn_near high 39 (0 + 7 * (high / 2 ^ 32)) (turns_from (doubling_low_turn (pos high)) 32 7 s) (omega arith) first in
    thirty high (high / 2 ^ 32) (turns_from (doubling_low_turn (pos high)) 39 22 (low_turn (pos high) 39 (turns_from (doubling_low_turn (pos high)) 32 7 s))).value
    (div-mul-le_self high (2 ^ 32))
    (low_run_near high 39 22 ((0 + 7 * (high / 2 ^ 32)) + high / 2 ^ 32) (low_turn (pos high) 39 (turns_from (doubling_low_turn (pos high)) 32 7 s)) (omega arith) second)

either : (b : Bool) (z x y : ℤ) → pos 0 ≤ℤ (z +ℤ x) → pos 0 ≤ℤ (z +ℤ y) → pos 0 ≤ℤ (z +ℤ cond b x y)
either true z x y p q = p
either false z x y p q = q

with_low_bits : (whole : ℕ) (v left : ℤ) → pos 0 ≤ℤ v → pos 0 ≤ℤ (pos 2 *ℤ v +ℤ low_bits whole (record { value = v; left = left }))
unfolding low_bits
with_low_bits whole (pos v) left h =
    let s : ExpState = record { value = pos 0; left = left } in
    either (nat_lt 30 whole) (pos 2 *ℤ pos v) (low_runs (pos v) s).value (pos 0) (low_runs_least v s refl) (omega (arith, ints))
with_low_bits whole (negsuc v) left h = absurd h.le

-- ---- the whole

mantissa_positive : (whole f : ℕ) → pos 0 ≤ℤ mantissa whole f
unfolding mantissa
mantissa_positive whole zero = omega (arith, ints)
mantissa_positive whole (suc f) =
    let s = exp_runs (record { value = pos START; left = pos (32 * suc f) }) in
    with_low_bits whole s.value s.left (runs_positive (record { value = pos START; left = pos (32 * suc f) }) (omega (arith, ints)))

shifted_positive : (z : ℤ) (k : ℕ) → pos 0 ≤ℤ z → pos 0 ≤ℤ int_shr z k
shifted_positive (pos v) k h = omega (arith, ints)
shifted_positive (negsuc v) k h = absurd h.le

one_of_two : (b : Bool) (x y : ℤ) → pos 0 ≤ℤ x → pos 0 ≤ℤ y → pos 0 ≤ℤ cond b x y
one_of_two true x y p q = p
one_of_two false x y p q = q

scaled_positive : (whole : ℕ) (w : ℤ) → pos 0 ≤ℤ w → pos 0 ≤ℤ scaled whole w
unfolding scaled
scaled_positive whole w h =
    let high = shifted_positive w (61 - whole) h in
    one_of_two (nat_lt whole 62) (int_shr (int_shr w (61 - whole) +ℤ pos 1) 1) w (shifted_positive (int_shr w (61 - whole) +ℤ pos 1) 1 (omega (arith, ints))) h

saturated_positive : (z : ℤ) → pos 0 ≤ℤ z → pos 0 ≤ℤ saturate_signed w64 z
saturated_positive (pos n) h = omega (arith, ints)
saturated_positive (negsuc n) h = absurd h.le

pub exponential_positive : (v : ℤ) → pos 0 ≤ℤ bexp64 v
unfolding bexp64
exponential_positive (pos v) =
    one_of_two (nat_le 63 (v / 2 ^ 57)) (pos (2 ^ 63 - 1)) (saturate_signed w64 (scaled (v / 2 ^ 57) (mantissa (v / 2 ^ 57) (v % 2 ^ 57))))
    (omega (arith, ints)) (saturated_positive _ (scaled_positive _ _ (mantissa_positive _ _)))
exponential_positive (negsuc v) = omega (arith, ints)
