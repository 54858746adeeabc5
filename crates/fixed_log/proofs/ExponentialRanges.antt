-- The ranges that the exponential's turns keep their state in, computed turn by turn.
use Rattle.std.proofs.Common.{◌≡◌, ℕ, ◌+◌, ◌-◌, ◌*◌, ◌/◌, ◌^◌, ◌<◌, ◌≤◌, Bool, true, false, ◌&&◌, nat_lt, nat_le, refl, arith, ℤ, pos, negsuc, ◌+ℤ◌, ◌-ℤ◌, ◌≤ℤ◌, ◌<ℤ◌, FitsSigned, w64}
use Rattle.std.specs.Int.{is_negative}
use Rattle.std.proofs.lemmas.Bool.{and_parts, ltb-true, leb-true}
use Rattle.std.proofs.lemmas.Int.{ints}
use Rattle.std.proofs.Math.Nat.{div-le_self}
use Rattle.std.proofs.lemmas.Nat.{pow_pos}
use Rattle.fixed_log.specs.Table.{angle_of, turns_from, stepped}
use Rattle.fixed_log.specs.Exponential.{ExpState, exp_turn, doubled, doubling_turn, low_turn, doubling_low_turn, START, IsSmall, IsStart, HasLittleLeft}
use Rattle.fixed_log.proofs.Quotients.{div_mono, less_quotient}
use Rattle.fixed_log.proofs.Ranges.{InLeft, next_under, next_over, left_turn, spread_turn}
use Rattle.fixed_log.proofs.Turns.{all_pass, run_in, run_each}

-- the value lies from low to high, and what is left of the logarithm from -under to over
pub record Range : Type 0 where
  pub low : ℕ
  pub high : ℕ
  pub under : ℕ
  pub over : ℕ

pub record InRange (s : ExpState) (r : Range) : Type 0 where
  pub value : ℕ
  pub value_is : s.value ≡ pos value
  pub low : r.low ≤ value
  pub high : value ≤ r.high
  pub left : InLeft s.left r.under r.over

abbrev pub exp_range : ℕ → Range → Range
exp_range i r = record {
  low = r.low - r.low / 2 ^ (i + 1);
  high = r.high + r.high / 2 ^ (i + 1);
  under = next_under (angle_of i) r.under;
  over = next_over (angle_of i) r.over;
}

abbrev pub doubled_range : Range → Range
doubled_range r = record r { under = 2 * r.under; over = 2 * r.over }

abbrev pub doubling_range : ℕ → Range → Range
doubling_range i r = doubled_range (exp_range i r)

-- a state in the range fits its type, with room for a doubling where bits is 62
abbrev pub is_small_range : ℕ → Range → Bool
is_small_range bits r = nat_lt r.high (2 ^ 63) && (nat_le r.under (2 ^ bits) && nat_lt r.over (2 ^ bits))

pub IsSmall-range : (bits : ℕ) (s : ExpState) (r : Range) → is_small_range bits r ≡ true → InRange s r → IsSmall bits s
IsSmall-range bits s r small h =
    let p = and_parts (nat_lt r.high (2 ^ 63)) (nat_le r.under (2 ^ bits) && nat_lt r.over (2 ^ bits)) small in
    let q = and_parts (nat_le r.under (2 ^ bits)) (nat_lt r.over (2 ^ bits)) p.1 in
    let high : r.high < 2 ^ 63 = ltb-true _ _ p.0 in
    let under : r.under ≤ 2 ^ bits = leb-true _ _ q.0 in
    let over : r.over < 2 ^ bits = ltb-true _ _ q.1 in
    let positive : 0 < 2 ^ bits = pow_pos bits in
    let is = h.value_is in
    let below = h.high in
    let a = h.left.above in
    let b = h.left.below in
    record {
      value_low = rw is (omega (arith, ints));
      value_high = rw is (omega (arith, ints));
      left_low = omega (arith, ints);
      left_high = omega (arith, ints);
    }

value_back : (v m low high : ℕ) → 0 < m → low ≤ v → v ≤ high → (w : ℕ) × (pos v -ℤ pos (v / m) ≡ pos w) × (low - low / m ≤ w) × (w ≤ high + high / m)
value_back v m low high p a b = (v - v / m, omega (arith, ints, div-le_self v m), less_quotient low v m p a, omega arith)

value_on : (v m low high : ℕ) → 0 < m → low ≤ v → v ≤ high → (w : ℕ) × (pos v +ℤ pos (v / m) ≡ pos w) × (low - low / m ≤ w) × (w ≤ high + high / m)
value_on v m low high p a b = (v + v / m, refl, omega arith, omega (arith, div_mono v high m p b))

value_turn : (back : Bool) (v m low high : ℕ) → 0 < m → low ≤ v → v ≤ high → (w : ℕ) × (stepped back (pos v) (pos (v / m)) ≡ pos w) × (low - low / m ≤ w) × (w ≤ high + high / m)
value_turn true v m low high p a b = value_back v m low high p a b
value_turn false v m low high p a b = value_on v m low high p a b

pub exp_turn_in : (i : ℕ) (s : ExpState) (r : Range) → InRange s r → InRange (exp_turn i s) (exp_range i r)
exp_turn_in i s r h =
    let m = 2 ^ (i + 1) in
    let next = value_turn (is_negative s.left) h.value m r.low r.high (pow_pos (i + 1)) h.low h.high in
    record {
      value = next.0;
      value_is = rw h.value_is next.1;
      low = next.2;
      high = next.3;
      left = left_turn s.left (angle_of i) r.under r.over h.left;
    }

pub doubled_in : (s : ExpState) (r : Range) → InRange s r → InRange (doubled s) (doubled_range r)
doubled_in s r h =
    let a = h.left.above in
    let b = h.left.below in
    record {
      value = h.value;
      value_is = h.value_is;
      low = h.low;
      high = h.high;
      left = record { above = omega (arith, ints); below = omega (arith, ints) };
    }

-- ---- the runs of the value

abbrev can_double : ℕ → Range → Bool
can_double i r = is_small_range 62 (exp_range i r)

doubling_in : (i : ℕ) (s : ExpState) (r : Range) → can_double i r ≡ true → InRange s r → InRange (doubling_turn i s) (doubling_range i r)
doubling_in i s r test h = doubled_in (exp_turn i s) (exp_range i r) (exp_turn_in i s r h)

doubling_small : (i : ℕ) (s : ExpState) (r : Range) → can_double i r ≡ true → InRange s r → IsSmall 62 (exp_turn i s)
doubling_small i s r test h = IsSmall-range 62 (exp_turn i s) (exp_range i r) test (exp_turn_in i s r h)

run_small : (first count : ℕ) (s : ExpState) (r : Range) → all_pass can_double doubling_range first count r ≡ true → InRange s r
    → (k : ℕ) → k < count → IsSmall 62 (exp_turn (first + k) (turns_from doubling_turn first k s))
run_small first count s r pass h =
    run_each doubling_turn doubling_range can_double InRange (λ i t. IsSmall 62 (exp_turn i t)) doubling_in doubling_small first count s r pass h

run_range : (first count : ℕ) (s : ExpState) (r : Range) → all_pass can_double doubling_range first count r ≡ true → InRange s r
    → InRange (turns_from doubling_turn first count s) (turns_from doubling_range first count r)
run_range first count s r pass h = run_in doubling_turn doubling_range can_double InRange doubling_in first count s r pass h

-- the ranges at the start, and after each run and each turn that does not double
abbrev range_0 : Range
range_0 = record { low = START; high = START; under = 0; over = 2 ^ 62 - 1 }

unfoldable range_1 : Range
range_1 = turns_from doubling_range 0 3 range_0

unfoldable range_2 : Range
range_2 = exp_range 3 range_1

unfoldable range_3 : Range
range_3 = turns_from doubling_range 3 9 range_2

unfoldable range_4 : Range
range_4 = exp_range 12 range_3

unfoldable range_5 : Range
range_5 = turns_from doubling_range 12 20 range_4

abbrev pub state_1 : ExpState → ExpState
state_1 s = turns_from doubling_turn 0 3 s

abbrev pub state_2 : ExpState → ExpState
state_2 s = exp_turn 3 (state_1 s)

abbrev pub state_3 : ExpState → ExpState
state_3 s = turns_from doubling_turn 3 9 (state_2 s)

abbrev pub state_4 : ExpState → ExpState
state_4 s = exp_turn 12 (state_3 s)

abbrev pub state_5 : ExpState → ExpState
state_5 s = turns_from doubling_turn 12 20 (state_4 s)

passes_1 : all_pass can_double doubling_range 0 3 range_0 ≡ true
unfolding all_pass turns_from angle_of
passes_1 = refl

passes_2 : is_small_range 63 range_2 ≡ true
unfolding range_2 range_1 turns_from angle_of
passes_2 = refl

passes_3 : all_pass can_double doubling_range 3 9 range_2 ≡ true
unfolding range_2 range_1 all_pass turns_from angle_of
passes_3 = refl

passes_4 : is_small_range 63 range_4 ≡ true
unfolding range_4 range_3 range_2 range_1 turns_from angle_of
passes_4 = refl

passes_5 : all_pass can_double doubling_range 12 20 range_4 ≡ true
unfolding range_4 range_3 range_2 range_1 all_pass turns_from angle_of
passes_5 = refl

in_0 : (s : ExpState) → IsStart s → InRange s range_0
in_0 s h =
    let low = h.low in
    let high = h.high in
    record { value = START; value_is = h.value; low = omega arith; high = omega arith; left = record { above = omega (arith, ints); below = omega (arith, ints) } }

in_1 : (s : ExpState) → IsStart s → InRange (state_1 s) range_1
unfolding range_1
in_1 s h = run_range 0 3 s range_0 passes_1 (in_0 s h)

in_2 : (s : ExpState) → IsStart s → InRange (state_2 s) range_2
unfolding range_2
in_2 s h = exp_turn_in 3 (state_1 s) range_1 (in_1 s h)

in_3 : (s : ExpState) → IsStart s → InRange (state_3 s) range_3
unfolding range_3
in_3 s h = run_range 3 9 (state_2 s) range_2 passes_3 (in_2 s h)

in_4 : (s : ExpState) → IsStart s → InRange (state_4 s) range_4
unfolding range_4
in_4 s h = exp_turn_in 12 (state_3 s) range_3 (in_3 s h)

in_5 : (s : ExpState) → IsStart s → InRange (state_5 s) range_5
unfolding range_5
in_5 s h = run_range 12 20 (state_4 s) range_4 passes_5 (in_4 s h)

pub small_1 : (s : ExpState) → IsStart s → (k : ℕ) → k < 3 → IsSmall 62 (exp_turn (0 + k) (turns_from doubling_turn 0 k s))
small_1 s h = run_small 0 3 s range_0 passes_1 (in_0 s h)

pub small_2 : (s : ExpState) → IsStart s → IsSmall 63 (state_2 s)
small_2 s h = IsSmall-range 63 (state_2 s) range_2 passes_2 (in_2 s h)

pub small_3 : (s : ExpState) → IsStart s → (k : ℕ) → k < 9 → IsSmall 62 (exp_turn (3 + k) (turns_from doubling_turn 3 k (state_2 s)))
small_3 s h = run_small 3 9 (state_2 s) range_2 passes_3 (in_2 s h)

pub small_4 : (s : ExpState) → IsStart s → IsSmall 63 (state_4 s)
small_4 s h = IsSmall-range 63 (state_4 s) range_4 passes_4 (in_4 s h)

pub small_5 : (s : ExpState) → IsStart s → (k : ℕ) → k < 20 → IsSmall 62 (exp_turn (12 + k) (turns_from doubling_turn 12 k (state_4 s)))
small_5 s h = run_small 12 20 (state_4 s) range_4 passes_5 (in_4 s h)

bounds_5 : (nat_le (2 ^ 59) range_5.low && (nat_le range_5.under 0x5C8A_0000_0000_0000 && nat_le range_5.over 0x5C8A_0000_0000_0000)) ≡ true
unfolding range_5 range_4 range_3 range_2 range_1 turns_from angle_of
bounds_5 = refl

pub runs_value : (s : ExpState) → IsStart s → pos (2 ^ 59) ≤ℤ (state_5 s).value
runs_value s h =
    let all = bounds_5 in
    let parts = and_parts (nat_le (2 ^ 59) range_5.low) (nat_le range_5.under 0x5C8A_0000_0000_0000 && nat_le range_5.over 0x5C8A_0000_0000_0000) bounds_5 in
    let low : 2 ^ 59 ≤ range_5.low = leb-true _ _ parts.0 in
    let within = in_5 s h in
    let least = within.low in
    rw within.value_is (omega (arith, ints))

pub runs_left : (s : ExpState) → IsStart s → HasLittleLeft (state_5 s)
runs_left s h =
    let parts = and_parts (nat_le (2 ^ 59) range_5.low) (nat_le range_5.under 0x5C8A_0000_0000_0000 && nat_le range_5.over 0x5C8A_0000_0000_0000) bounds_5 in
    let sides = and_parts (nat_le range_5.under 0x5C8A_0000_0000_0000) (nat_le range_5.over 0x5C8A_0000_0000_0000) parts.1 in
    let under : range_5.under ≤ 0x5C8A_0000_0000_0000 = leb-true _ _ sides.0 in
    let over : range_5.over ≤ 0x5C8A_0000_0000_0000 = leb-true _ _ sides.1 in
    let within = in_5 s h in
    let a = within.left.above in
    let b = within.left.below in
    record { low = omega (arith, ints); high = omega (arith, ints) }

-- ---- the runs of the low bits

-- the low bits lie within spread of 0, and what is left of the logarithm from -under to over
pub record LowRange : Type 0 where
  pub spread : ℕ
  pub under : ℕ
  pub over : ℕ

pub record InLowRange (s : ExpState) (r : LowRange) : Type 0 where
  pub above : pos 0 ≤ℤ (s.value +ℤ pos r.spread)
  pub below : s.value ≤ℤ pos r.spread
  pub left : InLeft s.left r.under r.over

abbrev pub low_range : ℕ → LowRange → LowRange
low_range i r = record {
  spread = r.spread + 2 ^ 63 / 2 ^ i;
  under = next_under (angle_of i) r.under;
  over = next_over (angle_of i) r.over;
}

abbrev pub doubling_low_range : ℕ → LowRange → LowRange
doubling_low_range i r =
    let next = low_range i r in
    record { spread = next.spread; under = 2 * next.under; over = 2 * next.over }

abbrev pub is_small_low_range : ℕ → LowRange → Bool
is_small_low_range bits r = nat_lt r.spread (2 ^ 63) && (nat_le r.under (2 ^ bits) && nat_lt r.over (2 ^ bits))

IsSmall-low_range : (bits : ℕ) (s : ExpState) (r : LowRange) → is_small_low_range bits r ≡ true → InLowRange s r → IsSmall bits s
IsSmall-low_range bits s r small h =
    let p = and_parts (nat_lt r.spread (2 ^ 63)) (nat_le r.under (2 ^ bits) && nat_lt r.over (2 ^ bits)) small in
    let q = and_parts (nat_le r.under (2 ^ bits)) (nat_lt r.over (2 ^ bits)) p.1 in
    let spread : r.spread < 2 ^ 63 = ltb-true _ _ p.0 in
    let under : r.under ≤ 2 ^ bits = leb-true _ _ q.0 in
    let over : r.over < 2 ^ bits = ltb-true _ _ q.1 in
    let positive : 0 < 2 ^ bits = pow_pos bits in
    let above = h.above in
    let below = h.below in
    let a = h.left.above in
    let b = h.left.below in
    record {
      value_low = omega (arith, ints);
      value_high = omega (arith, ints);
      left_low = omega (arith, ints);
      left_high = omega (arith, ints);
    }

low_turn_in : (high i : ℕ) (s : ExpState) (r : LowRange) → high ≤ 2 ^ 63 → InLowRange s r → InLowRange (low_turn (pos high) i s) (low_range i r)
low_turn_in high i s r fits h =
    let next = spread_turn (is_negative s.left) s.value (high / 2 ^ i) (2 ^ 63 / 2 ^ i) r.spread (div_mono high (2 ^ 63) (2 ^ i) (pow_pos i) fits) h.above h.below in
    record { above = next.0; below = next.1; left = left_turn s.left (angle_of i) r.under r.over h.left }

abbrev can_double_low : ℕ → LowRange → Bool
can_double_low i r = is_small_low_range 62 (low_range i r)

doubling_low_in : (high : ℕ) → high ≤ 2 ^ 63 → (i : ℕ) (s : ExpState) (r : LowRange) → can_double_low i r ≡ true → InLowRange s r
    → InLowRange (doubling_low_turn (pos high) i s) (doubling_low_range i r)
doubling_low_in high fits i s r test h =
    let next = low_turn_in high i s r fits h in
    let a = next.left.above in
    let b = next.left.below in
    record { above = next.above; below = next.below; left = record { above = omega (arith, ints); below = omega (arith, ints) } }

doubling_low_small : (high : ℕ) → high ≤ 2 ^ 63 → (i : ℕ) (s : ExpState) (r : LowRange) → can_double_low i r ≡ true → InLowRange s r
    → IsSmall 62 (low_turn (pos high) i s)
doubling_low_small high fits i s r test h = IsSmall-low_range 62 (low_turn (pos high) i s) (low_range i r) test (low_turn_in high i s r fits h)

abbrev low_range_0 : LowRange
low_range_0 = record { spread = 0; under = 0x5C8A_0000_0000_0001; over = 0x5C8A_0000_0000_0000 }

unfoldable low_range_1 : LowRange
low_range_1 = turns_from doubling_low_range 32 7 low_range_0

unfoldable low_range_2 : LowRange
low_range_2 = low_range 39 low_range_1

unfoldable low_range_3 : LowRange
low_range_3 = turns_from doubling_low_range 39 22 low_range_2

abbrev pub low_state_1 : ℤ → ExpState → ExpState
low_state_1 high s = turns_from (doubling_low_turn high) 32 7 s

abbrev pub low_state_2 : ℤ → ExpState → ExpState
low_state_2 high s = low_turn high 39 (low_state_1 high s)

abbrev pub low_state_3 : ℤ → ExpState → ExpState
low_state_3 high s = turns_from (doubling_low_turn high) 39 22 (low_state_2 high s)

low_passes_1 : all_pass can_double_low doubling_low_range 32 7 low_range_0 ≡ true
unfolding all_pass turns_from angle_of
low_passes_1 = refl

low_passes_2 : is_small_low_range 63 low_range_2 ≡ true
unfolding low_range_2 low_range_1 turns_from angle_of
low_passes_2 = refl

low_passes_3 : all_pass can_double_low doubling_low_range 39 22 low_range_2 ≡ true
unfolding low_range_2 low_range_1 all_pass turns_from angle_of
low_passes_3 = refl

low_bounds_3 : nat_le low_range_3.spread (2 ^ 33) ≡ true
unfolding low_range_3 low_range_2 low_range_1 turns_from angle_of
low_bounds_3 = refl

low_in_0 : (s : ExpState) → s.value ≡ pos 0 → HasLittleLeft s → InLowRange s low_range_0
low_in_0 s zero_value h =
    let low = h.low in
    let high = h.high in
    record { above = rw zero_value (omega (arith, ints)); below = rw zero_value (omega (arith, ints)); left = record { above = omega (arith, ints); below = omega (arith, ints) } }

low_in_1 : (high : ℕ) (s : ExpState) → high ≤ 2 ^ 63 → s.value ≡ pos 0 → HasLittleLeft s → InLowRange (low_state_1 (pos high) s) low_range_1
unfolding low_range_1
low_in_1 high s fits z h =
    run_in (doubling_low_turn (pos high)) doubling_low_range can_double_low InLowRange (doubling_low_in high fits) 32 7 s low_range_0 low_passes_1 (low_in_0 s z h)

low_in_2 : (high : ℕ) (s : ExpState) → high ≤ 2 ^ 63 → s.value ≡ pos 0 → HasLittleLeft s → InLowRange (low_state_2 (pos high) s) low_range_2
unfolding low_range_2
low_in_2 high s fits z h = low_turn_in high 39 (low_state_1 (pos high) s) low_range_1 fits (low_in_1 high s fits z h)

low_in_3 : (high : ℕ) (s : ExpState) → high ≤ 2 ^ 63 → s.value ≡ pos 0 → HasLittleLeft s → InLowRange (low_state_3 (pos high) s) low_range_3
unfolding low_range_3
low_in_3 high s fits z h =
    run_in (doubling_low_turn (pos high)) doubling_low_range can_double_low InLowRange (doubling_low_in high fits) 39 22 (low_state_2 (pos high) s) low_range_2 low_passes_3 (low_in_2 high s fits z h)

low_small_1' : (high : ℕ) (s : ExpState) → high ≤ 2 ^ 63 → s.value ≡ pos 0 → HasLittleLeft s
    → (k : ℕ) → k < 7 → IsSmall 62 (low_turn (pos high) (32 + k) (turns_from (doubling_low_turn (pos high)) 32 k s))
low_small_1' high s fits z h =
    run_each (doubling_low_turn (pos high)) doubling_low_range can_double_low InLowRange (λ i t. IsSmall 62 (low_turn (pos high) i t))
    (doubling_low_in high fits) (doubling_low_small high fits) 32 7 s low_range_0 low_passes_1 (low_in_0 s z h)

low_small_2' : (high : ℕ) (s : ExpState) → high ≤ 2 ^ 63 → s.value ≡ pos 0 → HasLittleLeft s → IsSmall 63 (low_state_2 (pos high) s)
low_small_2' high s fits z h = IsSmall-low_range 63 (low_state_2 (pos high) s) low_range_2 low_passes_2 (low_in_2 high s fits z h)

low_small_3' : (high : ℕ) (s : ExpState) → high ≤ 2 ^ 63 → s.value ≡ pos 0 → HasLittleLeft s
    → (k : ℕ) → k < 22 → IsSmall 62 (low_turn (pos high) (39 + k) (turns_from (doubling_low_turn (pos high)) 39 k (low_state_2 (pos high) s)))
low_small_3' high s fits z h =
    run_each (doubling_low_turn (pos high)) doubling_low_range can_double_low InLowRange (λ i t. IsSmall 62 (low_turn (pos high) i t))
    (doubling_low_in high fits) (doubling_low_small high fits) 39 22 (low_state_2 (pos high) s) low_range_2 low_passes_3 (low_in_2 high s fits z h)

-- the high bits, as the turns of the low ones take them
pub record IsHigh (high : ℤ) : Type 0 where
  pub low : pos 0 ≤ℤ high
  pub fits : high <ℤ pos (2 ^ 63)

pub high_from : (high : ℤ) → FitsSigned w64 high → pos 0 ≤ℤ high → IsHigh high
high_from high fits low = record { low = low; fits = omega (arith, ints) }

-- room for a doubling is more than a fit
pub with_room : (s : ExpState) → IsSmall 62 s → IsSmall 63 s
with_room s h =
    let low = h.left_low in
    let high = h.left_high in
    record { value_low = h.value_low; value_high = h.value_high; left_low = omega (arith, ints); left_high = omega (arith, ints) }

pub low_small_1 : (high : ℤ) (s : ExpState) → IsHigh high → s.value ≡ pos 0 → HasLittleLeft s
    → (k : ℕ) → k < 7 → IsSmall 62 (low_turn high (32 + k) (turns_from (doubling_low_turn high) 32 k s))
low_small_1 (pos high) s h z left = let fits = h.fits in low_small_1' high s (omega (arith, ints)) z left
low_small_1 (negsuc n) s h z left = absurd h.low.le

pub low_small_2 : (high : ℤ) (s : ExpState) → IsHigh high → s.value ≡ pos 0 → HasLittleLeft s → IsSmall 63 (low_state_2 high s)
low_small_2 (pos high) s h z left = let fits = h.fits in low_small_2' high s (omega (arith, ints)) z left
low_small_2 (negsuc n) s h z left = absurd h.low.le

pub low_small_3 : (high : ℤ) (s : ExpState) → IsHigh high → s.value ≡ pos 0 → HasLittleLeft s
    → (k : ℕ) → k < 22 → IsSmall 62 (low_turn high (39 + k) (turns_from (doubling_low_turn high) 39 k (low_state_2 high s)))
low_small_3 (pos high) s h z left = let fits = h.fits in low_small_3' high s (omega (arith, ints)) z left
low_small_3 (negsuc n) s h z left = absurd h.low.le

pub low_within : (high : ℤ) (s : ExpState) → IsHigh high → s.value ≡ pos 0 → HasLittleLeft s
    → (negsuc (2 ^ 33 - 1) ≤ℤ (low_state_3 high s).value) × ((low_state_3 high s).value ≤ℤ pos (2 ^ 33))
low_within (pos high) s h z left =
    let fits = h.fits in
    let within = low_in_3 high s (omega (arith, ints)) z left in
    let spread : low_range_3.spread ≤ 2 ^ 33 = leb-true _ _ low_bounds_3 in
    let a = within.above in
    let b = within.below in
    (omega (arith, ints), omega (arith, ints))
low_within (negsuc n) s h z left = absurd h.low.le
