-- The ranges that the logarithm's turns keep their state in, computed turn by turn.
use Rattle.std.proofs.Common.{◌≡◌, ℕ, suc, ◌+◌, ◌-◌, ◌*◌, ◌/◌, ◌^◌, ◌<◌, ◌≤◌, max, Bool, true, false, ◌&&◌, nat_lt, nat_le, refl, arith, ℤ, pos, negsuc, ◌+ℤ◌, ◌-ℤ◌, ◌≤ℤ◌, ◌<ℤ◌}
use Rattle.std.specs.Prelude.{not}
use Rattle.std.specs.Int.{is_negative}
use Rattle.std.specs.Int.Signed.{shr_z}
use Rattle.std.proofs.lemmas.Bool.{and_parts, ltb-true, leb-true, le-ltb}
use Rattle.std.proofs.lemmas.Int.{ints}
use Rattle.std.proofs.lemmas.Nat.{pow_pos}
use Rattle.fixed_log.specs.Table.{angle_of, turns_from, stepped}
use Rattle.fixed_log.specs.Logarithm.{LogState, log_turn, IsFit, IsLogStart}
use Rattle.fixed_log.proofs.Quotients.{div_mono}
use Rattle.fixed_log.proofs.Ranges.{InLeft, spread_turn}
use Rattle.fixed_log.proofs.Turns.{all_pass, run_in, run_each}

-- cosh lies from low to high, sinh from -under to over, and the logarithm within spread of 0
pub record LogRange : Type 0 where
  pub low : ℕ
  pub high : ℕ
  pub under : ℕ
  pub over : ℕ
  pub spread : ℕ

pub record InLogRange (s : LogState) (r : LogRange) : Type 0 where
  pub cosh : ℕ
  pub cosh_is : s.cosh ≡ pos cosh
  pub low : r.low ≤ cosh
  pub high : cosh ≤ r.high
  pub sinh : InLeft s.sinh r.under r.over
  pub above : pos 0 ≤ℤ (s.log +ℤ pos r.spread)
  pub below : s.log ≤ℤ pos r.spread

-- the most that cosh falls by in a turn that shifts by m
abbrev pub most_drop : ℕ → LogRange → ℕ
most_drop m r = max (r.over / m) (r.under / m + 1)

abbrev pub log_range : ℕ → LogRange → LogRange
log_range i r = record {
  low = r.low - most_drop (2 ^ (i + 1)) r;
  high = r.high;
  under = max (r.high / 2 ^ (i + 1)) (r.under - r.low / 2 ^ (i + 1));
  over = max (r.over - r.low / 2 ^ (i + 1)) (r.high / 2 ^ (i + 1) - 1);
  spread = r.spread + angle_of i / 2 ^ i;
}

-- the range fits an i64
abbrev pub is_fit_range : LogRange → Bool
is_fit_range r = nat_lt r.high (2 ^ 63) && (nat_lt r.under (2 ^ 63) && (nat_lt r.over (2 ^ 63) && nat_lt r.spread (2 ^ 63)))

-- cosh stays positive in turn i, and the state fits after it
abbrev pub can_turn : ℕ → LogRange → Bool
can_turn i r = nat_le (most_drop (2 ^ (i + 1)) r) r.low && is_fit_range (log_range i r)

-- cosh and sinh after a turn that shifts by m, where c is cosh
pub record Rotated (cosh sinh : ℤ) (m : ℕ) (r : LogRange) : Type 0 where
  pub next : ℕ
  pub next_is : cosh ≡ pos next
  pub low : r.low - most_drop m r ≤ next
  pub high : next ≤ r.high
  pub above : pos 0 ≤ℤ (sinh +ℤ pos (max (r.high / m) (r.under - r.low / m)))
  pub below : sinh ≤ℤ pos (max (r.over - r.low / m) (r.high / m - 1))

rotated_on : (n c m : ℕ) (r : LogRange) → 0 < m → most_drop m r ≤ r.low → r.low ≤ c → c ≤ r.high → n ≤ r.over
    → Rotated (pos c -ℤ pos (n / m)) (pos n -ℤ pos (c / m)) m r
rotated_on n c m r p room low high h =
    let a = div_mono n r.over m p h in
    let b = div_mono c r.high m p high in
    let d = div_mono r.low c m p low in
    record { next = c - n / m; next_is = omega (arith, ints); low = omega arith; high = omega arith; above = omega (arith, ints); below = omega (arith, ints) }

rotated_back : (n c m : ℕ) (r : LogRange) → 0 < m → most_drop m r ≤ r.low → r.low ≤ c → c ≤ r.high → suc n ≤ r.under
    → Rotated (pos c +ℤ negsuc (n / m)) (negsuc n +ℤ pos (c / m)) m r
rotated_back n c m r p room low high h =
    let less : n ≤ r.under = omega arith in
    let a = div_mono n r.under m p less in
    let b = div_mono c r.high m p high in
    let d = div_mono r.low c m p low in
    record { next = c - (n / m + 1); next_is = omega (arith, ints); low = omega arith; high = omega arith; above = omega (arith, ints); below = omega (arith, ints) }

rotated : (sinh : ℤ) (c m : ℕ) (r : LogRange) → 0 < m → most_drop m r ≤ r.low → r.low ≤ c → c ≤ r.high → InLeft sinh r.under r.over
    → Rotated (stepped (not (is_negative sinh)) (pos c) (shr_z sinh m)) (stepped (not (is_negative sinh)) sinh (pos (c / m))) m r
rotated (pos n) c m r p room low high h =
    let e : is_negative (pos n) ≡ false = le-ltb n 0 (omega arith) in
    let most = h.below in
    rw e (rotated_on n c m r p room low high (omega (arith, ints)))
rotated (negsuc n) c m r p room low high h =
    let least = h.above in
    rotated_back n c m r p room low high (omega (arith, ints))

pub log_turn_in : (i : ℕ) (s : LogState) (r : LogRange) → can_turn i r ≡ true → InLogRange s r → InLogRange (log_turn i s) (log_range i r)
log_turn_in i s r test h =
    let parts = and_parts (nat_le (most_drop (2 ^ (i + 1)) r) r.low) (is_fit_range (log_range i r)) test in
    let room : most_drop (2 ^ (i + 1)) r ≤ r.low = leb-true _ _ parts.0 in
    let turned = rotated s.sinh h.cosh (2 ^ (i + 1)) r (pow_pos (i + 1)) room h.low h.high h.sinh in
    let log = spread_turn (is_negative s.sinh) s.log (angle_of i / 2 ^ i) (angle_of i / 2 ^ i) r.spread (omega arith) h.above h.below in
    record {
      cosh = turned.next;
      cosh_is = rw h.cosh_is turned.next_is;
      low = turned.low;
      high = turned.high;
      sinh = rw h.cosh_is (record { above = turned.above; below = turned.below });
      above = log.0;
      below = log.1;
    }

IsFit-range : (s : LogState) (r : LogRange) → is_fit_range r ≡ true → InLogRange s r → IsFit s
IsFit-range s r fit h =
    let p = and_parts (nat_lt r.high (2 ^ 63)) (nat_lt r.under (2 ^ 63) && (nat_lt r.over (2 ^ 63) && nat_lt r.spread (2 ^ 63))) fit in
    let q = and_parts (nat_lt r.under (2 ^ 63)) (nat_lt r.over (2 ^ 63) && nat_lt r.spread (2 ^ 63)) p.1 in
    let t = and_parts (nat_lt r.over (2 ^ 63)) (nat_lt r.spread (2 ^ 63)) q.1 in
    let high : r.high < 2 ^ 63 = ltb-true _ _ p.0 in
    let under : r.under < 2 ^ 63 = ltb-true _ _ q.0 in
    let over : r.over < 2 ^ 63 = ltb-true _ _ t.0 in
    let spread : r.spread < 2 ^ 63 = ltb-true _ _ t.1 in
    let is = h.cosh_is in
    let below = h.high in
    let a = h.sinh.above in
    let b = h.sinh.below in
    let d = h.above in
    let e = h.below in
    record { cosh = rw is (omega (arith, ints)); sinh = omega (arith, ints); log = omega (arith, ints) }

turn_fit : (i : ℕ) (s : LogState) (r : LogRange) → can_turn i r ≡ true → InLogRange s r → IsFit (log_turn i s)
turn_fit i s r test h =
    let parts = and_parts (nat_le (most_drop (2 ^ (i + 1)) r) r.low) (is_fit_range (log_range i r)) test in
    IsFit-range (log_turn i s) (log_range i r) parts.1 (log_turn_in i s r test h)

run_fit : (first count : ℕ) (s : LogState) (r : LogRange) → all_pass can_turn log_range first count r ≡ true → InLogRange s r
    → (k : ℕ) → k < count → IsFit (log_turn (first + k) (turns_from log_turn first k s))
run_fit first count s r pass h =
    run_each log_turn log_range can_turn InLogRange (λ i t. IsFit (log_turn i t)) log_turn_in turn_fit first count s r pass h

run_range : (first count : ℕ) (s : LogState) (r : LogRange) → all_pass can_turn log_range first count r ≡ true → InLogRange s r
    → InLogRange (turns_from log_turn first count s) (turns_from log_range first count r)
run_range first count s r pass h = run_in log_turn log_range can_turn InLogRange log_turn_in first count s r pass h

-- ---- the runs

abbrev range_0 : LogRange
range_0 = record { low = 2 ^ 62; high = 3 * 2 ^ 61 - 1; under = 0; over = 2 ^ 61 - 1; spread = 0 }

unfoldable range_1 : LogRange
range_1 = turns_from log_range 0 4 range_0

unfoldable range_2 : LogRange
range_2 = turns_from log_range 3 10 range_1

unfoldable range_3 : LogRange
range_3 = turns_from log_range 12 28 range_2

unfoldable range_4 : LogRange
range_4 = turns_from log_range 39 23 range_3

unfoldable range_short : LogRange
range_short = turns_from log_range 12 18 range_2

abbrev pub state_1 : LogState → LogState
state_1 s = turns_from log_turn 0 4 s

abbrev pub state_2 : LogState → LogState
state_2 s = turns_from log_turn 3 10 (state_1 s)

abbrev pub state_3 : LogState → LogState
state_3 s = turns_from log_turn 12 28 (state_2 s)

abbrev pub state_4 : LogState → LogState
state_4 s = turns_from log_turn 39 23 (state_3 s)

abbrev pub state_short : LogState → LogState
state_short s = turns_from log_turn 12 18 (state_2 s)

passes_1 : all_pass can_turn log_range 0 4 range_0 ≡ true
unfolding all_pass turns_from angle_of
passes_1 = refl

passes_2 : all_pass can_turn log_range 3 10 range_1 ≡ true
unfolding range_1 all_pass turns_from angle_of
passes_2 = refl

passes_3 : all_pass can_turn log_range 12 28 range_2 ≡ true
unfolding range_2 range_1 all_pass turns_from angle_of
passes_3 = refl

passes_4 : all_pass can_turn log_range 39 23 range_3 ≡ true
unfolding range_3 range_2 range_1 all_pass turns_from angle_of
passes_4 = refl

passes_short : all_pass can_turn log_range 12 18 range_2 ≡ true
unfolding range_2 range_1 all_pass turns_from angle_of
passes_short = refl

bound_4 : nat_le range_4.spread (7 * 2 ^ 60) ≡ true
unfolding range_4 range_3 range_2 range_1 turns_from angle_of
bound_4 = refl

bound_short : nat_le range_short.spread (7 * 2 ^ 60) ≡ true
unfolding range_short range_2 range_1 turns_from angle_of
bound_short = refl

in_0 : (s : LogState) → IsLogStart s → InLogRange s range_0
in_0 s h = start_in s.cosh s.sinh s.log h.cosh_low h.cosh_high h.sinh_low h.sinh_high h.log where
  start_in : (x y z : ℤ) → pos (2 ^ 62) ≤ℤ x → x <ℤ pos (3 * 2 ^ 61) → pos 0 ≤ℤ y → y <ℤ pos (2 ^ 61) → z ≡ pos 0 → InLogRange (record { cosh = x; sinh = y; log = z }) range_0
  start_in (pos x) y z a b d e f = record {
    cosh = x;
    cosh_is = refl;
    low = omega (arith, ints);
    high = omega (arith, ints);
    sinh = record { above = omega (arith, ints); below = omega (arith, ints) };
    above = rw f (omega (arith, ints));
    below = rw f (omega (arith, ints));
  }
  start_in (negsuc x) y z a b d e f = absurd a.le

in_1 : (s : LogState) → IsLogStart s → InLogRange (state_1 s) range_1
unfolding range_1
in_1 s h = run_range 0 4 s range_0 passes_1 (in_0 s h)

in_2 : (s : LogState) → IsLogStart s → InLogRange (state_2 s) range_2
unfolding range_2
in_2 s h = run_range 3 10 (state_1 s) range_1 passes_2 (in_1 s h)

in_3 : (s : LogState) → IsLogStart s → InLogRange (state_3 s) range_3
unfolding range_3
in_3 s h = run_range 12 28 (state_2 s) range_2 passes_3 (in_2 s h)

in_4 : (s : LogState) → IsLogStart s → InLogRange (state_4 s) range_4
unfolding range_4
in_4 s h = run_range 39 23 (state_3 s) range_3 passes_4 (in_3 s h)

in_short : (s : LogState) → IsLogStart s → InLogRange (state_short s) range_short
unfolding range_short
in_short s h = run_range 12 18 (state_2 s) range_2 passes_short (in_2 s h)

pub fit_1 : (s : LogState) → IsLogStart s → (k : ℕ) → k < 4 → IsFit (log_turn (0 + k) (turns_from log_turn 0 k s))
fit_1 s h = run_fit 0 4 s range_0 passes_1 (in_0 s h)

pub fit_2 : (s : LogState) → IsLogStart s → (k : ℕ) → k < 10 → IsFit (log_turn (3 + k) (turns_from log_turn 3 k (state_1 s)))
fit_2 s h = run_fit 3 10 (state_1 s) range_1 passes_2 (in_1 s h)

pub fit_3 : (s : LogState) → IsLogStart s → (k : ℕ) → k < 28 → IsFit (log_turn (12 + k) (turns_from log_turn 12 k (state_2 s)))
fit_3 s h = run_fit 12 28 (state_2 s) range_2 passes_3 (in_2 s h)

pub fit_4 : (s : LogState) → IsLogStart s → (k : ℕ) → k < 23 → IsFit (log_turn (39 + k) (turns_from log_turn 39 k (state_3 s)))
fit_4 s h = run_fit 39 23 (state_3 s) range_3 passes_4 (in_3 s h)

pub fit_short : (s : LogState) → IsLogStart s → (k : ℕ) → k < 18 → IsFit (log_turn (12 + k) (turns_from log_turn 12 k (state_2 s)))
fit_short s h = run_fit 12 18 (state_2 s) range_2 passes_short (in_2 s h)

pub within_4 : (s : LogState) → IsLogStart s → (negsuc (7 * 2 ^ 60 - 1) ≤ℤ (state_4 s).log) × ((state_4 s).log ≤ℤ pos (7 * 2 ^ 60))
within_4 s h =
    let spread : range_4.spread ≤ 7 * 2 ^ 60 = leb-true _ _ bound_4 in
    let within = in_4 s h in
    let a = within.above in
    let b = within.below in
    (omega (arith, ints), omega (arith, ints))

pub within_short : (s : LogState) → IsLogStart s → (negsuc (7 * 2 ^ 60 - 1) ≤ℤ (state_short s).log) × ((state_short s).log ≤ℤ pos (7 * 2 ^ 60))
within_short s h =
    let spread : range_short.spread ≤ 7 * 2 ^ 60 = leb-true _ _ bound_short in
    let within = in_short s h in
    let a = within.above in
    let b = within.below in
    (omega (arith, ints), omega (arith, ints))
