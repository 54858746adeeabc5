-- A signed number in a range, and what a step leaves of it.
use Rattle.std.proofs.Common.{◌≡◌, ℕ, suc, ◌+◌, ◌-◌, ◌≤◌, max, Bool, true, false, arith, ℤ, pos, negsuc, ◌+ℤ◌, ◌-ℤ◌, ◌≤ℤ◌}
use Rattle.std.specs.Prelude.{not}
use Rattle.std.specs.Int.{is_negative}
use Rattle.std.proofs.lemmas.Bool.{le-ltb}
use Rattle.std.proofs.lemmas.Int.{ints}
use Rattle.fixed_log.specs.Table.{stepped}

-- from -under to over
pub record InLeft (left : ℤ) (under over : ℕ) : Type 0 where
  pub above : pos 0 ≤ℤ (left +ℤ pos under)
  pub below : left ≤ℤ pos over

abbrev pub next_under : ℕ → ℕ → ℕ
next_under angle under = max angle (under - angle)

abbrev pub next_over : ℕ → ℕ → ℕ
next_over angle over = max (over - angle) (angle - 1)

left_falls : (n angle under over : ℕ) → n ≤ over → InLeft (pos n -ℤ pos angle) (next_under angle under) (next_over angle over)
left_falls n angle under over h = record { above = omega (arith, ints); below = omega (arith, ints) }

left_grows : (n angle under over : ℕ) → suc n ≤ under → InLeft (negsuc n +ℤ pos angle) (next_under angle under) (next_over angle over)
left_grows n angle under over h = record { above = omega (arith, ints); below = omega (arith, ints) }

-- a step by the angle towards 0
pub left_turn : (left : ℤ) (angle under over : ℕ) → InLeft left under over → InLeft (stepped (not (is_negative left)) left (pos angle)) (next_under angle under) (next_over angle over)
left_turn (pos n) angle under over h =
    let e : is_negative (pos n) ≡ false = le-ltb n 0 (omega arith) in
    let most = h.below in
    rw e (left_falls n angle under over (omega (arith, ints)))
left_turn (negsuc n) angle under over h =
    let least = h.above in
    left_grows n angle under over (omega (arith, ints))

-- a step either way
pub spread_turn : (back : Bool) (value : ℤ) (gain most spread : ℕ) → gain ≤ most → pos 0 ≤ℤ (value +ℤ pos spread) → value ≤ℤ pos spread
    → (pos 0 ≤ℤ (stepped back value (pos gain) +ℤ pos (spread + most))) × (stepped back value (pos gain) ≤ℤ pos (spread + most))
spread_turn true value gain most spread g a b = (omega (arith, ints), omega (arith, ints))
spread_turn false value gain most spread g a b = (omega (arith, ints), omega (arith, ints))
