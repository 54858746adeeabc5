-- A window, and a whole file's tally, over time.
use Rattle.std.specs.Prelude.{ℕ, suc, ◌+◌, ◌-◌, ◌*◌, ◌<◌, ◌≤◌, ◌^◌, List, [], ◌∷◌, length, Option, Some, None, ℤ, pos, negsuc, ◌+ℤ◌, ◌≤ℤ◌}
use Rattle.fixed_log.specs.Within.{IsWithin}
use Rattle.pass_stats.specs.declared.metrics.RCFrameMetrics.{RCFrameMetrics}
use Rattle.metrics_window.specs.Tallies.{FAR}
use Rattle.metrics_window.specs.Window.{Window, with_taken, without_first}

-- metrics are taken, or a frame is coded, which lets go of the oldest metrics
abbrev pub after_moves : Window → List (Option RCFrameMetrics) → Window
after_moves w [] = w
after_moves w (Some m ∷ moves) = after_moves (with_taken m w) moves
after_moves w (None ∷ moves) = after_moves (without_first w) moves

abbrev pub accepted : List (Option RCFrameMetrics) → List RCFrameMetrics
accepted [] = []
accepted (Some m ∷ moves) = m ∷ accepted moves
accepted (None ∷ moves) = accepted moves

abbrev pub coded : List (Option RCFrameMetrics) → ℕ
coded [] = 0
coded (Some m ∷ moves) = coded moves
coded (None ∷ moves) = suc (coded moves)

-- no frame is coded whose metrics aren't held
abbrev pub AreHeld : Window → List (Option RCFrameMetrics) → Type 0
AreHeld w [] = Unit {0}
AreHeld w (Some m ∷ moves) = AreHeld (with_taken m w) moves
AreHeld w (None ∷ moves) = (0 < length w.held) × AreHeld (without_first w) moves

-- a count stays one of 32 bits while so many metrics are taken off
pub record HasCountRoom (count : ℤ) (metrics : ℕ) : Type 0 where
  pub low : (negsuc (2 ^ 31 - 1) +ℤ pos metrics) ≤ℤ count
  pub high : count ≤ℤ pos (2 ^ 31 - 1)

-- a sum stays nearer to 0 than it can get
pub record HasSumRoom (sum : ℤ) (metrics : ℕ) : Type 0 where
  pub span : ℕ
  pub within : IsWithin span sum
  pub room : span + 2 ^ 63 * metrics ≤ FAR
