-- The window of metrics, as contracts see it.
use Rattle.std.specs.Prelude.{◌≡◌, ℕ, ◌≤◌, ◌^◌, ◌++◌, List, [], ◌∷◌, length, drop}
use Rattle.pass_stats.specs.declared.metrics.RCFrameMetrics.{RCFrameMetrics}
use Rattle.metrics_window.specs.declared.tally.Tally.{Tally}
use Rattle.metrics_window.specs.Tallies.{tally_of}

-- the metrics held, the oldest first, and how many there is room for
pub record Window : Type 0 where
  pub held : List RCFrameMetrics
  pub capacity : ℕ

-- all subtypes are known: 0 to 3, and 4 for the show of a coded frame
abbrev pub AllKnown : List RCFrameMetrics → Type 0
AllKnown [] = Unit {0}
AllKnown (m ∷ ms) = (m.fti ≤ 4) × AllKnown ms

-- what the code keeps: its tally is that of the metrics held, and `room` is what it took memory for
pub record IsWindow (held : List RCFrameMetrics) (capacity : ℕ) (room : ℕ) (tally : Tally) : Type 0 where
  pub tally_is : tally ≡ tally_of held
  pub known : AllKnown held
  pub fits : length held ≤ capacity
  pub taken : capacity ≤ room
  pub small : capacity ≤ 2 ^ 19

abbrev pub with_taken : RCFrameMetrics → Window → Window
with_taken m w = record w { held = w.held ++ m ∷ [] }

abbrev pub without_first : Window → Window
without_first w = record w { held = drop 1 w.held }
