-- What a first pass emitted.
use Rattle.std.specs.Prelude.{◌≤◌, nat_lt, Bool, true, List, slice_set, Option, Some, None, IfSome, IsFalse, ℤ, pos, ◌+ℤ◌, if◌then◌else◌}
use Rattle.std.specs.Int.{saturate_signed, w32, w64}
use Rattle.pass_stats.specs.Grammar.{any_negative}
use Rattle.pass_stats.specs.declared.metrics.RCFrameMetrics.{RCFrameMetrics}
use Rattle.metrics_window.specs.Tallies.{number_at, scale_of}

pub record Emitted : Type 0 where
  -- of the metrics that were taken: the sums of their scales, without shows of coded frames, and the shown frames
  pub sums : List ℤ
  pub tus : ℤ
  -- the last frame's metrics, while they aren't taken
  pub waiting : Option RCFrameMetrics
  pub is_summed_up : Bool

-- what the code keeps
pub record IsEmitted (scales : List ℤ) (last : Option RCFrameMetrics) : Type 0 where
  pub sums : IsFalse (any_negative scales)
  pub waiting : IfSome last (λ m. m.fti ≤ 4)

-- sums stop at the end of 64 bits, and the shown count at that of 32 bits
abbrev pub sums_with : RCFrameMetrics → List ℤ → List ℤ
sums_with m sums =
    if nat_lt m.fti 4 then slice_set sums m.fti (saturate_signed w64 (number_at sums m.fti +ℤ scale_of m))
    else sums

abbrev pub shown_with : RCFrameMetrics → ℤ → ℤ
shown_with m tus = if m.show_frame then saturate_signed w32 (tus +ℤ pos 1) else tus

-- the waiting metrics are taken
abbrev pub emitted_by : Option RCFrameMetrics → Emitted → Emitted
emitted_by None e = e
emitted_by (Some m) e =
    record e { sums = sums_with m e.sums; tus = shown_with m e.tus; waiting = None }

unfoldable pub with_frame_emitted : Emitted → Emitted
with_frame_emitted e = emitted_by e.waiting e

abbrev pub with_waiting : RCFrameMetrics → Emitted → Emitted
with_waiting m e = record e { waiting = Some m }

abbrev pub summed_up : Emitted → Emitted
summed_up e = record e { is_summed_up = true }
