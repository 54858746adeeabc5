-- The bytes of a frame's metrics, by their positions.
use Rattle.std.specs.Prelude.{◌≡◌, ℕ, ◌%◌, ◌^◌, ◌≤◌, nat_le, List, length}
use Rattle.pass_stats.specs.Bytes.{u32_at, i32_at}
use Rattle.pass_stats.specs.declared.metrics.RCFrameMetrics.{RCFrameMetrics}

-- the low 31 bits of the first number
abbrev pub subtype_at : List ℕ → ℕ
subtype_at bytes = u32_at bytes 0 % 2 ^ 31

-- 8 bytes that stand for these metrics
pub record Metric (bytes : List ℕ) (m : RCFrameMetrics) : Type 0 where
  pub size : length bytes ≡ 8
  pub subtype : m.fti ≡ subtype_at bytes
  pub subtype_fits : m.fti ≤ 4
  pub shown : m.show_frame ≡ nat_le (2 ^ 31) (u32_at bytes 0)
  pub log_scale : m.log_scale_q24 ≡ i32_at bytes 4
