-- The metrics that a second pass looks at: those before the last key frame, where a key frame is held past the first metric.
use Rattle.std.specs.Prelude.{◌==◌, Bool, List, [], ◌∷◌, length, drop, if◌then◌else◌}
use Rattle.std.specs.List.{list_any}
use Rattle.pass_stats.specs.declared.metrics.RCFrameMetrics.{RCFrameMetrics}

abbrev pub is_key : RCFrameMetrics → Bool
is_key m = m.fti == 0

abbrev pub any_key : List RCFrameMetrics → Bool
any_key metrics = list_any is_key metrics

-- all metrics before the last key frame; all, where there is none
unfoldable pub before_key : List RCFrameMetrics → List RCFrameMetrics
before_key [] = []
before_key (m ∷ ms) = if any_key ms then m ∷ before_key ms else (if is_key m then [] else m ∷ ms)

-- the first metric always stays
unfoldable pub before_last_key : List RCFrameMetrics → List RCFrameMetrics
before_last_key [] = []
before_last_key (m ∷ ms) = m ∷ before_key ms

abbrev pub from_last_key : List RCFrameMetrics → List RCFrameMetrics
from_last_key metrics = drop (length (before_last_key metrics)) metrics
