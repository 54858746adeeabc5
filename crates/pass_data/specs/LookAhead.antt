-- What a second pass sees of the frames ahead, as lists of metrics.
use Rattle.std.specs.Prelude.{ℕ, ◌==◌, Option, Some, None, ℤ, pos, ◌-ℤ◌, if◌then◌else◌}
use Rattle.std.specs.Int.{int_min}
use Rattle.pass_stats.specs.declared.metrics.RCFrameMetrics.{RCFrameMetrics}
use Rattle.metrics_window.specs.declared.tally.Tally.{Tally}
use Rattle.metrics_window.specs.Tallies.{tally_of, coded_frames, shown_of, less}
use Rattle.metrics_window.specs.Cut.{before_last_key, from_last_key}
use Rattle.pass_data.specs.Given.{Given, current}
use Rattle.pass_data.specs.declared.look_ahead.LookAhead.{LookAhead}

-- the frames that are looked at: of a window those before the last key frame past the first frame, and of a whole file all that are left
abbrev pub seen : Given → Tally
seen g = if g.is_finite then tally_of (before_last_key g.window.held) else g.left

-- the temporal units: those of the frames from that key frame on don't count
abbrev pub units_seen : ℤ → Given → ℤ
units_seen delay g =
    int_min delay g.left.shown
    -ℤ (if g.is_finite then shown_of (from_last_key g.window.held) else pos 0)

-- the frame that is coded now has metrics of its own subtype, or is none of those that are counted
abbrev pub scale_by : Option RCFrameMetrics → ℕ → Option ℤ
scale_by None subtype = None
scale_by (Some m) subtype = if m.fti == subtype then Some m.log_scale_q24 else None

abbrev pub counted_by : Option RCFrameMetrics → ℕ → Tally → Tally
counted_by None subtype t = t
counted_by (Some m) subtype t = if m.fti == subtype then t else less m t

unfoldable pub look_ahead : ℤ → ℕ → Given → LookAhead
look_ahead delay subtype g = record {
  nframes = (seen g).counts;
  frames = coded_frames (seen g);
  tus = units_seen delay g;
  counted = counted_by (current g) subtype (seen g);
  current = scale_by (current g) subtype;
}
