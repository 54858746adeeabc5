-- The rate state after a frame.
use Rattle.std.specs.Prelude.{ℕ, ◌-◌, ◌^◌, nat_lt, Bool, not, ◌&&◌, slice_set, ℤ, pos, negsuc, ◌+ℤ◌, ◌-ℤ◌, int_lt, if◌then◌else◌}
use Rattle.std.specs.Ordering.{int_eq}
use Rattle.rate_model.specs.Measure.{Entry, grown, LAST_I32, estimate_of, scale_of, subtype_after}
use Rattle.rate_model.specs.Subtype.{SubtypeRate, subtype_at}
use Rattle.fixed_log.specs.Conversion.{q57_to_q24}
use Rattle.pass_stats.specs.declared.metrics.RCFrameMetrics.{RCFrameMetrics}
use Rattle.pass_data.specs.Emitted.{with_waiting}
use Rattle.pass_data.specs.Given.{coded}
use Rattle.reservoir.specs.Moves.{LAST_COUNT, not_far, reservoir_after, coded_after}
use Rattle.ratecontrol.specs.Rate.{Rate}
use Rattle.rate_model.specs.Search.{power_log}

-- ---- the reservoir and the bias

abbrev pub charged : ℤ → ℤ → Bool → Rate → Rate
charged estimate bits shown rate = record rate {
  reservoir = not_far (reservoir_after rate.bits_per_tu rate.most bits shown rate.reservoir);
  bias = not_far (rate.bias +ℤ (estimate -ℤ bits));
}

-- ---- the state after a frame

-- what was to be expected of a frame, from its subtype before it; nothing of one without bits
abbrev pub expected : ℤ → SubtypeRate → Entry → ℤ
expected log_npixels s e =
    if int_lt (pos 0) e.bits then estimate_of log_npixels s.log_scale (power_log e.log_target s.exponent) else pos 0

abbrev pub estimate : Rate → Entry → ℤ
estimate rate e = expected rate.log_npixels (subtype_at rate.subtypes e.subtype) e

abbrev pub with_subtype : Entry → Rate → Rate
with_subtype e rate = record rate {
  subtypes = slice_set rate.subtypes e.subtype (subtype_after rate.log_npixels rate.delay_target e (subtype_at rate.subtypes e.subtype));
  coded = coded_after e.bits e.trial rate.coded;
}

unfoldable pub after_frame : Entry → Rate → Rate
after_frame e rate =
    if e.trial then with_subtype e rate else charged (estimate rate e) e.bits e.shown (with_subtype e rate)

-- what the show of a coded frame is expected to take
abbrev pub SHOW_BITS : ℕ
SHOW_BITS = 24

unfoldable pub after_show : Entry → Rate → Rate
after_show e rate =
    charged (pos SHOW_BITS) e.bits e.shown (record rate { shown_again = grown LAST_COUNT rate.shown_again; shows = grown LAST_I32 rate.shows })

abbrev pub after : Entry → Rate → Rate
after e rate = if nat_lt e.subtype 4 then after_frame e rate else after_show e rate

-- ---- what the passes hand on

-- the scale that a frame shows; the least number of 64 bits for shows, and for frames without bits
abbrev pub scale_shown : Entry → Rate → ℤ
scale_shown e rate =
    if nat_lt e.subtype 4 && int_lt (pos 0) e.bits
    then
    scale_of rate.log_npixels e.bits (power_log e.log_target (subtype_at rate.subtypes e.subtype).exponent)
    else negsuc (2 ^ 63 - 1)

abbrev pub frame_data : Entry → Rate → RCFrameMetrics
frame_data e rate =
    record { log_scale_q24 = q57_to_q24 (scale_shown e rate); fti = e.subtype; show_frame = e.shown }

-- a first pass emits the frame's data, that of a trial too; in a second pass a frame that isn't a trial uses its metrics up
abbrev pub with_frame_data : RCFrameMetrics → Bool → Rate → Rate
with_frame_data m trial rate = record rate {
  given = if rate.second && not trial then coded rate.given else rate.given;
  emitted = if rate.first then with_waiting m rate.emitted else rate.emitted;
}

abbrev pub after_with_data : Entry → Rate → Rate
after_with_data e rate = with_frame_data (frame_data e rate) e.trial (after e rate)

-- without a bitrate nothing is kept
abbrev pub update : Entry → Rate → Rate
update e rate = if int_lt (pos 0) rate.bitrate then after_with_data e rate else rate

-- a coded frame without bits is dropped
abbrev pub is_dropped : Entry → Rate → Bool
is_dropped e rate = int_lt (pos 0) rate.bitrate && (nat_lt e.subtype 4 && int_eq e.bits (pos 0))
