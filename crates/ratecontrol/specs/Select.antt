-- The quantiser of a frame, from the base that the search found.
use Rattle.std.specs.Prelude.{ℕ, ◌==◌, Option, Some, None, ℤ, pos, ◌+ℤ◌, int_lt, if◌then◌else◌}
use Rattle.std.specs.Int.{saturate_signed, w64}
use Rattle.quantizers.specs.Tables.{Tables}
use Rattle.quantizers.specs.Bounds.{below_greatest, above_least}
use Rattle.rate_model.specs.FrameSubtypes.{modulated}
use Rattle.quantizers.specs.Flat.{flat}
use Rattle.quantizers.specs.Parameters.{parameters}
use Rattle.quantizers.specs.declared.parameters.LogQuantizer.{LogQuantizer}
use Rattle.quantizers.specs.declared.parameters.QuantizerParameters.{QuantizerParameters}
use Rattle.quantizers.specs.declared.settings.QSettings.{QSettings}
use Rattle.ratecontrol.specs.declared.guess.Guess.{Guess}
use Rattle.ratecontrol.specs.declared.ahead.Ahead.{Ahead}
use Rattle.rate_model.specs.Subtype.{subtype_at}
use Rattle.ratecontrol.specs.Rate.{Rate}
use Rattle.reservoir.specs.Fills.{Fill, target_against_overflow, target_against_underflow}
use Rattle.reservoir.specs.Powers.{near_previous}
use Rattle.ratecontrol.specs.Ahead.{ahead_of_guess, searched}
use Rattle.ratecontrol.specs.SecondPass.{ahead_of_metrics}

-- ---- the least index and the greatest

abbrev pub within_indices : Rate → Tables → ℕ → ℕ → LogQuantizer → LogQuantizer
within_indices rate tables bit_depth subtype q =
    above_least rate.least tables bit_depth subtype (below_greatest rate.greatest tables bit_depth subtype q)

-- ---- the selection

abbrev pub log_bits_of : Rate → Ahead → ℤ
log_bits_of rate ahead = ahead.current +ℤ rate.log_npixels

abbrev pub fill_of : Rate → Fill
fill_of rate = record { bits = rate.reservoir; most = rate.most; bits_per_tu = rate.bits_per_tu }

unfoldable pub target_of : Rate → Ahead → ℕ → ℤ → ℤ
target_of rate ahead subtype base =
    let exponent = (subtype_at rate.subtypes subtype).exponent in
    let log_bits = log_bits_of rate ahead in
    target_against_underflow (fill_of rate) rate.greatest log_bits exponent
    (target_against_overflow (fill_of rate) log_bits exponent (modulated base subtype))

-- the selection from the frames ahead
unfoldable pub select_ahead : Rate → QSettings → Tables → Ahead → ℕ → Option ℤ → ℤ → QuantizerParameters
select_ahead rate settings tables ahead subtype previous mean_scale =
    let found = searched rate tables settings.bit_depth ahead in
    let base = near_previous previous found.value in
    let q : LogQuantizer = record { base = base; target = target_of rate ahead subtype base } in
    parameters tables settings (within_indices rate tables settings.bit_depth subtype q) mean_scale (subtype == 0) (Some found.value)

unfoldable pub select_flat : QSettings → Tables → ℕ → ℤ → QuantizerParameters
select_flat settings tables subtype mean_scale =
    parameters tables settings (flat tables settings.bit_depth settings.quantizer subtype) mean_scale (subtype == 0) None

-- a first pass by itself: its base, and a mean scale of 0
unfoldable pub select_first : Rate → QSettings → Tables → ℕ → QuantizerParameters
select_first rate settings tables subtype =
    let target = saturate_signed w64 (modulated rate.first_base subtype) in
    let q : LogQuantizer = record { base = rate.first_base; target = target } in
    parameters tables settings q (pos 0) (subtype == 0) None

-- a session with both passes goes by the second
abbrev pub select : Rate → QSettings → Tables → (ℤ → Guess) → ℕ → ℕ → Option ℤ → ℤ → QuantizerParameters
select rate settings tables guess gop_start subtype previous mean_scale =
    if int_lt (pos 0) rate.bitrate then
    (if rate.second
    then
    select_ahead rate settings tables
    (ahead_of_metrics rate guess gop_start settings.max_key_frame_interval subtype) subtype previous mean_scale
    else (if rate.first then select_first rate settings tables subtype
    else
    select_ahead rate settings tables (ahead_of_guess rate (guess rate.reservoir_delay) subtype) subtype
    previous mean_scale))
    else select_flat settings tables subtype mean_scale
