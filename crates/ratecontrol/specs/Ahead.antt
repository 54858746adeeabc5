-- The frames ahead, and the budget that they share.
use Rattle.std.specs.Prelude.{int_div, ℕ, map, slice_index, ℤ, pos, ◌+ℤ◌, ◌-ℤ◌, ◌*ℤ◌}
use Rattle.std.specs.Option.{unwrap_or}
use Rattle.fixed_log.specs.Conversion.{q24_to_q57}
use Rattle.quantizers.specs.Tables.{Tables}
use Rattle.quantizers.specs.Flat.{log_of_value}
use Rattle.rate_model.specs.declared.model.RateModel.{RateModel}
use Rattle.rate_model.specs.declared.search.Search.{Search}
use Rattle.ratecontrol.specs.declared.guess.Guess.{Guess}
use Rattle.ratecontrol.specs.declared.ahead.Ahead.{Ahead}
use Rattle.rate_model.specs.Subtype.{SubtypeRate, subtype_at}
use Rattle.ratecontrol.specs.Rate.{Rate}
use Rattle.rate_model.specs.Search.{bits, bisection, TURNS}

-- in one pass: the guess of what is ahead, the scales so far, and what the subtype's filter answered last
unfoldable pub ahead_of_guess : Rate → Guess → ℕ → Ahead
ahead_of_guess rate guess subtype = record {
  nframes = guess.nframes;
  frames = guess.frames;
  tus = guess.tus;
  log_scale = map (λ (s : SubtypeRate). s.log_scale) rate.subtypes;
  current = q24_to_q57 (subtype_at rate.subtypes subtype).filter.y0;
}

-- the mean bias of the frames so far, for as many frames
abbrev pub bias_of : Rate → ℤ → ℤ
bias_of rate frames = int_div rate.bias (rate.coded +ℤ pos 100) *ℤ frames

-- what the frames ahead may take: what the reservoir holds above its target, the bias, and the bits of their temporal units
unfoldable pub budget : Rate → ℤ → ℤ → ℤ
budget rate frames tus = rate.reservoir -ℤ rate.target +ℤ bias_of rate frames +ℤ tus *ℤ rate.bits_per_tu

unfoldable pub model_of : Rate → Ahead → RateModel
model_of rate ahead = record {
  nframes = ahead.nframes;
  log_scale = ahead.log_scale;
  exp = map (λ (s : SubtypeRate). s.exponent) rate.subtypes;
  log_npixels = rate.log_npixels;
}

-- the logarithm of the AC value of an index, without the table's scale
abbrev pub index_log : Tables → ℕ → ℕ → ℤ
index_log tables bit_depth i = log_of_value bit_depth (slice_index tables.ac i)

-- the base at which the frames ahead take the budget, between the least index and the greatest
unfoldable pub searched : Rate → Tables → ℕ → Ahead → Search
searched rate tables bit_depth ahead =
    bisection (bits (model_of rate ahead)) (budget rate ahead.frames ahead.tus) TURNS
    (index_log tables bit_depth rate.least) (index_log tables bit_depth (unwrap_or rate.greatest 255))
