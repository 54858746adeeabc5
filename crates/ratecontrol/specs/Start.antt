-- The rate state at the start.
use Rattle.std.specs.Prelude.{int_div, ℕ, false, [], ◌∷◌, Option, None, ℤ, pos, ◌*ℤ◌}
use Rattle.std.specs.Int.{int_shr}
use Rattle.fixed_log.specs.Logarithm.{blog64}
use Rattle.metrics_window.specs.Tallies.{tally_of}
use Rattle.pass_data.specs.Emitted.{Emitted}
use Rattle.pass_data.specs.Given.{Given}
use Rattle.rate_model.specs.Curves.{start_subtypes}
use Rattle.reservoir.specs.Levels.{bits_per_tu_of, reservoir_delay_of, reservoir_most, reservoir_target}
use Rattle.ratecontrol.specs.Rate.{Rate}

abbrev pub nothing_given : Given
nothing_given = record {
  bytes = [];
  header = None;
  left = tally_of [];
  is_finite = false;
  window = record { held = []; capacity = 0 };
  next = None;
}

abbrev pub nothing_emitted : Emitted
nothing_emitted = record {
  sums = pos 0 ∷ pos 0 ∷ pos 0 ∷ pos 0 ∷ [];
  tus = pos 0;
  waiting = None;
  is_summed_up = false;
}

-- one pass, until another is asked for
abbrev pub rate_from : ℤ → ℤ → ℤ → ℤ → Option ℕ → ℕ → Option ℤ → Rate
rate_from bitrate npixels bits_per_tu delay greatest least set_delay = record {
  bitrate = bitrate;
  bits_per_tu = bits_per_tu;
  reservoir_delay = delay;
  delay_target = int_shr delay 1;
  greatest = greatest;
  least = least;
  log_npixels = blog64 npixels;
  most = reservoir_most bits_per_tu delay;
  target = reservoir_target (reservoir_most bits_per_tu delay);
  reservoir = reservoir_target (reservoir_most bits_per_tu delay);
  bias = pos 0;
  coded = pos 0;
  shown_again = pos 0;
  shows = pos 0;
  subtypes = start_subtypes (int_div npixels bits_per_tu);
  set_delay = set_delay;
  first = false;
  second = false;
  first_base = pos 0;
  given = nothing_given;
  emitted = nothing_emitted;
}

unfoldable pub start : ℤ → ℤ → ℤ → ℤ → ℤ → Option ℕ → ℕ → ℤ → Option ℤ → Rate
start width height framerate_num framerate_den bitrate greatest least max_interval delay =
    rate_from bitrate (width *ℤ height) (bits_per_tu_of bitrate framerate_num framerate_den)
    (reservoir_delay_of delay max_interval) greatest least delay
