-- The frames ahead in a second pass, from the metrics of those that are known.
use Rattle.std.specs.Prelude.{ℕ, Bool, ◌&&◌, [], ◌∷◌, Option, Some, None, ℤ, pos, int_lt, int_le, if◌then◌else◌}
use Rattle.metrics_window.specs.Tallies.{number_at}
use Rattle.pass_data.specs.FileEnd.{units_to_end, units_guessed}
use Rattle.pass_data.specs.LookAhead.{look_ahead}
use Rattle.pass_data.specs.Scales.{scale_ahead, current_by}
use Rattle.pass_data.specs.declared.given.Header.{Header}
use Rattle.pass_data.specs.declared.look_ahead.LookAhead.{LookAhead}
use Rattle.rate_model.specs.Subtype.{subtype_at}
use Rattle.ratecontrol.specs.declared.guess.Guess.{Guess}
use Rattle.ratecontrol.specs.declared.ahead.Ahead.{Ahead}
use Rattle.ratecontrol.specs.declared.second_pass.FramesAhead.{FramesAhead}
use Rattle.ratecontrol.specs.Rate.{Rate}

-- ---- which frames

-- all that is left is seen, and the file ends within the GOP, before the next key frame would be due
abbrev pub sees_the_end : Rate → Header → ℕ → ℤ → LookAhead → Bool
sees_the_end rate h gop_start max_interval look =
    int_le rate.given.left.shown look.tus
    && (int_lt (pos gop_start) h.ntus && int_lt (units_to_end h gop_start) max_interval)

abbrev pub as_seen : LookAhead → FramesAhead
as_seen look = record { nframes = look.nframes; frames = look.frames; tus = look.tus }

abbrev pub as_guessed : Guess → FramesAhead
as_guessed guess = record { nframes = guess.nframes; frames = guess.frames; tus = guess.tus }

abbrev pub frames_by : Option Header → Rate → (ℤ → Guess) → ℕ → ℤ → LookAhead → FramesAhead
frames_by None rate guess gop_start max_interval look = as_seen look
frames_by (Some h) rate guess gop_start max_interval look =
    if sees_the_end rate h gop_start max_interval look
    then as_guessed (guess (units_guessed h gop_start max_interval look.tus rate.reservoir_delay))
    else as_seen look

unfoldable pub frames_ahead : Rate → (ℤ → Guess) → ℕ → ℤ → LookAhead → FramesAhead
frames_ahead rate guess gop_start max_interval look =
    frames_by rate.given.header rate guess gop_start max_interval look

-- ---- their scales

abbrev pub scale_of_subtype : Rate → FramesAhead → LookAhead → ℕ → ℤ
scale_of_subtype rate frames look j =
    scale_ahead rate.log_npixels (number_at look.counted.sums j) (number_at look.counted.counts j)
    (number_at frames.nframes j) (subtype_at rate.subtypes j).filter.y0

unfoldable pub ahead_of_frames : Rate → FramesAhead → LookAhead → ℕ → Ahead
ahead_of_frames rate frames look subtype = record {
  nframes = frames.nframes;
  frames = frames.frames;
  tus = frames.tus;
  log_scale =
      scale_of_subtype rate frames look 0 ∷ scale_of_subtype rate frames look 1
      ∷ scale_of_subtype rate frames look 2 ∷ scale_of_subtype rate frames look 3 ∷ [];
  current = current_by look.current (subtype_at rate.subtypes subtype).filter.y0;
}

unfoldable pub ahead_of_look : Rate → (ℤ → Guess) → ℕ → ℤ → LookAhead → ℕ → Ahead
ahead_of_look rate guess gop_start max_interval look subtype =
    ahead_of_frames rate (frames_ahead rate guess gop_start max_interval look) look subtype

abbrev pub ahead_of_metrics : Rate → (ℤ → Guess) → ℕ → ℤ → ℕ → Ahead
ahead_of_metrics rate guess gop_start max_interval subtype =
    ahead_of_look rate guess gop_start max_interval
    (look_ahead rate.reservoir_delay subtype rate.given) subtype
