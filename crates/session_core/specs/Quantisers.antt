-- With which quantisers a session codes: those that rate control selects at the entries before and by what its passes hand on,
-- with a guess of what comes next that is made at the moment of the call.
use Rattle.std.specs.Prelude.{◌≡◌, ⊤, ℕ, List, [], ◌∷◌, ◌++◌, map, Option, None, Some, ℤ, pos, negsuc}
use Rattle.std.specs.Int.{int_min}
use Rattle.av1_settings.specs.declared.encoder.EncoderConfig.{EncoderConfig}
use Rattle.av1_settings.specs.Settings.{interval_of}
use Rattle.pyramid.specs.declared.command.Command.TheVariants.{Code, Show}
use Rattle.pyramid.specs.declared.guess.GuessedAhead.{GuessedAhead}
use Rattle.pyramid.specs.Guess.{guess, gop_input_start}
use Rattle.pyramid.specs.Settings.{numbers_of}
use Rattle.quantizers.specs.Tables.{Tables}
use Rattle.quantizers.specs.declared.parameters.QuantizerParameters.{QuantizerParameters}
use Rattle.rate_model.specs.Measure.{LAST_I32}
use Rattle.ratecontrol.specs.declared.guess.Guess.{Guess}
use Rattle.session_log.specs.Passes.{Passes, passes_after}
use Rattle.session_log.specs.declared.entry.LogEntry.{LogEntry}
use Rattle.session_log.specs.Selection.{reservoir_after, selection}
use Rattle.session_core.specs.declared.transcript.Turn.{Turn}
use Rattle.session_core.specs.Decisions.{keys_of}
use Rattle.session_core.specs.Moments.{Moment}

-- a guess in numbers of 32 bits
abbrev pub clamped_guess : GuessedAhead → Guess
clamped_guess ahead = record {
  nframes = map (λ count. int_min (pos count) LAST_I32) ahead.nframes;
  frames = int_min (pos ahead.frames) LAST_I32;
  tus = int_min (pos ahead.tus) LAST_I32;
}

-- a number of temporal units; none below 0
abbrev pub units_of : ℤ → ℕ
units_of (pos units) = units
units_of (negsuc units) = 0

-- what the next temporal units are guessed to have at a moment, from the place of the next command on: by the known places
-- and the decided keys
abbrev pub guess_at : {T O : Type 0} → EncoderConfig → Moment T O → ℤ → Guess
guess_at enc moment tus =
    clamped_guess (guess (numbers_of enc) (interval_of enc.max_key_frame_interval) moment.accepted moment.flushed
    (keys_of moment.accepted moment.decisions) moment.commands (units_of tus))

-- the input with which the GOP of the next command starts
abbrev pub gop_start_at : {T O : Type 0} → EncoderConfig → Moment T O → ℕ
gop_start_at enc moment =
    gop_input_start (numbers_of enc) (interval_of enc.max_key_frame_interval) moment.accepted moment.flushed
    (keys_of moment.accepted moment.decisions) moment.commands

-- the quantisers of an entry, where `before` is the log before it and `passes` what its passes hand on; a show has none
abbrev pub quantisers_at : {T O : Type 0} → EncoderConfig → Tables → Passes → Moment T O → List LogEntry → LogEntry → Option QuantizerParameters
quantisers_at enc tables passes moment before entry =
    elim entry.command [
      | Code frame kind refs refresh shown ↦
          Some (selection enc tables passes before (guess_at enc moment) (gop_start_at enc moment) entry.command entry.mean_scale)
      | Show slot ↦ None
    ]

-- what the passes hand on behind entries, which stand behind the log `before`
abbrev pub passes_behind : EncoderConfig → Passes → List LogEntry → List LogEntry → Passes
passes_behind enc passes before [] = passes
passes_behind enc passes before (entry ∷ entries) =
    passes_behind enc (passes_after enc passes before entry) (before ++ entry ∷ []) entries

-- each entry has the quantisers that are selected behind the log and the entries before it
abbrev pub AreSelected : {T O : Type 0} → EncoderConfig → Tables → Passes → Moment T O → List LogEntry → List LogEntry → Type 0
AreSelected enc tables passes moment before [] = ⊤
AreSelected enc tables passes moment before (entry ∷ entries) =
    (entry.quant ≡ quantisers_at enc tables passes moment before entry)
    × AreSelected enc tables (passes_after enc passes before entry) moment (before ++ entry ∷ []) entries

-- the quantisers of what a turn coded, and what the reservoir holds then
pub record IsQuantised {T O : Type 0} (enc : EncoderConfig) (tables : Tables) (passes : Passes) (moment : Moment T O) (turn : Turn T O) : Type 0 where
  pub selected : AreSelected enc tables passes moment moment.log turn.log
  pub reservoir : turn.reservoir
      ≡ reservoir_after enc (passes_behind enc passes moment.log turn.log) (moment.log ++ turn.log)
