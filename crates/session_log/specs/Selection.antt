-- What rate control makes of a session's log and passes: the quantisers that it selects, when it tries, and what its reservoir holds.
use Rattle.std.specs.Prelude.{ℕ, Bool, ◌&&◌, if◌then◌else◌, List, map, fold, Option, None, Some, ℤ, pos, int_lt}
use Rattle.std.specs.Option.{option_or}
use Rattle.av1_settings.specs.declared.encoder.EncoderConfig.{EncoderConfig}
use Rattle.pyramid.specs.declared.command.Command.{Command}
use Rattle.pyramid.specs.Known.{is_coding}
use Rattle.pyramid.specs.Subtypes.{subtype_of}
use Rattle.quantizers.specs.Tables.{Tables}
use Rattle.quantizers.specs.declared.parameters.QuantizerParameters.{QuantizerParameters}
use Rattle.ratecontrol.specs.declared.guess.Guess.{Guess}
use Rattle.ratecontrol.specs.Kept.{is_trial_due as is_due}
use Rattle.ratecontrol.specs.Log.{reservoir_after_all}
use Rattle.ratecontrol.specs.Select.{select}
use Rattle.session_log.specs.declared.entry.LogEntry.{LogEntry}
use Rattle.session_log.specs.Passes.{Passes, rate_at, started}
use Rattle.session_log.specs.Readings.{base_of, measured, settings_of, start_of}

-- the last base
abbrev pub last_base : List LogEntry → Option ℤ
last_base log = fold (λ base entry. option_or (base_of entry) base) None log

-- the quantisers of a command behind a log, by these passes, this guess of what comes next and this input with which the
-- command's GOP starts, for a frame of this mean scale
unfoldable pub selection : EncoderConfig → Tables → Passes → List LogEntry → (ℤ → Guess) → ℕ → Command → ℤ → QuantizerParameters
selection enc tables passes log guess gop_start command mean_scale =
    select (rate_at enc passes log) (settings_of enc) tables guess gop_start (subtype_of command) (last_base log) mean_scale

-- a command is tried first where it codes, there is a bitrate, and nothing of its subtype was coded for good
abbrev pub is_trial_due : EncoderConfig → List LogEntry → Command → Bool
is_trial_due enc log command =
    is_coding command && is_due (start_of enc) (subtype_of command) (map measured log)

-- the bits that the reservoir holds behind a log, where there is a bitrate: the ledger of what was coded for good, from the
-- level at which the session starts
abbrev pub reservoir_after : EncoderConfig → Passes → List LogEntry → Option ℤ
reservoir_after enc passes log =
    if int_lt (pos 0) enc.bitrate then Some (reservoir_after_all (started enc passes) (map measured log)) else None
