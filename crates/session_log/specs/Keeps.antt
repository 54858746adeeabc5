-- What a session's rate control keeps, and what it goes by.
use Rattle.std.specs.Prelude.{◌≡◌, ◌<◌, ◌≤◌, ◌^◌, false, List, [], length, map, filter, Option, is_some, IsTrue, ℤ}
use Rattle.std.specs.List.{All}
use Rattle.av1_settings.specs.declared.encoder.EncoderConfig.{EncoderConfig}
use Rattle.av1_settings.specs.Checks.{IsValid}
use Rattle.pyramid.specs.declared.command.Command.{Command}
use Rattle.pyramid.specs.declared.command.Command.TheVariants.{Code, Show}
use Rattle.quantizers.specs.Tables.{Tables}
use Rattle.quantizers.specs.declared.settings.QSettings.{QSettings}
use Rattle.ratecontrol.specs.Log.{is_real}
use Rattle.ratecontrol.specs.Rate.{Rate}
use Rattle.session_log.specs.declared.entry.LogEntry.{LogEntry}
use Rattle.session_log.specs.Passes.{Passes, rate_at}
use Rattle.session_log.specs.Readings.{measured, settings_of}
use Rattle.session_log.specs.Selection.{last_base}

-- what is kept between the entries of a log
pub record RateKept : Type 0 where
  pub state : Rate
  pub settings : QSettings
  pub tables : Tables
  pub bitrate : ℤ
  pub base : Option ℤ

-- a bit depth that AV1 has
pub record HasDepth (kept : RateKept) : Type 0 where
  pub least : 8 ≤ kept.settings.bit_depth
  pub most : kept.settings.bit_depth ≤ 12

-- a coded frame has bytes, fewer than 2^48; the show of a slot has the three bytes of its header, and is never tried
abbrev pub HasSize : Command → LogEntry → Type 0
HasSize (Code frame kind refs refresh shown) entry = (1 ≤ length entry.bytes) × (length entry.bytes < 2 ^ 48)
HasSize (Show slot) entry = (length entry.bytes ≡ 3) × (entry.trial ≡ false)

abbrev pub IsSized : LogEntry → Type 0
IsSized entry = HasSize entry.command entry

-- the entries of a session: no more than there are frames for
pub record IsLog (log : List LogEntry) : Type 0 where
  pub few : length log ≤ 2 ^ 33
  pub sized : All IsSized log

-- where there are entries, some were coded for good
abbrev pub IsCodedForGood : List LogEntry → Type 0
IsCodedForGood log = filter is_real (map measured log) ≡ [] → log ≡ []

-- what is kept is what a session of these settings and tables keeps behind this log, with these passes; a summary comes in a
-- second pass alone
pub record Keeps (enc : EncoderConfig) (quantizer_tables : Tables) (passes : Passes) (log : List LogEntry) (kept : RateKept) : Type 0 where
  pub valid : IsValid enc
  pub header : IsTrue (is_some passes.given.header) → IsTrue passes.second
  pub state : kept.state ≡ rate_at enc passes log
  pub settings : kept.settings ≡ settings_of enc
  pub tables : kept.tables ≡ quantizer_tables
  pub bitrate : kept.bitrate ≡ enc.bitrate
  pub base : kept.base ≡ last_base log
