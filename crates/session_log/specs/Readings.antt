-- What rate control reads of the settings, and of a session's entries.
use Rattle.std.specs.Prelude.{ℕ, ◌*◌, nat_lt, if◌then◌else◌, length, Option, None, Some, ℤ, pos}
use Rattle.std.specs.Option.{option_map, option_map_or}
use Rattle.av1_settings.specs.declared.encoder.EncoderConfig.{EncoderConfig}
use Rattle.av1_settings.specs.Settings.{interval_of}
use Rattle.pyramid.specs.Display.{shows}
use Rattle.pyramid.specs.Subtypes.{subtype_of}
use Rattle.rate_model.specs.Measure.{Entry}
use Rattle.quantizers.specs.declared.settings.QSettings.{QSettings}
use Rattle.ratecontrol.specs.Rate.{Rate}
use Rattle.ratecontrol.specs.Start.{start}
use Rattle.session_log.specs.declared.entry.LogEntry.{LogEntry}

-- ---- the settings

-- what a choice of quantisers reads of the settings
abbrev pub settings_of : EncoderConfig → QSettings
settings_of enc = record {
  bit_depth = enc.bit_depth;
  chroma = enc.chroma_sampling;
  quantizer = enc.quantizer;
  max_key_frame_interval = pos (interval_of enc.max_key_frame_interval);
}

-- the greatest index that a bitrate may lead to: the quantizer, but for the last one, which bounds nothing
abbrev pub greatest_index : EncoderConfig → Option ℕ
greatest_index enc = if nat_lt enc.quantizer 255 then Some enc.quantizer else None

-- the rate control of a session that hasn't begun: the frame rate is the time base the other way up
abbrev pub start_of : EncoderConfig → Rate
start_of enc =
    start (pos enc.width) (pos enc.height) (pos enc.time_base.den) (pos enc.time_base.num) enc.bitrate
    (greatest_index enc) enc.min_quantizer (pos (interval_of enc.max_key_frame_interval)) enc.reservoir_frame_delay

-- ---- the entries

-- the quantiser that an entry aimed at; a show aims at none
abbrev pub target_of : LogEntry → ℤ
target_of entry = option_map_or (λ quant. quant.log_target_q) entry.quant (pos 0)

-- its bits are 8 times the coder's bytes
abbrev pub measured : LogEntry → Entry
measured entry = record {
  bits = pos (8 * length entry.bytes);
  subtype = subtype_of entry.command;
  shown = shows entry.command;
  log_target = target_of entry;
  trial = entry.trial;
}

-- the base of what was coded for good; a trial and a show have none
abbrev pub base_of : LogEntry → Option ℤ
base_of entry = if entry.trial then None else option_map (λ quant. quant.log_base_q) entry.quant
