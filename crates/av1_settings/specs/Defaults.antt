-- Settings where none are given.
use Rattle.std.specs.Prelude.{ℕ, false, pos, Some, None}
use Rattle.av1_frame.specs.declared.sampling.ChromaSampling.TheVariants.{Cs420}
use Rattle.av1_settings.specs.declared.color.ChromaSamplePosition.TheVariants.{Unknown}
use Rattle.av1_settings.specs.declared.color.PixelRange.TheVariants.{Limited}
use Rattle.av1_settings.specs.declared.config.Config.{Config}
use Rattle.av1_settings.specs.declared.encoder.EncoderConfig.{EncoderConfig}
use Rattle.av1_settings.specs.declared.rate_control.RateControlConfig.{RateControlConfig}
use Rattle.pass_stats.specs.declared.summary.RCSummary.{RCSummary}
use Rattle.av1_settings.specs.declared.tune.Tune.TheVariants.{Psychovisual}
use Rattle.av1_settings.specs.Presets.{from_preset}

-- the settings of an encoder for a speed preset
unfoldable pub with_speed_preset : ℕ → EncoderConfig
with_speed_preset speed = record {
  width = 640;
  height = 480;
  sample_aspect_ratio = record { num = 1; den = 1 };
  time_base = record { num = 1; den = 30 };
  bit_depth = 8;
  chroma_sampling = Cs420;
  chroma_sample_position = Unknown;
  pixel_range = Limited;
  color_description = None;
  mastering_display = None;
  content_light = None;
  level_idx = None;
  enable_timing_info = false;
  still_picture = false;
  error_resilient = false;
  switch_frame_interval = 0;
  min_key_frame_interval = 12;
  max_key_frame_interval = 240;
  reservoir_frame_delay = None;
  low_latency = false;
  quantizer = 100;
  min_quantizer = 0;
  bitrate = pos 0;
  tune = Psychovisual;
  tile_cols = 0;
  tile_rows = 0;
  tiles = 0;
  speed_settings = from_preset speed;
}

-- preset 6
abbrev pub default_encoder : EncoderConfig
default_encoder = with_speed_preset 6

-- no pass data and no summary
abbrev pub default_rate_control : RateControlConfig
default_rate_control = record { emit_data = false; summary = None }

-- a second pass with what the first one said
abbrev pub second_pass : RCSummary → RateControlConfig
second_pass summary = record default_rate_control { summary = Some summary }

abbrev pub default_config : Config
default_config = record { enc = default_encoder; rate_control = default_rate_control; threads = 0; slots = 0 }
