-- What follows from an encoder's settings.
use Rattle.std.specs.Prelude.{ℕ, Bool, not, ◌==◌, ◌||◌, if◌then◌else◌}
use Rattle.av1_settings.specs.declared.encoder.EncoderConfig.{EncoderConfig}
use Rattle.av1_settings.specs.declared.encoder.TheConstants.{MAX_MAX_KEY_FRAME_INTERVAL}

-- the greatest distance of two key frames that a number stands for: 0 for the greatest that there is
abbrev pub interval_of : ℕ → ℕ
interval_of interval = if interval == 0 then MAX_MAX_KEY_FRAME_INTERVAL else interval

-- these settings with other key frame intervals
abbrev pub with_key_frame_interval : EncoderConfig → ℕ → ℕ → EncoderConfig
with_key_frame_interval enc least greatest = record enc {
  min_key_frame_interval = least;
  max_key_frame_interval = interval_of greatest;
}

-- a frame may be predicted from several others: always where frames are coded out of their order
abbrev pub multiref : EncoderConfig → Bool
multiref enc = not enc.low_latency || enc.speed_settings.multiref

-- distortion isn't measured on coefficients
abbrev pub temporal_rdo : EncoderConfig → Bool
temporal_rdo enc = not enc.speed_settings.transform.tx_domain_distortion
