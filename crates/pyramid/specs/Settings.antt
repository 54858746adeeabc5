-- From settings to numbers.
use Rattle.std.specs.Prelude.{if◌then◌else◌}
use Rattle.av1_settings.specs.declared.encoder.EncoderConfig.{EncoderConfig}
use Rattle.av1_settings.specs.Settings.{multiref}
use Rattle.pyramid.specs.Numbers.{Numbers}

-- no reordering with low latency, else a pyramid of depth 2
abbrev pub numbers_of : EncoderConfig → Numbers
numbers_of enc = record {
  depth = if enc.low_latency then 0 else 2;
  multiref = multiref enc;
  switch_interval = enc.switch_frame_interval;
}
