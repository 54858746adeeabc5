-- The setting lines: what a word and its arguments set, and what that changes. A new setting is an arm of each. Then what
-- the settings of a script come to.
use Rattle.std.specs.Prelude.{ℕ, pos, true, false, Bool, if◌then◌else◌, List, [], ◌∷◌, fold, Option, None, Some, codes, bytes_eq}
use Rattle.std.specs.Option.{option_map}
use Rattle.av1_frame.specs.declared.sampling.ChromaSampling.{ChromaSampling}
use Rattle.av1_frame.specs.declared.sampling.ChromaSampling.TheVariants.{Cs420, Cs422, Cs444, Cs400}
use Rattle.av1_settings.specs.declared.encoder.EncoderConfig.{EncoderConfig}
use Rattle.av1_settings.specs.Defaults.{with_speed_preset}
use Rattle.av1_settings.specs.Settings.{with_key_frame_interval}
use Rattle.script_lines.specs.declared.script.TheConstants.{DEFAULT_PRESET}
use Rattle.script_lines.specs.declared.setting.Setting.{Setting}
use Rattle.script_lines.specs.declared.setting.Setting.TheVariants.{Preset, Lookahead, SeveralReferences, Size, SampleAspect, TimeBase, BitDepth, Chroma, KeyInterval, SwitchInterval, LowLatency, StillPicture, TimingInfo, Level, Quantizer, MinQuantizer, Bitrate, ReservoirDelay}
use Rattle.script_lines.specs.DecimalNumbers.{number_of, number_up_to, signed_up_to}

-- ---- what a line sets

-- `0` or `1`
abbrev pub flag_of : List ℕ → Option Bool
flag_of text =
    if bytes_eq text (codes "0") then Some false
    else if bytes_eq text (codes "1") then Some true
    else None

-- `420`, `422`, `444` or `400`
abbrev pub sampling_of : List ℕ → Option ChromaSampling
sampling_of text =
    if bytes_eq text (codes "420") then Some Cs420
    else if bytes_eq text (codes "422") then Some Cs422
    else if bytes_eq text (codes "444") then Some Cs444
    else if bytes_eq text (codes "400") then Some Cs400
    else None

-- a word alone
abbrev pub setting_of_none : List ℕ → Option Setting
setting_of_none word =
    if bytes_eq word (codes "lowlatency") then Some LowLatency
    else if bytes_eq word (codes "still") then Some StillPicture
    else if bytes_eq word (codes "timing") then Some TimingInfo
    else None

-- a word and what stands behind it: mostly a number that fits the setting's type
abbrev pub setting_of_one : List ℕ → List ℕ → Option Setting
setting_of_one word text =
    if bytes_eq word (codes "preset") then option_map Preset (number_up_to 255 text)
    else if bytes_eq word (codes "rdo") then option_map Lookahead (number_of text)
    else if bytes_eq word (codes "multiref") then option_map SeveralReferences (flag_of text)
    else if bytes_eq word (codes "depth") then option_map BitDepth (number_of text)
    else if bytes_eq word (codes "chroma") then option_map Chroma (sampling_of text)
    else if bytes_eq word (codes "switch") then option_map SwitchInterval (number_of text)
    else if bytes_eq word (codes "level") then option_map Level (number_up_to 255 text)
    else if bytes_eq word (codes "quantizer") then option_map Quantizer (number_of text)
    else if bytes_eq word (codes "minq") then option_map MinQuantizer (number_up_to 255 text)
    else if bytes_eq word (codes "bitrate") then option_map Bitrate (signed_up_to 0x7fff_ffff text)
    else if bytes_eq word (codes "reservoir") then option_map ReservoirDelay (option_map pos (number_up_to 0x7fff_ffff text))
    else None

-- a word and two numbers
abbrev pub setting_of_two : List ℕ → ℕ → ℕ → Option Setting
setting_of_two word a b =
    if bytes_eq word (codes "size") then Some (Size a b)
    else if bytes_eq word (codes "aspect") then Some (SampleAspect a b)
    else if bytes_eq word (codes "timebase") then Some (TimeBase a b)
    else if bytes_eq word (codes "keyint") then Some (KeyInterval a b)
    else None

-- ---- what that changes

-- these settings with one set; a preset isn't set here, but before all others
abbrev pub with_setting : EncoderConfig → Setting → EncoderConfig
with_setting enc (Preset speed) = enc
with_setting enc (Lookahead frames) =
    let speed = enc.speed_settings in
    record enc { speed_settings = record speed { rdo_lookahead_frames = frames } }
with_setting enc (SeveralReferences several) =
    let speed = enc.speed_settings in
    record enc { speed_settings = record speed { multiref = several } }
with_setting enc (Size width height) = record enc { width = width; height = height }
with_setting enc (SampleAspect num den) = record enc { sample_aspect_ratio = record { num = num; den = den } }
with_setting enc (TimeBase num den) = record enc { time_base = record { num = num; den = den } }
with_setting enc (BitDepth bits) = record enc { bit_depth = bits }
with_setting enc (Chroma sampling) = record enc { chroma_sampling = sampling }
with_setting enc (KeyInterval min max) = with_key_frame_interval enc min max
with_setting enc (SwitchInterval frames) = record enc { switch_frame_interval = frames }
with_setting enc LowLatency = record enc { low_latency = true }
with_setting enc StillPicture = record enc { still_picture = true }
with_setting enc TimingInfo = record enc { enable_timing_info = true }
with_setting enc (Level index) = record enc { level_idx = Some index }
with_setting enc (Quantizer index) = record enc { quantizer = index }
with_setting enc (MinQuantizer index) = record enc { min_quantizer = index }
with_setting enc (Bitrate bits) = record enc { bitrate = bits }
with_setting enc (ReservoirDelay frames) = record enc { reservoir_frame_delay = Some frames }

-- the speed preset: that of the first `preset` line, else 6
abbrev pub preset_of : List Setting → ℕ
preset_of [] = DEFAULT_PRESET
preset_of (Preset speed ∷ settings) = speed
preset_of (setting ∷ settings) = preset_of settings

-- the encoder's settings: those of the preset, and over them what the lines set, one after the other
abbrev pub encoder_of : List Setting → EncoderConfig
encoder_of settings = fold with_setting (with_speed_preset (preset_of settings)) settings
