-- The checks of a configuration: rows in groups, each row a condition and what it answers where the condition holds. The
-- first failing row of all groups is why a configuration is refused, and `IsValid` is what a configuration that isn't
-- refused can be relied on for. A session checks one more row before these, and one more behind them.
use Rattle.std.specs.Prelude.{◌≡◌, ℕ, ℤ, pos, ◌*◌, ◌≤◌, ◌≤ℤ◌, Bool, IsTrue, not, ◌==◌, ◌||◌, ◌&&◌, nat_lt, int_lt, if◌then◌else◌, ◌⊎◌, List, [], ◌∷◌, ◌++◌, Option, Some, None, is_some, IfSome}
use Rattle.std.specs.Int.{div_ceil, is_power_of_two}
use Rattle.av1_settings.specs.Colors.{is_full, is_full_chroma, is_rgb}
use Rattle.av1_settings.specs.Header.{is_monochrome}
use Rattle.av1_settings.specs.Levels.{level_at}
use Rattle.av1_settings.specs.Render.{render_size}
use Rattle.av1_settings.specs.declared.checks.TheConstants.{MAX_LOOKAHEAD, MAX_QUANTIZER, MAX_RATE, MAX_RESERVOIR_DELAY, MAX_SIZE, MIN_RESERVOIR_DELAY, MIN_SIZE, MIN_STILL_SIZE, NO_LEVEL}
use Rattle.av1_settings.specs.declared.config.Config.{Config}
use Rattle.av1_settings.specs.declared.encoder.EncoderConfig.{EncoderConfig}
use Rattle.av1_settings.specs.declared.encoder.TheConstants.{MAX_MAX_KEY_FRAME_INTERVAL}
use Rattle.av1_settings.specs.declared.invalid.InvalidConfig.{InvalidConfig}
use Rattle.av1_settings.specs.declared.invalid.InvalidConfig.TheVariants.{InvalidWidth, InvalidHeight, InvalidAspectRatioNum, InvalidAspectRatioDen, InvalidRenderWidth, InvalidRenderHeight, InvalidRdoLookaheadFrames, InvalidMaxKeyFrameInterval, InvalidTileCols, InvalidTileRows, InvalidFrameRateNum, InvalidFrameRateDen, InvalidReservoirFrameDelay, InvalidSwitchFrameInterval, InvalidOptionWithStillPicture, TargetBitrateNeeded, RateControlConfigurationMismatch, ColorConfigurationMismatch, LevelUndefined, LevelConstraintsExceeded, InvalidQuantizer, InvalidBitDepth}
use Rattle.av1_settings.specs.declared.invalid.StillOption.TheVariants.{EnableTimingInfo}
use Rattle.av1_settings.specs.declared.level.LevelRow.{LevelRow}
use Rattle.av1_settings.specs.declared.level.LevelTables.{LevelTables}

-- a check: whether it fails, and what it answers then
abbrev pub Row : Type 0
Row = Bool × InvalidConfig

-- the answer of the first check that fails
unfoldable pub first_failing : List Row → Option InvalidConfig
first_failing [] = None
first_failing (row ∷ rest) = if row.0 then Some row.1 else first_failing rest

-- the number is below low or above high
abbrev pub is_outside : ℕ → ℕ → ℕ → Bool
is_outside low high n = nat_lt n low || nat_lt high n

-- the least width and height: a still picture may be a single sample
abbrev pub min_size : EncoderConfig → ℕ
min_size enc = if enc.still_picture then MIN_STILL_SIZE else MIN_SIZE

unfoldable pub size_rows : EncoderConfig → List Row
size_rows enc =
    (is_outside (min_size enc) MAX_SIZE enc.width, InvalidWidth enc.width)
    ∷ (is_outside (min_size enc) MAX_SIZE enc.height, InvalidHeight enc.height)
    ∷ []

unfoldable pub aspect_rows : EncoderConfig → List Row
aspect_rows enc =
    let aspect = enc.sample_aspect_ratio in
    let render = render_size enc in
    (aspect.num == 0, InvalidAspectRatioNum aspect.num)
    ∷ (aspect.den == 0, InvalidAspectRatioDen aspect.den)
    ∷ (is_outside 1 MAX_SIZE render.0, InvalidRenderWidth render.0)
    ∷ (is_outside 1 MAX_SIZE render.1, InvalidRenderHeight render.1)
    ∷ []

-- a number of tiles one way: 0, which leaves it open, or a power of two
abbrev pub is_tile_count : ℕ → Bool
is_tile_count n = n == 0 || is_power_of_two n

unfoldable pub structure_rows : EncoderConfig → List Row
structure_rows enc =
    let lookahead = enc.speed_settings.rdo_lookahead_frames in
    let interval = enc.max_key_frame_interval in
    (is_outside 1 MAX_LOOKAHEAD lookahead, InvalidRdoLookaheadFrames lookahead MAX_LOOKAHEAD 1)
    ∷ (
      nat_lt MAX_MAX_KEY_FRAME_INTERVAL interval,
      InvalidMaxKeyFrameInterval interval MAX_MAX_KEY_FRAME_INTERVAL,
    )
    ∷ (not (is_tile_count enc.tile_cols), InvalidTileCols enc.tile_cols)
    ∷ (not (is_tile_count enc.tile_rows), InvalidTileRows enc.tile_rows)
    ∷ []

unfoldable pub time_rows : EncoderConfig → List Row
time_rows enc =
    let time_base = enc.time_base in
    (is_outside 1 MAX_RATE time_base.num, InvalidFrameRateNum time_base.num MAX_RATE)
    ∷ (is_outside 1 MAX_RATE time_base.den, InvalidFrameRateDen time_base.den MAX_RATE)
    ∷ []

-- without a delay there is nothing to check
unfoldable pub reservoir_rows : Option ℤ → List Row
reservoir_rows None = []
reservoir_rows (Some delay) = (
  int_lt delay MIN_RESERVOIR_DELAY || int_lt MAX_RESERVOIR_DELAY delay,
  InvalidReservoirFrameDelay delay,
)
    ∷ []

-- switch frames are for low latency alone
unfoldable pub switch_rows : EncoderConfig → List Row
switch_rows enc =
    let interval = enc.switch_frame_interval in
    (nat_lt 0 interval && not enc.low_latency, InvalidSwitchFrameInterval interval) ∷ []

-- red, green and blue that aren't in full range or have smaller chroma planes
abbrev pub mismatches_color : EncoderConfig → Bool
mismatches_color enc =
    not (is_monochrome enc.chroma_sampling)
    && (is_rgb enc.color_description
    && not (is_full enc.pixel_range && is_full_chroma enc.chroma_sampling))

unfoldable pub option_rows : EncoderConfig → List Row
option_rows enc =
    (enc.enable_timing_info && enc.still_picture, InvalidOptionWithStillPicture EnableTimingInfo)
    ∷ (mismatches_color enc, ColorConfigurationMismatch)
    ∷ []

-- luma samples that are shown in a second, going up
abbrev pub display_rate : EncoderConfig → ℕ
display_rate enc = div_ceil (enc.width * enc.height * enc.time_base.den) enc.time_base.num

abbrev pub exceeds : EncoderConfig → LevelRow → Bool
exceeds enc level =
    nat_lt level.max_pic_size (enc.width * enc.height)
    || (nat_lt level.max_h_size enc.width
    || (nat_lt level.max_v_size enc.height
    || nat_lt level.max_display_rate (display_rate enc)))

-- without a level, and with the index that stands for none, there is nothing to check
unfoldable pub level_rows : LevelTables → EncoderConfig → Option ℕ → List Row
level_rows levels enc None = []
level_rows levels enc (Some index) =
    let level = level_at levels index in
    (nat_lt NO_LEVEL index || (nat_lt index NO_LEVEL && not level.defined), LevelUndefined)
    ∷ (nat_lt index NO_LEVEL && exceeds enc level, LevelConstraintsExceeded)
    ∷ []

-- pass data is asked for, or a first pass's summary is given
abbrev pub asks_passes : Config → Bool
asks_passes config = config.rate_control.emit_data || is_some config.rate_control.summary

abbrev pub is_bit_depth : ℕ → Bool
is_bit_depth n = n == 8 || (n == 10 || n == 12)

unfoldable pub coding_rows : Config → List Row
coding_rows config =
    let enc = config.enc in
    (asks_passes config && not (int_lt (pos 0) enc.bitrate), TargetBitrateNeeded)
    ∷ (nat_lt MAX_QUANTIZER enc.quantizer, InvalidQuantizer enc.quantizer)
    ∷ (not (is_bit_depth enc.bit_depth), InvalidBitDepth enc.bit_depth)
    ∷ []

-- all checks of a configuration
unfoldable pub rows_of : LevelTables → Config → List Row
rows_of levels config =
    let enc = config.enc in
    size_rows enc
    ++ (aspect_rows enc
    ++ (structure_rows enc
    ++ (time_rows enc
    ++ (reservoir_rows enc.reservoir_frame_delay
    ++ (switch_rows enc
    ++ (option_rows enc
    ++ (level_rows levels enc enc.level_idx
    ++ coding_rows config)))))))

-- why the configuration is refused
unfoldable pub refusal_of : LevelTables → Config → Option InvalidConfig
refusal_of levels config = first_failing (rows_of levels config)

-- the check of a session whose pixels have this many bits: the samples fit a pixel
unfoldable pub pixel_rows : ℕ → EncoderConfig → List Row
pixel_rows bits enc = (nat_lt bits enc.bit_depth, InvalidBitDepth enc.bit_depth) ∷ []

-- why a configuration is refused for pixels of this many bits
unfoldable pub pixel_refusal : ℕ → LevelTables → Config → Option InvalidConfig
pixel_refusal bits levels config = first_failing (rows_of levels config ++ pixel_rows bits config.enc)

-- the check of a session in one pass: no pass data is asked for, and no summary given
unfoldable pub pass_rows : Config → List Row
pass_rows config = (asks_passes config, RateControlConfigurationMismatch) ∷ []

-- all checks of a session in one pass
unfoldable pub session_rows : ℕ → LevelTables → Config → List Row
session_rows bits levels config = pass_rows config ++ (rows_of levels config ++ pixel_rows bits config.enc)

-- why a session in one pass is refused
unfoldable pub session_refusal : ℕ → LevelTables → Config → Option InvalidConfig
session_refusal bits levels config = first_failing (session_rows bits levels config)

-- what the checks leave of an encoder's settings
pub record IsValid (enc : EncoderConfig) : Type 0 where
  pub wide : min_size enc ≤ enc.width
  pub width_fits : enc.width ≤ MAX_SIZE
  pub high : min_size enc ≤ enc.height
  pub height_fits : enc.height ≤ MAX_SIZE
  pub aspect_num : 1 ≤ enc.sample_aspect_ratio.num
  pub aspect_den : 1 ≤ enc.sample_aspect_ratio.den
  pub render_wide : 1 ≤ (render_size enc).0
  pub render_width_fits : (render_size enc).0 ≤ MAX_SIZE
  pub render_high : 1 ≤ (render_size enc).1
  pub render_height_fits : (render_size enc).1 ≤ MAX_SIZE
  pub looks_ahead : 1 ≤ enc.speed_settings.rdo_lookahead_frames
  pub lookahead_fits : enc.speed_settings.rdo_lookahead_frames ≤ MAX_LOOKAHEAD
  pub interval_fits : enc.max_key_frame_interval ≤ MAX_MAX_KEY_FRAME_INTERVAL
  pub tile_cols : IsTrue (is_tile_count enc.tile_cols)
  pub tile_rows : IsTrue (is_tile_count enc.tile_rows)
  pub time_num : 1 ≤ enc.time_base.num
  pub time_num_fits : enc.time_base.num ≤ MAX_RATE
  pub time_den : 1 ≤ enc.time_base.den
  pub time_den_fits : enc.time_base.den ≤ MAX_RATE
  pub delay : IfSome enc.reservoir_frame_delay
      (λ delay. (MIN_RESERVOIR_DELAY ≤ℤ delay) × (delay ≤ℤ MAX_RESERVOIR_DELAY))
  pub switches : 1 ≤ enc.switch_frame_interval → IsTrue enc.low_latency
  pub level : IfSome enc.level_idx (λ index. index ≤ NO_LEVEL)
  pub quantizer_fits : enc.quantizer ≤ MAX_QUANTIZER
  pub bit_depth : (enc.bit_depth ≡ 8) ⊎ ((enc.bit_depth ≡ 10) ⊎ (enc.bit_depth ≡ 12))
