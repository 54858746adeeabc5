-- The line that the settings of an encoder print: pairs of a name and a value, with a blank between them.
use Rattle.std.specs.Prelude.{ℕ, Bool, if◌then◌else◌, List, [], ◌∷◌, ◌++◌, drop, codes, decimal}
use Rattle.std.specs.Fmt.{signed_decimal}
use Rattle.av1_settings.specs.Partitions.{smallest_block, largest_block}
use Rattle.av1_settings.specs.Settings.{multiref}
use Rattle.av1_settings.specs.Texts.{block_size_text, prediction_modes_text, scene_detection_text, tune_text}
use Rattle.av1_settings.specs.declared.encoder.EncoderConfig.{EncoderConfig}
use Rattle.av1_settings.specs.declared.speed.SpeedSettings.{SpeedSettings}

abbrev pub bool_text : Bool → List ℕ
bool_text b = if b then codes "true" else codes "false"

-- a name and its value
abbrev pub Pair : Type 0
Pair = List ℕ × List ℕ

abbrev pub rate_pairs : EncoderConfig → List Pair
rate_pairs enc =
    (codes "keyint_min", decimal enc.min_key_frame_interval)
    ∷ (codes "keyint_max", decimal enc.max_key_frame_interval)
    ∷ (codes "quantizer", decimal enc.quantizer)
    ∷ (codes "bitrate", signed_decimal enc.bitrate)
    ∷ (codes "min_quantizer", decimal enc.min_quantizer)
    ∷ []

abbrev pub frame_pairs : EncoderConfig → List Pair
frame_pairs enc =
    (codes "low_latency", bool_text enc.low_latency)
    ∷ (codes "tune", tune_text enc.tune)
    ∷ (codes "rdo_lookahead_frames", decimal enc.speed_settings.rdo_lookahead_frames)
    ∷ (codes "multiref", bool_text (multiref enc))
    ∷ []

abbrev pub filter_pairs : EncoderConfig → List Pair
filter_pairs enc =
    (codes "fast_deblock", bool_text enc.speed_settings.fast_deblock)
    ∷ (codes "scene_detection_mode", scene_detection_text enc.speed_settings.scene_detection_mode)
    ∷ (codes "cdef", bool_text enc.speed_settings.cdef)
    ∷ (codes "lrf", bool_text enc.speed_settings.lrf)
    ∷ (codes "enable_timing_info", bool_text enc.enable_timing_info)
    ∷ []

abbrev pub partition_pairs : SpeedSettings → List Pair
partition_pairs speed =
    (codes "min_block_size", block_size_text (smallest_block speed.partition.partition_range))
    ∷ (codes "max_block_size", block_size_text (largest_block speed.partition.partition_range))
    ∷ (codes "encode_bottomup", bool_text speed.partition.encode_bottomup)
    ∷ (
      codes "non_square_partition_max_threshold",
      block_size_text speed.partition.non_square_partition_max_threshold,
    )
    ∷ []

abbrev pub transform_pairs : SpeedSettings → List Pair
transform_pairs speed =
    (codes "reduced_tx_set", bool_text speed.transform.reduced_tx_set)
    ∷ (codes "tx_domain_distortion", bool_text speed.transform.tx_domain_distortion)
    ∷ (codes "tx_domain_rate", bool_text speed.transform.tx_domain_rate)
    ∷ (codes "rdo_tx_decision", bool_text speed.transform.rdo_tx_decision)
    ∷ []

abbrev pub prediction_pairs : SpeedSettings → List Pair
prediction_pairs speed =
    (codes "prediction_modes", prediction_modes_text speed.prediction.prediction_modes)
    ∷ (codes "fine_directional_intra", bool_text speed.prediction.fine_directional_intra)
    ∷ (codes "include_near_mvs", bool_text speed.motion.include_near_mvs)
    ∷ (codes "use_satd_subpel", bool_text speed.motion.use_satd_subpel)
    ∷ []

-- name=value for each pair, and a blank before it
abbrev pub spaced : List Pair → List ℕ
spaced [] = []
spaced (pair ∷ []) = 32 ∷ (pair.0 ++ (61 ∷ pair.1))
spaced (pair ∷ next ∷ rest) = 32 ∷ (pair.0 ++ (61 ∷ (pair.1 ++ spaced (next ∷ rest))))

-- the same without the blank before the first
abbrev pub joined : List Pair → List ℕ
joined pairs = drop 1 (spaced pairs)

-- the groups in their order
unfoldable pub encoder_text : EncoderConfig → List ℕ
encoder_text enc =
    let speed = enc.speed_settings in
    joined (rate_pairs enc)
    ++ (spaced (frame_pairs enc)
    ++ (spaced (filter_pairs enc)
    ++ (spaced (partition_pairs speed)
    ++ (spaced (transform_pairs speed)
    ++ spaced (prediction_pairs speed)))))
