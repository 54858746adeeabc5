-- The speed presets, from 0, the slowest, to 10.
use Rattle.std.specs.Prelude.{ℕ, ◌-◌, true, false, List, [], ◌∷◌, take, drop, refl}
use Rattle.av1_settings.specs.Partitions.{partition_range}
use Rattle.av1_settings.specs.declared.block_size.BlockSize.TheVariants.{BLOCK_4X4, BLOCK_8X8, BLOCK_16X16, BLOCK_32X32, BLOCK_64X64}
use Rattle.av1_settings.specs.declared.speed.SpeedSettings.{SpeedSettings}
use Rattle.av1_settings.specs.declared.speed.PredictionModesSetting.TheVariants as modes
use Rattle.av1_settings.specs.declared.speed.SGRComplexityLevel.TheVariants as sgr
use Rattle.av1_settings.specs.declared.speed.SceneDetectionSpeed.TheVariants as scenes
use Rattle.av1_settings.specs.declared.speed.SegmentationLevel.TheVariants as segmentation

-- preset 0
abbrev pub slowest : SpeedSettings
slowest = record {
  multiref = true;
  fast_deblock = false;
  rdo_lookahead_frames = 40;
  scene_detection_mode = scenes.Standard;
  cdef = true;
  lrf = true;
  lru_on_skip = true;
  sgr_complexity = sgr.Full;
  segmentation = segmentation.Complex;
  partition = record {
    encode_bottomup = true;
    non_square_partition_max_threshold = BLOCK_64X64;
    partition_range = partition_range BLOCK_4X4 BLOCK_64X64 refl;
  };
  transform = record {
    reduced_tx_set = false;
    tx_domain_distortion = true;
    tx_domain_rate = false;
    rdo_tx_decision = true;
    enable_inter_tx_split = false;
  };
  prediction = record { prediction_modes = modes.ComplexAll; fine_directional_intra = true };
  motion = record { use_satd_subpel = true; include_near_mvs = true; me_allow_full_search = true };
}

-- what each preset from 1 on changes; the rest it keeps as in the one before
abbrev pub preset_changes : List (SpeedSettings → SpeedSettings)
preset_changes =
    -- 1
    (λ s. record s { lru_on_skip = false; segmentation = segmentation.Simple })
    -- 2
    ∷ (λ s. record s {
      partition = record s.partition { non_square_partition_max_threshold = BLOCK_8X8 };
      prediction = record s.prediction { prediction_modes = modes.ComplexKeyframes };
    })
    -- 3
    ∷ (λ s. record s {
      rdo_lookahead_frames = 30;
      partition = record s.partition { partition_range = partition_range BLOCK_8X8 BLOCK_64X64 refl };
    })
    -- 4
    ∷ (λ s. record s { partition = record s.partition { encode_bottomup = false } })
    -- 5
    ∷ (λ s. record s { sgr_complexity = sgr.Reduced; motion = record s.motion { include_near_mvs = false } })
    -- 6
    ∷ (λ s. record s {
      rdo_lookahead_frames = 20;
      transform = record s.transform { rdo_tx_decision = false; reduced_tx_set = true };
      motion = record s.motion { me_allow_full_search = false };
    })
    -- 7
    ∷ (λ s. record s {
      multiref = false;
      fast_deblock = true;
      prediction = record s.prediction { prediction_modes = modes.Simple };
    })
    -- 8
    ∷ (λ s. record s { rdo_lookahead_frames = 10; lrf = false })
    -- 9
    ∷ (λ s. record s {
      partition = record s.partition { partition_range = partition_range BLOCK_16X16 BLOCK_32X32 refl };
      transform = record s.transform { enable_inter_tx_split = true };
    })
    -- 10
    ∷ (λ s. record s {
      scene_detection_mode = scenes.Fast;
      partition = record s.partition { partition_range = partition_range BLOCK_32X32 BLOCK_32X32 refl };
      motion = record s.motion { use_satd_subpel = false };
    })
    ∷ []

-- settings after changes, one after the other
abbrev pub changed_by : List (SpeedSettings → SpeedSettings) → SpeedSettings → SpeedSettings
changed_by [] settings = settings
changed_by (change ∷ rest) settings = changed_by rest (change settings)

-- settings after the changes of one preset
unfoldable pub preset_change : ℕ → SpeedSettings → SpeedSettings
preset_change preset settings = changed_by (take 1 (drop (preset - 1) preset_changes)) settings

-- a preset: the changes of all up to it, on preset 0; beyond 10 nothing changes any more
unfoldable pub from_preset : ℕ → SpeedSettings
from_preset speed = changed_by (take speed preset_changes) slowest
