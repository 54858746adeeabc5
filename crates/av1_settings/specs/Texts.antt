-- What the types of this crate print.
use Rattle.std.specs.Prelude.{ℕ, List, ◌++◌, codes, decimal}
use Rattle.av1_settings.specs.Blocks.{block_width, block_height}
use Rattle.av1_settings.specs.declared.block_size.BlockSize.{BlockSize}
use Rattle.av1_settings.specs.declared.frame_type.FrameType.{FrameType}
use Rattle.av1_settings.specs.declared.frame_type.FrameType.TheVariants.{KEY, INTER, INTRA_ONLY, SWITCH}
use Rattle.av1_settings.specs.declared.invalid.StillOption.{StillOption}
use Rattle.av1_settings.specs.declared.invalid.StillOption.TheVariants.{EnableTimingInfo}
use Rattle.av1_settings.specs.declared.speed.PredictionModesSetting.{PredictionModesSetting}
use Rattle.av1_settings.specs.declared.speed.PredictionModesSetting.TheVariants as modes
use Rattle.av1_settings.specs.declared.speed.SGRComplexityLevel.{SGRComplexityLevel}
use Rattle.av1_settings.specs.declared.speed.SGRComplexityLevel.TheVariants as sgr
use Rattle.av1_settings.specs.declared.speed.SceneDetectionSpeed.{SceneDetectionSpeed}
use Rattle.av1_settings.specs.declared.speed.SceneDetectionSpeed.TheVariants as scenes
use Rattle.av1_settings.specs.declared.speed.SegmentationLevel.{SegmentationLevel}
use Rattle.av1_settings.specs.declared.speed.SegmentationLevel.TheVariants as segmentation
use Rattle.av1_settings.specs.declared.status.EncoderStatus.{EncoderStatus}
use Rattle.av1_settings.specs.declared.status.EncoderStatus.TheVariants.{NeedMoreData, EnoughData, LimitReached, Encoded, Failure, NotReady, FrameSizeMismatch, OutOfMemory}
use Rattle.av1_settings.specs.declared.tune.Tune.{Tune}
use Rattle.av1_settings.specs.declared.tune.Tune.TheVariants.{Psnr, Psychovisual}

abbrev pub frame_type_text : FrameType → List ℕ
frame_type_text KEY = codes "Key frame"
frame_type_text INTER = codes "Inter frame"
frame_type_text INTRA_ONLY = codes "Intra only frame"
frame_type_text SWITCH = codes "Switching frame"

abbrev pub status_text : EncoderStatus → List ℕ
status_text NeedMoreData = codes "need more data"
status_text EnoughData = codes "enough data"
status_text LimitReached = codes "limit reached"
status_text Encoded = codes "encoded"
status_text Failure = codes "failure"
status_text NotReady = codes "not ready"
status_text FrameSizeMismatch = codes "frame size mismatch"
status_text OutOfMemory = codes "out of memory"

abbrev pub still_option_text : StillOption → List ℕ
still_option_text EnableTimingInfo = codes "enable_timing_info"

abbrev pub scene_detection_text : SceneDetectionSpeed → List ℕ
scene_detection_text scenes.Fast = codes "Fast"
scene_detection_text scenes.Standard = codes "Standard"
scene_detection_text scenes.None = codes "None"

abbrev pub prediction_modes_text : PredictionModesSetting → List ℕ
prediction_modes_text modes.Simple = codes "Simple"
prediction_modes_text modes.ComplexKeyframes = codes "Complex-KFs"
prediction_modes_text modes.ComplexAll = codes "Complex-All"

abbrev pub sgr_complexity_text : SGRComplexityLevel → List ℕ
sgr_complexity_text sgr.Full = codes "Full"
sgr_complexity_text sgr.Reduced = codes "Reduced"

abbrev pub segmentation_text : SegmentationLevel → List ℕ
segmentation_text segmentation.Disabled = codes "Disabled"
segmentation_text segmentation.Simple = codes "Simple"
segmentation_text segmentation.Complex = codes "Complex"
segmentation_text segmentation.Full = codes "Full"

abbrev pub tune_text : Tune → List ℕ
tune_text Psnr = codes "Psnr"
tune_text Psychovisual = codes "Psychovisual"

-- width, x, height
unfoldable pub block_size_text : BlockSize → List ℕ
block_size_text size = decimal (block_width size) ++ (codes "x" ++ decimal (block_height size))
