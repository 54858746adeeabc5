-- The numbers of refusals.
use Rattle.std.specs.Prelude.{ℕ}
use Rattle.av1_settings.specs.declared.invalid.InvalidConfig.{InvalidConfig}
use Rattle.av1_settings.specs.declared.invalid.InvalidConfig.TheVariants.{InvalidWidth, InvalidHeight, InvalidAspectRatioNum, InvalidAspectRatioDen, InvalidRenderWidth, InvalidRenderHeight, InvalidRdoLookaheadFrames, InvalidMaxKeyFrameInterval, InvalidTileCols, InvalidTileRows, InvalidFrameRateNum, InvalidFrameRateDen, InvalidReservoirFrameDelay, InvalidSwitchFrameInterval, InvalidOptionWithStillPicture, TargetBitrateNeeded, RateControlConfigurationMismatch, ColorConfigurationMismatch, LevelUndefined, LevelConstraintsExceeded, InvalidQuantizer, InvalidBitDepth}

-- the number that a report prints
abbrev pub number_of : InvalidConfig → ℕ
number_of (InvalidWidth _) = 1
number_of (InvalidHeight _) = 2
number_of (InvalidAspectRatioNum _) = 3
number_of (InvalidAspectRatioDen _) = 4
number_of (InvalidRenderWidth _) = 5
number_of (InvalidRenderHeight _) = 6
number_of (InvalidRdoLookaheadFrames _ _ _) = 7
number_of (InvalidMaxKeyFrameInterval _ _) = 8
number_of (InvalidTileCols _) = 9
number_of (InvalidTileRows _) = 10
number_of (InvalidFrameRateNum _ _) = 11
number_of (InvalidFrameRateDen _ _) = 12
number_of (InvalidReservoirFrameDelay _) = 13
number_of (InvalidSwitchFrameInterval _) = 14
number_of (InvalidOptionWithStillPicture _) = 15
number_of TargetBitrateNeeded = 16
number_of RateControlConfigurationMismatch = 17
number_of ColorConfigurationMismatch = 18
number_of LevelUndefined = 19
number_of LevelConstraintsExceeded = 20
number_of (InvalidQuantizer _) = 21
number_of (InvalidBitDepth _) = 22
