-- What the colour settings say.
use Rattle.std.specs.Prelude.{Bool, true, false, ◌&&◌, Option, Some, None}
use Rattle.av1_frame.specs.declared.sampling.ChromaSampling.{ChromaSampling}
use Rattle.av1_frame.specs.declared.sampling.ChromaSampling.TheVariants.{Cs420, Cs422, Cs444, Cs400}
use Rattle.av1_settings.specs.declared.color.ColorDescription.{ColorDescription}
use Rattle.av1_settings.specs.declared.color.ColorPrimaries.{ColorPrimaries}
use Rattle.av1_settings.specs.declared.color.ColorPrimaries.TheVariants as primaries
use Rattle.av1_settings.specs.declared.color.MatrixCoefficients.{MatrixCoefficients}
use Rattle.av1_settings.specs.declared.color.MatrixCoefficients.TheVariants as matrices
use Rattle.av1_settings.specs.declared.color.PixelRange.{PixelRange}
use Rattle.av1_settings.specs.declared.color.PixelRange.TheVariants.{Limited, Full}
use Rattle.av1_settings.specs.declared.color.TransferCharacteristics.{TransferCharacteristics}
use Rattle.av1_settings.specs.declared.color.TransferCharacteristics.TheVariants as transfers
use Rattle.av1_settings.specs.declared.encoder.EncoderConfig.{EncoderConfig}

-- the perceptual quantizer of SMPTE ST 2084
abbrev pub is_perceptual_quantizer : TransferCharacteristics → Bool
is_perceptual_quantizer transfers.SMPTE2084 = true
is_perceptual_quantizer _ = false

abbrev pub has_perceptual_quantizer : Option ColorDescription → Bool
has_perceptual_quantizer None = false
has_perceptual_quantizer (Some description) = is_perceptual_quantizer description.transfer_characteristics

-- the content has a high dynamic range
abbrev pub is_hdr : EncoderConfig → Bool
is_hdr enc = has_perceptual_quantizer enc.color_description

abbrev pub is_bt709 : ColorPrimaries → Bool
is_bt709 primaries.BT709 = true
is_bt709 _ = false

abbrev pub is_srgb : TransferCharacteristics → Bool
is_srgb transfers.SRGB = true
is_srgb _ = false

abbrev pub is_identity : MatrixCoefficients → Bool
is_identity matrices.Identity = true
is_identity _ = false

-- the samples are said to be red, green and blue themselves: BT.709, sRGB and no matrix
abbrev pub is_rgb : Option ColorDescription → Bool
is_rgb None = false
is_rgb (Some description) =
    is_bt709 description.color_primaries
    && (is_srgb description.transfer_characteristics
    && is_identity description.matrix_coefficients)

abbrev pub is_full : PixelRange → Bool
is_full Limited = false
is_full Full = true

-- chroma planes of the full size
abbrev pub is_full_chroma : ChromaSampling → Bool
is_full_chroma Cs420 = false
is_full_chroma Cs422 = false
is_full_chroma Cs444 = true
is_full_chroma Cs400 = false
