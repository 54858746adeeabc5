-- The four bytes that a container says of a stream (the av1C box of the AV1 binding to ISO media files).
use Rattle.std.specs.Prelude.{ℕ, ◌+◌, ◌*◌, Bool, true, false, ◌==◌, nat_lt, if◌then◌else◌, List, [], ◌∷◌}
use Rattle.av1_frame.specs.declared.sampling.ChromaSampling.{ChromaSampling}
use Rattle.av1_frame.specs.declared.sampling.ChromaSampling.TheVariants.{Cs420, Cs422, Cs444, Cs400}
use Rattle.av1_settings.specs.declared.encoder.EncoderConfig.{EncoderConfig}

-- the profile for a sampling: 2 for 4:2:2, 1 for 4:4:4, else 0
abbrev pub sampling_profile : ChromaSampling → ℕ
sampling_profile Cs420 = 0
sampling_profile Cs422 = 2
sampling_profile Cs444 = 1
sampling_profile Cs400 = 0

-- the profile: 2 for 12 bits too
abbrev pub profile : EncoderConfig → ℕ
profile enc = if enc.bit_depth == 12 then 2 else sampling_profile enc.chroma_sampling

abbrev pub is_monochrome : ChromaSampling → Bool
is_monochrome Cs420 = false
is_monochrome Cs422 = false
is_monochrome Cs444 = false
is_monochrome Cs400 = true

-- chroma has half the width, and so for 4:0:0 too
abbrev pub subsampling_x : ChromaSampling → Bool
subsampling_x Cs420 = true
subsampling_x Cs422 = true
subsampling_x Cs444 = false
subsampling_x Cs400 = true

-- chroma has half the height, but not for 4:0:0
abbrev pub subsampling_y : ChromaSampling → Bool
subsampling_y Cs420 = true
subsampling_y Cs422 = false
subsampling_y Cs444 = false
subsampling_y Cs400 = false

-- a bit of this value
abbrev pub flag : Bool → ℕ → ℕ
flag set value = if set then value else 0

-- high_bitdepth, twelve_bit, monochrome, chroma_subsampling_x and chroma_subsampling_y, from bit 6 down
abbrev pub format_byte : EncoderConfig → ℕ
format_byte enc =
    flag (nat_lt 8 enc.bit_depth) 64
    + flag (enc.bit_depth == 12) 32
    + flag (is_monochrome enc.chroma_sampling) 16
    + flag (subsampling_x enc.chroma_sampling) 8
    + flag (subsampling_y enc.chroma_sampling) 4

-- marker and version, profile above the greatest level, format, no delay
abbrev pub container_sequence_header : EncoderConfig → List ℕ
container_sequence_header enc = 0x81 ∷ (profile enc * 32 + 31) ∷ format_byte enc ∷ 0 ∷ []
