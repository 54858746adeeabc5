-- The quantisers of the three planes, from the one that a frame aims at. All are logarithms in Q57.
use Rattle.std.specs.Prelude.{ℕ, ◌==◌, Bool, not, ◌&&◌, ℤ, pos, ◌+ℤ◌, ◌-ℤ◌, ◌*ℤ◌, if◌then◌else◌}
use Rattle.std.specs.Int.{int_shr, int_max}
use Rattle.av1_frame.specs.declared.sampling.ChromaSampling.{ChromaSampling}
use Rattle.av1_frame.specs.declared.sampling.ChromaSampling.TheVariants.{Cs420, Cs422, Cs444, Cs400}

-- the luma of an inter frame of 8 bits: slope, of scale 2^32, and offset
abbrev pub luma_slope : ChromaSampling → ℤ
luma_slope Cs420 = pos 0x8A0_50DD
luma_slope Cs422 = pos 0x887_7666
luma_slope Cs444 = pos 0x8D4_A712
luma_slope Cs400 = pos 0

abbrev pub luma_offset : ChromaSampling → ℤ
luma_offset Cs420 = pos 0 -ℤ pos 0x24_4FE7_ECB3_DD90
luma_offset Cs422 = pos 0 -ℤ pos 0x37_41DA_38AD_0924
luma_offset Cs444 = pos 0 -ℤ pos 0x70_83BD_A626_311C
luma_offset Cs400 = pos 0

abbrev pub adjusted_luma : ChromaSampling → ℤ → ℤ
adjusted_luma chroma target = target +ℤ int_shr target 32 *ℤ luma_slope chroma +ℤ luma_offset chroma

abbrev pub luma_of : ChromaSampling → ℕ → Bool → ℤ → ℤ
luma_of chroma bit_depth intra target = if (bit_depth == 8) && not intra then adjusted_luma chroma target else target

-- by how much both chroma planes lie below their own offsets, from the luma with the mean scale, where that isn't negative
abbrev pub chroma_drop : ChromaSampling → ℤ → ℤ
chroma_drop Cs420 x = int_shr x 2 +ℤ int_shr x 6
chroma_drop Cs422 x = (int_shr x 3 +ℤ int_shr x 4) -ℤ int_shr x 7
chroma_drop Cs444 x = (int_shr x 4 +ℤ int_shr x 5) +ℤ int_shr x 8
chroma_drop Cs400 x = pos 0

abbrev pub u_of : ChromaSampling → ℤ → ℤ → ℤ
u_of chroma luma mean_scale =
    luma +ℤ pos 0x19D_5D9F_D501_0B37 -ℤ chroma_drop chroma (int_max (pos 0) (luma +ℤ mean_scale))

abbrev pub v_of : ChromaSampling → ℤ → ℤ → ℤ
v_of chroma luma mean_scale =
    luma +ℤ pos 0xA4_D3C2_5E68_DC58 -ℤ chroma_drop chroma (int_max (pos 0) (luma +ℤ mean_scale))
