-- Sizes of blocks.
use Rattle.std.specs.Prelude.{ℕ, Bool, ◌==◌, ◌&&◌, nat_le}
use Rattle.av1_settings.specs.declared.block_size.BlockSize.{BlockSize}
use Rattle.av1_settings.specs.declared.block_size.BlockSize.TheVariants.{BLOCK_4X4, BLOCK_4X8, BLOCK_8X4, BLOCK_8X8, BLOCK_8X16, BLOCK_16X8, BLOCK_16X16, BLOCK_16X32, BLOCK_32X16, BLOCK_32X32, BLOCK_32X64, BLOCK_64X32, BLOCK_64X64, BLOCK_64X128, BLOCK_128X64, BLOCK_128X128, BLOCK_4X16, BLOCK_16X4, BLOCK_8X32, BLOCK_32X8, BLOCK_16X64, BLOCK_64X16}

-- width and height in luma samples
abbrev pub block_dimensions : BlockSize → ℕ × ℕ
block_dimensions BLOCK_4X4 = (4, 4)
block_dimensions BLOCK_4X8 = (4, 8)
block_dimensions BLOCK_8X4 = (8, 4)
block_dimensions BLOCK_8X8 = (8, 8)
block_dimensions BLOCK_8X16 = (8, 16)
block_dimensions BLOCK_16X8 = (16, 8)
block_dimensions BLOCK_16X16 = (16, 16)
block_dimensions BLOCK_16X32 = (16, 32)
block_dimensions BLOCK_32X16 = (32, 16)
block_dimensions BLOCK_32X32 = (32, 32)
block_dimensions BLOCK_32X64 = (32, 64)
block_dimensions BLOCK_64X32 = (64, 32)
block_dimensions BLOCK_64X64 = (64, 64)
block_dimensions BLOCK_64X128 = (64, 128)
block_dimensions BLOCK_128X64 = (128, 64)
block_dimensions BLOCK_128X128 = (128, 128)
block_dimensions BLOCK_4X16 = (4, 16)
block_dimensions BLOCK_16X4 = (16, 4)
block_dimensions BLOCK_8X32 = (8, 32)
block_dimensions BLOCK_32X8 = (32, 8)
block_dimensions BLOCK_16X64 = (16, 64)
block_dimensions BLOCK_64X16 = (64, 16)

abbrev pub block_width : BlockSize → ℕ
block_width size = (block_dimensions size).0

abbrev pub block_height : BlockSize → ℕ
block_height size = (block_dimensions size).1

-- as wide as high
abbrev pub is_square : BlockSize → Bool
is_square size = block_width size == block_height size

-- two square sizes, the second at least as large
abbrev pub is_range : BlockSize → BlockSize → Bool
is_range smallest largest =
    is_square smallest && (is_square largest && nat_le (block_width smallest) (block_width largest))
