-- Numbers at a position of a list of bytes, the lowest byte first.
use Rattle.std.specs.Prelude.{ℕ, ◌<◌, ℤ, List, slice_index, take, drop}
use Rattle.std.specs.Int.{w32, w64, from_le_bytes, to_le_bytes, cast_signed, cast_unsigned}

-- each element is a byte
abbrev pub AreBytes : List ℕ → Type 0
AreBytes bytes = (i : ℕ) → slice_index bytes i < 256

-- the four bytes from `at` on, as an unsigned number
unfoldable pub u32_at : List ℕ → ℕ → ℕ
u32_at bytes at = from_le_bytes w32 (take 4 (drop at bytes))

-- the four bytes from `at` on, as a signed number
unfoldable pub i32_at : List ℕ → ℕ → ℤ
i32_at bytes at = cast_signed w32 (from_le_bytes w32 (take 4 (drop at bytes)))

-- the eight bytes from `at` on, as a signed number
unfoldable pub i64_at : List ℕ → ℕ → ℤ
i64_at bytes at = cast_signed w64 (from_le_bytes w64 (take 8 (drop at bytes)))

-- the four bytes of a signed number
unfoldable pub i32_bytes : ℤ → List ℕ
i32_bytes z = to_le_bytes w32 (cast_unsigned w32 z)

-- the eight bytes of a signed number
unfoldable pub i64_bytes : ℤ → List ℕ
i64_bytes z = to_le_bytes w64 (cast_unsigned w64 z)
