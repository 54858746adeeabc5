-- What sets the quantiser of a frame subtype apart from the base.
use Rattle.std.specs.Prelude.{ℕ, zero, suc, ℤ, pos, negsuc, ◌+ℤ◌, ◌*ℤ◌}
use Rattle.std.specs.Int.{int_shr}

-- by how much the quantiser's logarithm, in Q57, lies above the base: for I, P, B0 and B1
abbrev pub offset_of : ℕ → ℤ
offset_of zero = negsuc 56_629_159_325_661_975
offset_of (suc zero) = pos 0
offset_of (suc (suc zero)) = pos 56_629_159_325_661_976
offset_of (suc (suc (suc _))) = pos 113_258_318_651_323_952

-- the base, rounded to 45 bits behind the point, with the subtype's offset
abbrev pub modulated : ℤ → ℕ → ℤ
modulated base subtype = int_shr (base +ℤ pos 2048) 12 *ℤ pos 4096 +ℤ offset_of subtype
