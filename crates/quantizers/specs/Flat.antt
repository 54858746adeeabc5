-- The quantiser of a table index, where no bitrate asks for another.
use Rattle.std.specs.Prelude.{ℕ, slice_index, ℤ, pos, ◌+ℤ◌, ◌-ℤ◌}
use Rattle.std.specs.Int.{int_shr}
use Rattle.fixed_log.specs.Logarithm.{blog64}
use Rattle.quantizers.specs.Tables.{Tables}
use Rattle.quantizers.specs.Nearest.{nearest}
use Rattle.rate_model.specs.FrameSubtypes.{modulated}
use Rattle.quantizers.specs.Parameters.{table_scale}
use Rattle.quantizers.specs.declared.parameters.LogQuantizer.{LogQuantizer}

-- the logarithm of a table value without the table's scale
abbrev pub log_of_value : ℕ → ℕ → ℤ
log_of_value bit_depth value = blog64 (pos value) -ℤ table_scale bit_depth

-- the mean of the logarithms of the AC value and of the DC value that is nearest to it
unfoldable pub flat_base : Tables → ℕ → ℕ → ℤ
flat_base tables bit_depth i =
    let x = slice_index tables.ac i in
    let y = slice_index tables.dc (nearest tables.dc (pos x)) in
    int_shr (log_of_value bit_depth x +ℤ log_of_value bit_depth y +ℤ pos 1) 1

abbrev pub flat : Tables → ℕ → ℕ → ℕ → LogQuantizer
flat tables bit_depth i subtype = record {
  base = flat_base tables bit_depth i;
  target = modulated (flat_base tables bit_depth i) subtype;
}
