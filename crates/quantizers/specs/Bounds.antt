-- A quantiser, kept within the least index and the greatest.
use Rattle.std.specs.Prelude.{ℕ, nat_lt, Option, Some, None, if◌then◌else◌}
use Rattle.std.specs.Int.{int_min, int_max}
use Rattle.quantizers.specs.Tables.{Tables}
use Rattle.quantizers.specs.Flat.{flat}
use Rattle.quantizers.specs.declared.parameters.LogQuantizer.{LogQuantizer}

abbrev pub at_most : LogQuantizer → LogQuantizer → LogQuantizer
at_most q bound = record { base = int_min q.base bound.base; target = int_min q.target bound.target }

abbrev pub at_least : LogQuantizer → LogQuantizer → LogQuantizer
at_least q bound = record { base = int_max q.base bound.base; target = int_max q.target bound.target }

abbrev pub below_greatest : Option ℕ → Tables → ℕ → ℕ → LogQuantizer → LogQuantizer
below_greatest None tables bit_depth subtype q = q
below_greatest (Some i) tables bit_depth subtype q = at_most q (flat tables bit_depth i subtype)

abbrev pub above_least : ℕ → Tables → ℕ → ℕ → LogQuantizer → LogQuantizer
above_least i tables bit_depth subtype q = if nat_lt 0 i then at_least q (flat tables bit_depth i subtype) else q
