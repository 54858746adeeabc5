-- The subtypes at the start.
use Rattle.std.specs.Prelude.{ℕ, zero, suc, List, [], ◌∷◌, ℤ, pos, ◌-ℤ◌, int_lt, if◌then◌else◌}
use Rattle.fixed_log.specs.Conversion.{q57, q57_to_q24}
use Rattle.fixed_log.specs.Logarithm.{blog64}
use Rattle.fixed_log.specs.Bessel.{follower}
use Rattle.rate_model.specs.Subtype.{SubtypeRate}

-- the exponent of a subtype, and its scale in eighths, by the pixels for each bit of a temporal unit
pub record Curve : Type 0 where
  pub exponent : ℕ
  pub scale : ℕ

abbrev pub curve : ℕ → ℕ → Curve
curve exponent scale = record { exponent = exponent; scale = scale }

abbrev pub curve_by : ℤ → ℕ → Curve → ℕ → Curve → Curve → Curve
curve_by ibpp first low second middle high =
    if int_lt ibpp (pos first) then low else (if int_lt ibpp (pos second) then middle else high)

abbrev pub curve_of : ℕ → ℤ → Curve
curve_of zero ibpp = curve_by ibpp 1 (curve 48 36) 4 (curve 61 55) (curve 77 129)
curve_of (suc zero) ibpp = curve_by ibpp 2 (curve 69 32) 139 (curve 104 84) (curve 83 19)
curve_of (suc (suc zero)) ibpp = curve_by ibpp 2 (curve 84 30) 92 (curve 120 68) (curve 68 4)
curve_of (suc (suc (suc _))) ibpp = curve_by ibpp 2 (curve 87 27) 126 (curve 139 84) (curve 61 1)

abbrev pub start_scale : ℕ → ℤ
start_scale scale = blog64 (pos scale) -ℤ q57 (pos 3)

-- a filter follows key frames with a delay of 4 at first, and others with one of 10; that of inter frames grows later
abbrev pub start_subtype : ℤ → Curve → SubtypeRate
start_subtype delay c = record {
  exponent = c.exponent;
  log_scale = start_scale c.scale;
  filter = follower delay (q57_to_q24 (start_scale c.scale));
  delay = delay;
  frames = pos 0;
}

unfoldable pub start_subtypes : ℤ → List SubtypeRate
start_subtypes ibpp =
    start_subtype (pos 4) (curve_of 0 ibpp) ∷ start_subtype (pos 10) (curve_of 1 ibpp) ∷ start_subtype (pos 10) (curve_of 2 ibpp)
    ∷ start_subtype (pos 10) (curve_of 3 ibpp) ∷ []
