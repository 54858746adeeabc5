-- The tables with steps of eight are tables.
use Rattle.std.proofs.Common.{◌≡◌, ℕ, List, Some, None, refl, subst₂}
use Rattle.std.specs.Prelude.{Option}
use Rattle.quantizers.specs.Tables.{first_bad}
use Rattle.scripted.specs.ScriptedTables.{steps_of_eight}

pub steps_good : first_bad steps_of_eight steps_of_eight ≡ None
steps_good = refl

no_place : (refusal : Option ℕ) (place : ℕ) → refusal ≡ None → refusal ≡ Some place → ⊥
no_place refusal place none some = cc

pub never_bad : (ac dc steps : List ℕ) (place : ℕ) → first_bad steps steps ≡ None → ac ≡ steps → dc ≡ steps → first_bad ac dc ≡ Some place → ⊥
never_bad ac dc steps place good same_ac same_dc bad =
    no_place (first_bad steps steps) place good (subst₂ (λ (ac dc : List ℕ). first_bad ac dc ≡ Some place) same_ac same_dc bad)
