-- The running reservoir is the ledger's minimum.
use Rattle.std.proofs.Common.{◌≡◌, List, [], ◌∷◌, map, ap, ◌∙◌, arith, ℤ, pos, ◌+ℤ◌}
use Rattle.std.specs.List.{fold}
use Rattle.std.specs.Int.{int_min}
use Rattle.std.proofs.lemmas.Int.{ints, clamps}
use Rattle.ratecontrol.specs.Ledger.{total, later_changes, ledger}

abbrev pub capped : ℤ → ℤ → ℤ → ℤ
capped most r x = int_min (r +ℤ x) most

min_plus : (a x most t : ℤ) → int_min (a +ℤ x) most +ℤ t ≡ int_min (a +ℤ (x +ℤ t)) (most +ℤ t)
min_plus a x most t = omega (arith, ints, clamps)

plus_zero : (a : ℤ) → a ≡ a +ℤ pos 0
plus_zero a = omega (arith, ints)

pub capped_is_ledger : (most start : ℤ) (xs : List ℤ) → fold (capped most) start xs ≡ ledger start most xs
capped_is_ledger most start [] = plus_zero start
capped_is_ledger most start (x ∷ xs) =
    capped_is_ledger most (int_min (start +ℤ x) most) xs
    ∙ ap (λ z. fold int_min z (map (λ (later : List ℤ). most +ℤ total later) (later_changes xs))) (min_plus start x most (total xs))
