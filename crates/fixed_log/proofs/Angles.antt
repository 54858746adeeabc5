-- Bounds on the table's entries.
use Rattle.std.proofs.Common.{◌≡◌, ℕ, zero, suc, ◌<◌, ◌^◌, true, List, [], ◌∷◌, get_or, nat_lt, min, refl, ap, ◌∙◌, arith, pos, ◌<ℤ◌, to_z, w64, FitsSigned}
use Rattle.std.specs.List.{list_all}
use Rattle.std.proofs.lemmas.Bool.Decides.{nat_tests}
use Rattle.std.proofs.lemmas.Int.{ints, to_z_pos}
use Rattle.fixed_log.specs.Table.{atanh_log2, angle_of}

pub get_or_below : (m : ℕ) → 0 < m → (xs : List ℕ) → list_all (λ a. nat_lt a m) xs ≡ true → (i : ℕ) → get_or xs i 0 < m
get_or_below m p [] all i = p
get_or_below m p (x ∷ xs) all zero = grind (arith, nat_tests)
get_or_below m p (x ∷ xs) all (suc i) = get_or_below m p xs (grind (arith, nat_tests)) i

entry_below : (i : ℕ) → get_or atanh_log2 i 0 < 2 ^ 62
entry_below i = get_or_below (2 ^ 62) (omega arith) atanh_log2 refl i

pub angle_of_small : (i : ℕ) → angle_of i < 2 ^ 62
unfolding angle_of
angle_of_small i = entry_below (min i 31)

pub entry_fits : (i : ℕ) → FitsSigned w64 (pos (get_or atanh_log2 i 0))
entry_fits i = record { sfits = omega (arith, entry_below i) }

pub entry_is_angle : (i j : ℕ) → j ≡ min i 31 → to_z w64 (get_or atanh_log2 j 0) ≡ pos (angle_of i)
unfolding angle_of
entry_is_angle i j e = to_z_pos w64 _ (omega (arith, entry_below j)) ∙ ap (λ n. pos (get_or atanh_log2 n 0)) e

pub entry_small : (j : ℕ) → to_z w64 (get_or atanh_log2 j 0) <ℤ pos (2 ^ 62)
entry_small j = rw (to_z_pos w64 (get_or atanh_log2 j 0) (omega (arith, entry_below j))) (omega (arith, ints, entry_below j))
