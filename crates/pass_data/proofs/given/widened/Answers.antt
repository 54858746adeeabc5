use Rattle.std.proofs.Common.{◌≡◌, List, [], ◌∷◌, length, slice_index_or, ℤ, pos, rules, refl, arith, to_z, of_z, w64}
use Rattle.std.specs.Int.{w128}
use Rattle.pass_data.proofs.given.widened.Goals as goal

four : (xs : List ℤ) → length xs ≡ 4 → slice_index_or xs 0 (pos 0) ∷ slice_index_or xs 1 (pos 0) ∷ slice_index_or xs 2 (pos 0) ∷ slice_index_or xs 3 (pos 0) ∷ [] ≡ xs
four [] h = absurd (omega arith)
four (a ∷ []) h = absurd (omega arith)
four (a ∷ b ∷ []) h = absurd (omega arith)
four (a ∷ b ∷ c ∷ []) h = absurd (omega arith)
four (a ∷ b ∷ c ∷ d ∷ []) h = refl
four (a ∷ b ∷ c ∷ d ∷ e ∷ xs) h = absurd (omega arith)

pub returns : goal.returns
returns c =
    let xs = c.args.sums.now in
    let len : length xs ≡ 4 = search rules in
    let a : to_z w128 (of_z w128 (to_z w64 (of_z w64 (slice_index_or xs 0 (pos 0))))) ≡ slice_index_or xs 0 (pos 0) = search rules in
    let b : to_z w128 (of_z w128 (to_z w64 (of_z w64 (slice_index_or xs 1 (pos 0))))) ≡ slice_index_or xs 1 (pos 0) = search rules in
    let d : to_z w128 (of_z w128 (to_z w64 (of_z w64 (slice_index_or xs 2 (pos 0))))) ≡ slice_index_or xs 2 (pos 0) = search rules in
    let e : to_z w128 (of_z w128 (to_z w64 (of_z w64 (slice_index_or xs 3 (pos 0))))) ≡ slice_index_or xs 3 (pos 0) = search rules in
    rw (a, b, d, e) (four xs len)
