-- Sums of counts: in any order, in any groups, and with nothing; and the sums of the first counts, one more at a time.
use Rattle.std.proofs.Common.{◌≡◌, ℕ, suc, zero, ◌+◌, ◌<◌, ◌≤◌, ◌^◌, List, [], ◌∷◌, ◌++◌, length, replicate, take, drop, get_or, set, refl, ap, ◌∙◌, arith}
use Rattle.av1_settings.specs.Stats.{saturated_sum, counts_sum, SumsAssociate, SumsCommute}

pub saturated_sum-comm : (a b : ℕ) → saturated_sum a b ≡ saturated_sum b a
saturated_sum-comm a b = omega arith

pub saturated_sum-assoc : (a b c : ℕ) → saturated_sum (saturated_sum a b) c ≡ saturated_sum a (saturated_sum b c)
saturated_sum-assoc a b c = omega arith

pub saturated_sum-zero : (n : ℕ) → n < 2 ^ 64 → saturated_sum n 0 ≡ n
saturated_sum-zero n fits = omega arith

pub counts_sum-comm : (xs ys : List ℕ) → counts_sum xs ys ≡ counts_sum ys xs
counts_sum-comm [] [] = refl
counts_sum-comm [] (y ∷ ys) = refl
counts_sum-comm (x ∷ xs) [] = refl
counts_sum-comm (x ∷ xs) (y ∷ ys) = λ i. saturated_sum-comm x y i ∷ counts_sum-comm xs ys i

pub counts_sum-assoc : (xs ys zs : List ℕ) → counts_sum (counts_sum xs ys) zs ≡ counts_sum xs (counts_sum ys zs)
counts_sum-assoc [] ys zs = refl
counts_sum-assoc (x ∷ xs) [] zs = refl
counts_sum-assoc (x ∷ xs) (y ∷ ys) [] = refl
counts_sum-assoc (x ∷ xs) (y ∷ ys) (z ∷ zs) = λ i. saturated_sum-assoc x y z i ∷ counts_sum-assoc xs ys zs i

pub stats_sum-comm : SumsCommute
stats_sum-comm a b = λ i. record {
  block_size_counts = counts_sum-comm a.block_size_counts b.block_size_counts i;
  skip_block_count = saturated_sum-comm a.skip_block_count b.skip_block_count i;
  tx_type_counts = counts_sum-comm a.tx_type_counts b.tx_type_counts i;
  luma_pred_mode_counts = counts_sum-comm a.luma_pred_mode_counts b.luma_pred_mode_counts i;
  chroma_pred_mode_counts = counts_sum-comm a.chroma_pred_mode_counts b.chroma_pred_mode_counts i;
}

pub stats_sum-assoc : SumsAssociate
stats_sum-assoc a b c = λ i. record {
  block_size_counts = counts_sum-assoc a.block_size_counts b.block_size_counts c.block_size_counts i;
  skip_block_count = saturated_sum-assoc a.skip_block_count b.skip_block_count c.skip_block_count i;
  tx_type_counts = counts_sum-assoc a.tx_type_counts b.tx_type_counts c.tx_type_counts i;
  luma_pred_mode_counts = counts_sum-assoc a.luma_pred_mode_counts b.luma_pred_mode_counts c.luma_pred_mode_counts i;
  chroma_pred_mode_counts =
      counts_sum-assoc a.chroma_pred_mode_counts b.chroma_pred_mode_counts c.chroma_pred_mode_counts i;
}

pub counts_sum-zeros : (xs : List ℕ) → ((i : ℕ) → get_or xs i 0 < 2 ^ 64) → counts_sum xs (replicate (length xs) 0) ≡ xs
counts_sum-zeros [] fit = refl
counts_sum-zeros (x ∷ xs) fit =
    λ i. saturated_sum-zero x (fit 0) i ∷ counts_sum-zeros xs (λ k. fit (suc k)) i

-- one more count is summed
pub counts_sum-suc : (k : ℕ) (xs ys : List ℕ) → k < length xs → length ys ≡ length xs
    → set (counts_sum (take k xs) (take k ys) ++ drop k xs) k (saturated_sum (get_or xs k 0) (get_or ys k 0))
    ≡ counts_sum (take (suc k) xs) (take (suc k) ys) ++ drop (suc k) xs
counts_sum-suc k [] ys below same = let never : ⊥ = omega arith in absurd never
counts_sum-suc k (x ∷ xs) [] below same = let never : ⊥ = omega arith in absurd never
counts_sum-suc zero (x ∷ xs) (y ∷ ys) below same = refl
counts_sum-suc (suc k) (x ∷ xs) (y ∷ ys) below same =
    let less : k < length xs = omega arith in
    let alike : length ys ≡ length xs = omega arith in
    ap (λ zs. saturated_sum x y ∷ zs) (counts_sum-suc k xs ys less alike)

pub counts_sum-next : (k : ℕ) (xs ys : List ℕ) → k < length xs → length ys ≡ length xs
    → set (counts_sum (take k xs) (take k ys) ++ drop k xs) k (saturated_sum (get_or xs k 0) (get_or ys k 0))
    ≡ counts_sum (take (k + 1) xs) (take (k + 1) ys) ++ drop (k + 1) xs
counts_sum-next k xs ys below same =
    let next : suc k ≡ k + 1 = omega arith in
    counts_sum-suc k xs ys below same ∙ ap (λ n. counts_sum (take n xs) (take n ys) ++ drop n xs) next

-- no count is summed yet
pub counts_sum-none : (xs ys : List ℕ) → xs ≡ counts_sum (take 0 xs) (take 0 ys) ++ drop 0 xs
counts_sum-none [] ys = refl
counts_sum-none (x ∷ xs) ys = refl

-- every count is summed
pub counts_sum-all : (k : ℕ) (xs ys : List ℕ) → length xs ≤ k → length ys ≡ length xs
    → counts_sum (take k xs) (take k ys) ++ drop k xs ≡ counts_sum xs ys
counts_sum-all zero [] [] all same = refl
counts_sum-all (suc k) [] [] all same = refl
counts_sum-all k [] (y ∷ ys) all same = let never : ⊥ = omega arith in absurd never
counts_sum-all k (x ∷ xs) [] all same = let never : ⊥ = omega arith in absurd never
counts_sum-all zero (x ∷ xs) (y ∷ ys) all same = let never : ⊥ = omega arith in absurd never
counts_sum-all (suc k) (x ∷ xs) (y ∷ ys) all same =
    let fewer : length xs ≤ k = omega arith in
    let alike : length ys ≡ length xs = omega arith in
    ap (λ zs. saturated_sum x y ∷ zs) (counts_sum-all k xs ys fewer alike)

-- the counts from the next one on are as they were
pub get_or-next : (k : ℕ) (xs ys : List ℕ) → k < length xs → length ys ≡ length xs
    → get_or (counts_sum (take k xs) (take k ys) ++ drop k xs) k 0 ≡ get_or xs k 0
get_or-next k [] ys below same = let never : ⊥ = omega arith in absurd never
get_or-next k (x ∷ xs) [] below same = let never : ⊥ = omega arith in absurd never
get_or-next zero (x ∷ xs) (y ∷ ys) below same = refl
get_or-next (suc k) (x ∷ xs) (y ∷ ys) below same =
    let less : k < length xs = omega arith in
    let alike : length ys ≡ length xs = omega arith in
    get_or-next k xs ys less alike
