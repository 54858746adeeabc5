-- The tally of a list with one metric more, or less.
use Rattle.std.proofs.Common.{◌≡◌, ℕ, zero, suc, ◌+◌, ◌<◌, ◌≤◌, ◌^◌, ◌==◌, nat_lt, Bool, true, false, cond, List, [], ◌∷◌, ◌++◌, map, length, length-append, refl, sym, ◌∙◌, ap, subst, arith, ℤ, pos, negsuc, ◌+ℤ◌, ◌-ℤ◌, slice_set}
use Rattle.std.specs.List.{filter}
use Rattle.std.specs.Int.{saturate_signed, w32}
use Rattle.std.proofs.lemmas.Int.{ints}
use Rattle.std.proofs.lemmas.List.{append-nil}
use Rattle.std.proofs.lemmas.Bool.Decides.{nat_tests}
use Rattle.std.proofs.lemmas.Bool.{false≢true}
use Rattle.fixed_log.specs.Within.{IsWithin}
use Rattle.pass_stats.specs.declared.metrics.RCFrameMetrics.{RCFrameMetrics}
use Rattle.metrics_window.specs.declared.tally.Tally.{Tally}
use Rattle.metrics_window.specs.Tallies.{FAR, not_far, number_at, scale_of, count_of, sum_of, shown_of, is_of, is_shown, total, tally_of, more, less}
use Rattle.metrics_window.proofs.Bounds.{fits_32, near_is, sum_within, length-filter}

abbrev pub bit : Bool → ℕ
bit true = 1
bit false = 0

abbrev pub part : Bool → ℤ → ℤ
part true z = z
part false z = pos 0

-- ---- a list with a metric in it, and without

pub length-insert : (p : RCFrameMetrics → Bool) (xs : List RCFrameMetrics) (m : RCFrameMetrics) (ys : List RCFrameMetrics)
    → length (filter p (xs ++ m ∷ ys)) ≡ length (filter p (xs ++ ys)) + bit (p m)
length-insert p [] m ys =
    elim (p m) as (λ b. length (cond b (m ∷ filter p ys) (filter p ys)) ≡ length (filter p ys) + bit b) [ true ↦ omega arith | false ↦ omega arith ]
length-insert p (x ∷ xs) m ys =
    let rest = length-insert p xs m ys in
    elim (p x) as (λ b. length (cond b (x ∷ filter p (xs ++ m ∷ ys)) (filter p (xs ++ m ∷ ys))) ≡ length (cond b (x ∷ filter p (xs ++ ys)) (filter p (xs ++ ys))) + bit (p m)) [
      | true ↦ omega arith
      | false ↦ rest
    ]

added : (x y z : ℤ) → x +ℤ (y +ℤ z) ≡ (x +ℤ y) +ℤ z
added x y z = omega (arith, ints)

none_added : (y : ℤ) → y ≡ y +ℤ pos 0
none_added y = omega (arith, ints)

swapped : (x y : ℤ) → x +ℤ y ≡ y +ℤ x
swapped x y = omega (arith, ints)

total-insert : (p : RCFrameMetrics → Bool) (xs : List RCFrameMetrics) (m : RCFrameMetrics) (ys : List RCFrameMetrics)
    → total (map scale_of (filter p (xs ++ m ∷ ys))) ≡ total (map scale_of (filter p (xs ++ ys))) +ℤ part (p m) (scale_of m)
total-insert p [] m ys =
    elim (p m) as (λ b. total (map scale_of (cond b (m ∷ filter p ys) (filter p ys))) ≡ total (map scale_of (filter p ys)) +ℤ part b (scale_of m)) [
      | true ↦ swapped (scale_of m) (total (map scale_of (filter p ys)))
      | false ↦ none_added (total (map scale_of (filter p ys)))
    ]
total-insert p (x ∷ xs) m ys =
    let rest = total-insert p xs m ys in
    elim (p x) as (λ b. total (map scale_of (cond b (x ∷ filter p (xs ++ m ∷ ys)) (filter p (xs ++ m ∷ ys)))) ≡ total (map scale_of (cond b (x ∷ filter p (xs ++ ys)) (filter p (xs ++ ys)))) +ℤ part (p m) (scale_of m)) [
      | true ↦ ap (λ z. scale_of x +ℤ z) rest ∙ added (scale_of x) (total (map scale_of (filter p (xs ++ ys)))) (part (p m) (scale_of m))
      | false ↦ rest
    ]

-- ---- lists of five numbers, and of four

pub get_five : (g : ℕ → ℤ) (k : ℕ) → k ≤ 4 → number_at (g 0 ∷ g 1 ∷ g 2 ∷ g 3 ∷ g 4 ∷ []) k ≡ g k
get_five g zero h = refl
get_five g (suc zero) h = refl
get_five g (suc (suc zero)) h = refl
get_five g (suc (suc (suc zero))) h = refl
get_five g (suc (suc (suc (suc zero)))) h = refl
get_five g (suc (suc (suc (suc (suc k))))) h = absurd (omega arith)

pub get_four : (g : ℕ → ℤ) (k : ℕ) → k < 4 → number_at (g 0 ∷ g 1 ∷ g 2 ∷ g 3 ∷ []) k ≡ g k
get_four g zero h = refl
get_four g (suc zero) h = refl
get_four g (suc (suc zero)) h = refl
get_four g (suc (suc (suc zero))) h = refl
get_four g (suc (suc (suc (suc k)))) h = absurd (omega arith)

five : (a b c d e a' b' c' d' e' : ℤ) → a ≡ a' → b ≡ b' → c ≡ c' → d ≡ d' → e ≡ e' → a ∷ b ∷ c ∷ d ∷ e ∷ [] ≡ a' ∷ b' ∷ c' ∷ d' ∷ e' ∷ []
five a b c d e a' b' c' d' e' p q r s t = cc

four : (a b c d a' b' c' d' : ℤ) → a ≡ a' → b ≡ b' → c ≡ c' → d ≡ d' → a ∷ b ∷ c ∷ d ∷ [] ≡ a' ∷ b' ∷ c' ∷ d' ∷ []
four a b c d a' b' c' d' p q r s = cc

set_five : (g h : ℕ → ℤ) (k : ℕ) (v : ℤ) → k ≤ 4 → v ≡ h k → ((j : ℕ) → (k == j) ≡ false → g j ≡ h j)
    → slice_set (g 0 ∷ g 1 ∷ g 2 ∷ g 3 ∷ g 4 ∷ []) k v ≡ h 0 ∷ h 1 ∷ h 2 ∷ h 3 ∷ h 4 ∷ []
set_five g h zero v le is other = five _ _ _ _ _ _ _ _ _ _ is (other 1 refl) (other 2 refl) (other 3 refl) (other 4 refl)
set_five g h (suc zero) v le is other = five _ _ _ _ _ _ _ _ _ _ (other 0 refl) is (other 2 refl) (other 3 refl) (other 4 refl)
set_five g h (suc (suc zero)) v le is other = five _ _ _ _ _ _ _ _ _ _ (other 0 refl) (other 1 refl) is (other 3 refl) (other 4 refl)
set_five g h (suc (suc (suc zero))) v le is other = five _ _ _ _ _ _ _ _ _ _ (other 0 refl) (other 1 refl) (other 2 refl) is (other 4 refl)
set_five g h (suc (suc (suc (suc zero)))) v le is other = five _ _ _ _ _ _ _ _ _ _ (other 0 refl) (other 1 refl) (other 2 refl) (other 3 refl) is
set_five g h (suc (suc (suc (suc (suc k))))) v le is other = absurd (omega arith)

set_four : (g h : ℕ → ℤ) (k : ℕ) (v : ℤ) → k ≤ 4 → (k < 4 → v ≡ h k) → ((j : ℕ) → (k == j) ≡ false → g j ≡ h j)
    → cond (nat_lt k 4) (slice_set (g 0 ∷ g 1 ∷ g 2 ∷ g 3 ∷ []) k v) (g 0 ∷ g 1 ∷ g 2 ∷ g 3 ∷ []) ≡ h 0 ∷ h 1 ∷ h 2 ∷ h 3 ∷ []
set_four g h zero v le is other = four _ _ _ _ _ _ _ _ (is (omega arith)) (other 1 refl) (other 2 refl) (other 3 refl)
set_four g h (suc zero) v le is other = four _ _ _ _ _ _ _ _ (other 0 refl) (is (omega arith)) (other 2 refl) (other 3 refl)
set_four g h (suc (suc zero)) v le is other = four _ _ _ _ _ _ _ _ (other 0 refl) (other 1 refl) (is (omega arith)) (other 3 refl)
set_four g h (suc (suc (suc zero))) v le is other = four _ _ _ _ _ _ _ _ (other 0 refl) (other 1 refl) (other 2 refl) (is (omega arith))
set_four g h (suc (suc (suc (suc zero)))) v le is other = four _ _ _ _ _ _ _ _ (other 0 refl) (other 1 refl) (other 2 refl) (other 3 refl)
set_four g h (suc (suc (suc (suc (suc k))))) v le is other = absurd (omega arith)

same : (k : ℕ) → (k == k) ≡ true
same k = grind (arith, nat_tests)

-- ---- numbers of a list with a metric, and without

-- with is what is counted with the metric, and without what is counted else
pub record IsOneMore (m : RCFrameMetrics) (without with : List RCFrameMetrics) : Type 0 where
  pub count : (k : ℕ) → count_of k with ≡ pos (length (filter (is_of k) without) + bit (m.fti == k))
  pub sum : (k : ℕ) → sum_of k with ≡ sum_of k without +ℤ part (m.fti == k) (scale_of m)
  pub shown : shown_of with ≡ pos (length (filter is_shown without) + bit m.show_frame)
  pub length_is : length with ≡ suc (length without)

pub one_more : (xs : List RCFrameMetrics) (m : RCFrameMetrics) (ys : List RCFrameMetrics) → IsOneMore m (xs ++ ys) (xs ++ m ∷ ys)
one_more xs m ys = record {
  count = λ k. ap pos (length-insert (is_of k) xs m ys);
  sum = λ k. total-insert (is_of k) xs m ys;
  shown = ap pos (length-insert is_shown xs m ys);
  length_is = omega (arith, length-append xs ys, length-append xs (m ∷ ys));
}

less_one : (n : ℕ) (b : Bool) → b ≡ true → n ≤ 2 ^ 30 → saturate_signed w32 (pos (n + bit b) +ℤ negsuc 0) ≡ pos n
less_one n true e h = fits_32 (pos (n + 1) +ℤ negsuc 0) (omega (arith, ints)) (omega (arith, ints)) ∙ omega (arith, ints)
less_one n false e h = absurd (false≢true e)

more_one : (n : ℕ) (b : Bool) → b ≡ true → n ≤ 2 ^ 30 → saturate_signed w32 (pos n +ℤ pos 1) ≡ pos (n + bit b)
more_one n true e h = fits_32 (pos n +ℤ pos 1) (omega (arith, ints)) (omega (arith, ints)) ∙ omega (arith, ints)
more_one n false e h = absurd (false≢true e)

less_sum : (z x : ℤ) (b : Bool) → b ≡ true → IsWithin FAR z → not_far ((z +ℤ part b x) +ℤ (pos 0 -ℤ x)) ≡ z
less_sum z x true e h =
    let back : (z +ℤ x) +ℤ (pos 0 -ℤ x) ≡ z = omega (arith, ints) in
    ap not_far back ∙ near_is z h
less_sum z x false e h = absurd (false≢true e)

more_sum : (z x : ℤ) (b : Bool) → b ≡ true → IsWithin FAR (z +ℤ part b x) → not_far (z +ℤ x) ≡ z +ℤ part b x
more_sum z x true e h = near_is (z +ℤ x) h
more_sum z x false e h = absurd (false≢true e)

less_shown : (n : ℕ) (b : Bool) → n ≤ 2 ^ 30 → cond b (saturate_signed w32 (pos (n + bit b) +ℤ negsuc 0)) (pos (n + bit b)) ≡ pos n
less_shown n true h = less_one n true refl h
less_shown n false h = ap pos (omega arith)

more_shown : (n : ℕ) (b : Bool) → n ≤ 2 ^ 30 → cond b (saturate_signed w32 (pos n +ℤ pos 1)) (pos n) ≡ pos (n + bit b)
more_shown n true h = more_one n true refl h
more_shown n false h = ap pos (omega arith)

no_part : (z x : ℤ) (b : Bool) → b ≡ false → z +ℤ part b x ≡ z
no_part z x true e = absurd (false≢true (sym e))
no_part z x false e = omega (arith, ints)

no_bit : (n : ℕ) (b : Bool) → b ≡ false → n + bit b ≡ n
no_bit n true e = absurd (false≢true (sym e))
no_bit n false e = omega arith

near_sum : (k : ℕ) (xs : List RCFrameMetrics) → length xs ≤ 2 ^ 30 → IsWithin FAR (sum_of k xs)
near_sum k xs h =
    let w = sum_within k xs in
    let a = w.low in
    let b = w.high in
    record { low = omega (arith, ints); high = omega (arith, ints) }

abbrev tally_with : List ℤ → List ℤ → ℤ → Tally
tally_with c s n = record { counts = c; sums = s; shown = n }

same_tally : (c c' s s' : List ℤ) (n n' : ℤ) → c ≡ c' → s ≡ s' → n ≡ n' → tally_with c s n ≡ tally_with c' s' n'
same_tally c c' s s' n n' p q r = ap (λ x. tally_with x s n) p ∙ (ap (λ x. tally_with c' x n) q ∙ ap (λ x. tally_with c' s' x) r)

-- ---- the tally

pub less_is : (m : RCFrameMetrics) (without with : List RCFrameMetrics) → m.fti ≤ 4 → length with ≤ 2 ^ 30 → IsOneMore m without with
    → less m (tally_of with) ≡ tally_of without
unfolding less tally_of
less_is m without with known small one =
    let k = m.fti in
    let g : ℕ → ℤ = λ j. count_of j with in
    let s : ℕ → ℤ = λ j. sum_of j with in
    let short : length without ≤ 2 ^ 30 = omega (arith, one.length_is) in
    let own_count : saturate_signed w32 (number_at (g 0 ∷ g 1 ∷ g 2 ∷ g 3 ∷ g 4 ∷ []) k +ℤ negsuc 0) ≡ count_of k without =
    ap (λ z. saturate_signed w32 (z +ℤ negsuc 0)) (get_five g k known ∙ one.count k)
    ∙ less_one (length (filter (is_of k) without)) (k == k) (same k) (omega (arith, length-filter (is_of k) without)) in
    let own_sum : k < 4 → not_far (number_at (s 0 ∷ s 1 ∷ s 2 ∷ s 3 ∷ []) k +ℤ (pos 0 -ℤ scale_of m)) ≡ sum_of k without =
    λ h. ap (λ z. not_far (z +ℤ (pos 0 -ℤ scale_of m))) (get_four s k h ∙ one.sum k)
    ∙ less_sum (sum_of k without) (scale_of m) (k == k) (same k) (near_sum k without short) in
    same_tally _ _ _ _ _ _
    (set_five g (λ j. count_of j without) k _ known own_count
    (λ j other. one.count j ∙ ap pos (no_bit (length (filter (is_of j) without)) (k == j) other)))
    (set_four s (λ j. sum_of j without) k _ known own_sum
    (λ j other. one.sum j ∙ no_part (sum_of j without) (scale_of m) (k == j) other))
    (ap (λ z. cond m.show_frame (saturate_signed w32 (z +ℤ negsuc 0)) z) one.shown
    ∙ less_shown (length (filter is_shown without)) m.show_frame (omega (arith, length-filter is_shown without)))

pub more_is : (m : RCFrameMetrics) (without with : List RCFrameMetrics) → m.fti ≤ 4 → length with ≤ 2 ^ 30 → IsOneMore m without with
    → more m (tally_of without) ≡ tally_of with
unfolding more tally_of
more_is m without with known small one =
    let k = m.fti in
    let g : ℕ → ℤ = λ j. count_of j without in
    let s : ℕ → ℤ = λ j. sum_of j without in
    let short : length without ≤ 2 ^ 30 = omega (arith, one.length_is) in
    let own_count : saturate_signed w32 (number_at (g 0 ∷ g 1 ∷ g 2 ∷ g 3 ∷ g 4 ∷ []) k +ℤ pos 1) ≡ count_of k with =
    ap (λ z. saturate_signed w32 (z +ℤ pos 1)) (get_five g k known)
    ∙ (more_one (length (filter (is_of k) without)) (k == k) (same k) (omega (arith, length-filter (is_of k) without)) ∙ sym (one.count k)) in
    let own_sum : k < 4 → not_far (number_at (s 0 ∷ s 1 ∷ s 2 ∷ s 3 ∷ []) k +ℤ scale_of m) ≡ sum_of k with =
    λ h. ap (λ z. not_far (z +ℤ scale_of m)) (get_four s k h)
    ∙ (more_sum (sum_of k without) (scale_of m) (k == k) (same k) (subst (λ z. IsWithin FAR z) (one.sum k) (near_sum k with small)) ∙ sym (one.sum k)) in
    same_tally _ _ _ _ _ _
    (set_five g (λ j. count_of j with) k _ known own_count
    (λ j other. sym (one.count j ∙ ap pos (no_bit (length (filter (is_of j) without)) (k == j) other))))
    (set_four s (λ j. sum_of j with) k _ known own_sum
    (λ j other. sym (one.sum j ∙ no_part (sum_of j without) (scale_of m) (k == j) other)))
    (more_shown (length (filter is_shown without)) m.show_frame (omega (arith, length-filter is_shown without)) ∙ sym one.shown)

-- what the window does

pub pushed : (xs : List RCFrameMetrics) (m : RCFrameMetrics) → m.fti ≤ 4 → length xs < 2 ^ 19 → more m (tally_of xs) ≡ tally_of (xs ++ m ∷ [])
pushed xs m known small =
    let one : IsOneMore m (xs ++ []) (xs ++ m ∷ []) = one_more xs m [] in
    let is : IsOneMore m xs (xs ++ m ∷ []) = subst (λ (zs : List RCFrameMetrics). IsOneMore m zs (xs ++ m ∷ [])) (append-nil xs) one in
    more_is m xs (xs ++ m ∷ []) known (omega (arith, is.length_is)) is

pub popped : (m : RCFrameMetrics) (xs : List RCFrameMetrics) → m.fti ≤ 4 → length xs < 2 ^ 19 → less m (tally_of (m ∷ xs)) ≡ tally_of xs
popped m xs known small = less_is m xs (m ∷ xs) known (omega arith) (one_more [] m xs)

pub taken_out : (xs : List RCFrameMetrics) (m : RCFrameMetrics) (ys : List RCFrameMetrics) → m.fti ≤ 4 → length (xs ++ m ∷ ys) ≤ 2 ^ 19
    → less m (tally_of (xs ++ m ∷ ys)) ≡ tally_of (xs ++ ys)
taken_out xs m ys known small = less_is m (xs ++ ys) (xs ++ m ∷ ys) known (omega arith) (one_more xs m ys)
