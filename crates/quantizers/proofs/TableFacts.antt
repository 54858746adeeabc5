-- What a table without a bad place keeps.
use Rattle.std.proofs.Common.{◌≡◌, ℕ, zero, suc, ◌+◌, ◌-◌, ◌<◌, ◌≤◌, Bool, true, false, cond, not, ◌&&◌, ◌||◌, nat_lt, nat_le, List, length, get_or, Some, None, arith, refl, subst}
use Rattle.std.specs.List.{find, range_with_len}
use Rattle.std.specs.List.Sorted.{IsNonDecreasing}
use Rattle.std.proofs.lemmas.Bool.Decides.{nat_tests}
use Rattle.std.proofs.lemmas.List.Sorted.{IsNonDecreasingBy-from_default}
use Rattle.quantizers.specs.Tables.{is_bad, is_bad_place, first_bad}

-- where no number of a range passes, each one fails
pub none_passes : (p : ℕ → Bool) (a n : ℕ) → find p (range_with_len a n) ≡ None → (k : ℕ) → k < n → p (a + k) ≡ false
none_passes p a zero none k below = absurd (omega arith)
none_passes p a (suc n) none zero below =
    elim (p a) as (λ b. cond b (Some a) (find p (range_with_len (a + 1) n)) ≡ None → p a ≡ b → p (a + 0) ≡ false) [
      | true ↦ λ h e. absurd (cc)
      | false ↦ λ h e. let same : a + 0 ≡ a = omega arith in rw same e
    ] none refl
none_passes p a (suc n) none (suc k) below =
    elim (p a) as (λ b. cond b (Some a) (find p (range_with_len (a + 1) n)) ≡ None → p (a + suc k) ≡ false) [
      | true ↦ λ h. absurd (cc)
      | false ↦ λ h. let same : a + suc k ≡ (a + 1) + k = omega arith in rw same (none_passes p (a + 1) n h k (omega arith))
    ] none

pub place_is_good : (ac dc : List ℕ) → first_bad ac dc ≡ None → (place : ℕ) → place < 512 → is_bad_place ac dc place ≡ false
place_is_good ac dc none place below =
    let same : 0 + place ≡ place = omega arith in
    subst (λ n. is_bad_place ac dc n ≡ false) same (none_passes (is_bad_place ac dc) 0 512 none place below)

passes_lt : (a b : ℕ) → a < b → nat_lt a b ≡ true
passes_lt a b h = grind (arith, nat_tests)

fails_lt : (a b : ℕ) → b ≤ a → nat_lt a b ≡ false
fails_lt a b h = grind (arith, nat_tests)

-- the cases of a good value
good_cases : (zero_value first follows : Bool) → (zero_value || (first && not follows)) ≡ false → (first ≡ true) → follows ≡ true
good_cases true first follows h e = absurd (cc)
good_cases false true true h e = refl
good_cases false true false h e = absurd (cc)
good_cases false false follows h e = absurd (cc)

ac_is_good : (ac dc : List ℕ) → first_bad ac dc ≡ None → (i : ℕ) → i < 256 → is_bad nat_lt ac i ≡ false
ac_is_good ac dc none i below =
    let e = passes_lt i 256 below in
    let h = place_is_good ac dc none i (omega arith) in
    rw e at h

dc_is_good : (ac dc : List ℕ) → first_bad ac dc ≡ None → (i : ℕ) → i < 256 → is_bad nat_le dc i ≡ false
dc_is_good ac dc none i below =
    let e = fails_lt (i + 256) 256 (omega arith) in
    let same : (i + 256) - 256 ≡ i = omega arith in
    let h = place_is_good ac dc none (i + 256) (omega arith) in
    rw (e, same) at h

-- a good value is at least 1, and may follow the one before
good_value : (f : ℕ → ℕ → Bool) (values : List ℕ) (i : ℕ) → is_bad f values i ≡ false → 1 ≤ get_or values i 0
good_value f values i h = grind (arith, nat_tests)

good_step : (f : ℕ → ℕ → Bool) (values : List ℕ) (i : ℕ) → is_bad f values (i + 1) ≡ false → f (get_or values i 0) (get_or values (i + 1) 0) ≡ true
good_step f values i h =
    let same : (i + 1) - 1 ≡ i = omega arith in
    let g = rw same at h in
    good_cases _ _ _ g (passes_lt 0 (i + 1) (omega arith))

pub ac_positive : (ac dc : List ℕ) → first_bad ac dc ≡ None → (i : ℕ) → i < 256 → 1 ≤ get_or ac i 0
ac_positive ac dc none i below = good_value nat_lt ac i (ac_is_good ac dc none i below)

pub dc_positive : (ac dc : List ℕ) → first_bad ac dc ≡ None → (i : ℕ) → i < 256 → 1 ≤ get_or dc i 0
dc_positive ac dc none i below = good_value nat_le dc i (dc_is_good ac dc none i below)

-- values of which none falls below the one before
along : (values : List ℕ) (m : ℕ) → ((i : ℕ) → i + 1 < m → get_or values i 0 ≤ get_or values (i + 1) 0) → (i n : ℕ) → i + n < m → get_or values i 0 ≤ get_or values (i + n) 0
along values m step i zero below = let same : i + 0 ≡ i = omega arith in rw same (omega arith)
along values m step i (suc n) below =
    let same : i + suc n ≡ (i + n) + 1 = omega arith in
    let before = along values m step i n (omega arith) in
    let next = step (i + n) (omega arith) in
    rw same (omega arith)

never_falls : (values : List ℕ) → length values ≡ 256 → ((i : ℕ) → i + 1 < 256 → get_or values i 0 ≤ get_or values (i + 1) 0) → IsNonDecreasing values
never_falls values len step =
    IsNonDecreasingBy-from_default (λ x. x) values 0
    (λ i j le l.
    let same : i + (j - i) ≡ j = omega arith in
    let h = along values 256 step i (j - i) (omega arith) in
    rw same at h)

pub ac_rises : (ac dc : List ℕ) → length ac ≡ 256 → first_bad ac dc ≡ None → IsNonDecreasing ac
ac_rises ac dc len none =
    never_falls ac len (λ i below.
    let h = good_step nat_lt ac i (ac_is_good ac dc none (i + 1) below) in
    grind (arith, nat_tests))

pub dc_never_falls : (ac dc : List ℕ) → length dc ≡ 256 → first_bad ac dc ≡ None → IsNonDecreasing dc
dc_never_falls ac dc len none =
    never_falls dc len (λ i below.
    let h = good_step nat_le dc i (dc_is_good ac dc none (i + 1) below) in
    grind (arith, nat_tests))
