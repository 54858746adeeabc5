-- Numbers that follow on a seed, one at a time.
use Rattle.std.proofs.Common.{◌≡◌, ℕ, ◌+◌, List, [], ◌∷◌, ◌++◌, refl, append_assoc, add-one}
use Rattle.std.proofs.lemmas.List.{append-nil}
use Rattle.generated_script.specs.Numbers.{next_number, numbers_after}

numbers_first : (last left : ℕ) → numbers_after last (left + 1) ≡ next_number last ∷ numbers_after (next_number last) left
unfolding numbers_after
numbers_first last left = rw add-one refl

-- one more of them
pub numbers_more : (made more all : List ℕ) (last next rest left : ℕ) → made ++ numbers_after last rest ≡ all → rest ≡ left + 1 →
    next ≡ next_number last → more ≡ made ++ next ∷ [] → more ++ numbers_after next left ≡ all
numbers_more made more all last next rest left built one is pushed =
    let first : made ++ (next_number last ∷ numbers_after (next_number last) left) ≡ all = rw (one, numbers_first) at built in
    rw (pushed, is, append_assoc) first

-- all of them
pub numbers_done : (made all : List ℕ) (last left : ℕ) → made ++ numbers_after last left ≡ all → left ≡ 0 → made ≡ all
unfolding numbers_after
numbers_done made all last left built none =
    let whole : made ++ [] ≡ all = rw none at built in
    rw append-nil at whole
