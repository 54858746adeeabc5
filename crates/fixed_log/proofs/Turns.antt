-- Runs of turns: one turn more, and ranges that a run keeps its state in.
use Rattle.std.proofs.Common.{◌≡◌, ℕ, zero, suc, ◌+◌, ◌<◌, Bool, true, ◌&&◌, refl, subst, arith, add-zero, add-one, add-suc, add_assoc, inl, inr, ◌-◌}
use Rattle.std.proofs.lemmas.Bool.{and_parts, cases_lt}
use Rattle.fixed_log.specs.Table.{turns_from}

pub turns_from-zero : {S : Type 0} (turn : ℕ → S → S) (first : ℕ) (s : S) → turns_from turn first 0 s ≡ s
unfolding turns_from
turns_from-zero turn first s = refl

pub turns_from-more : {S : Type 0} (turn : ℕ → S → S) (first k : ℕ) (s : S) → turns_from turn first (k + 1) s ≡ turn (first + k) (turns_from turn first k s)
unfolding turns_from
turns_from-more turn first k s = rw add-one refl

pub ruleset run_steps = (turns_from-zero, turns_from-more)

-- each of count turns passes a test of the range that it begins in
unfoldable pub all_pass : {R : Type 0} → (ℕ → R → Bool) → (ℕ → R → R) → ℕ → ℕ → R → Bool
all_pass test range first zero r = true
all_pass test range first (suc k) r = all_pass test range first k r && test (first + k) (turns_from range first k r)

-- where each turn that passes the test keeps its state in the next range, a run does
pub run_in : {S R : Type 0} (turn : ℕ → S → S) (range : ℕ → R → R) (test : ℕ → R → Bool) (In : S → R → Type 0)
    → ((i : ℕ) (s : S) (r : R) → test i r ≡ true → In s r → In (turn i s) (range i r))
    → (first count : ℕ) (s : S) (r : R) → all_pass test range first count r ≡ true → In s r
    → In (turns_from turn first count s) (turns_from range first count r)
unfolding turns_from all_pass
run_in turn range test In step first zero s r passed within = within
run_in turn range test In step first (suc k) s r passed within =
    let parts = and_parts (all_pass test range first k r) (test (first + k) (turns_from range first k r)) passed in
    step (first + k) (turns_from turn first k s) (turns_from range first k r) parts.1
    (run_in turn range test In step first k s r parts.0 within)

-- and what the test and the range give holds at each turn
pub run_each : {S R : Type 0} (turn : ℕ → S → S) (range : ℕ → R → R) (test : ℕ → R → Bool) (In : S → R → Type 0) (Holds : ℕ → S → Type 0)
    → ((i : ℕ) (s : S) (r : R) → test i r ≡ true → In s r → In (turn i s) (range i r))
    → ((i : ℕ) (s : S) (r : R) → test i r ≡ true → In s r → Holds i s)
    → (first count : ℕ) (s : S) (r : R) → all_pass test range first count r ≡ true → In s r
    → (k : ℕ) → k < count → Holds (first + k) (turns_from turn first k s)
unfolding turns_from all_pass
run_each turn range test In Holds step holds first zero s r passed within k h = absurd (omega arith)
run_each turn range test In Holds step holds first (suc n) s r passed within k h =
    let parts = and_parts (all_pass test range first n r) (test (first + n) (turns_from range first n r)) passed in
    elim (cases_lt k n) [
      | inl below ↦ run_each turn range test In Holds step holds first n s r parts.0 within k below
      | inr above ↦
          let e : n ≡ k = omega arith in
          subst (λ (j : ℕ). Holds (first + j) (turns_from turn first j s)) e
          (holds (first + n) (turns_from turn first n s) (turns_from range first n r) parts.1
          (run_in turn range test In step first n s r parts.0 within))
    ]

-- a run after a run is one run
pub turns_from-join : {S : Type 0} (turn : ℕ → S → S) (first n k : ℕ) (s : S)
    → turns_from turn (first + n) k (turns_from turn first n s) ≡ turns_from turn first (n + k) s
unfolding turns_from
turns_from-join turn first n zero s = rw add-zero refl
turns_from-join turn first n (suc k) s = rw (turns_from-join turn first n k s, add-suc, add_assoc) refl

-- what holds at each turn of a run holds at each turn of its second part
pub run_later : {S : Type 0} (turn : ℕ → S → S) (Holds : ℕ → S → Type 0) (first n count : ℕ) (s middle : S) → middle ≡ turns_from turn first n s
    → ((k : ℕ) → k < count → Holds (first + k) (turns_from turn first k s))
    → (k : ℕ) → k < count - n → Holds (first + n + k) (turns_from turn (first + n) k middle)
run_later turn Holds first n count s middle is each k below =
    let inside : n + k < count = omega arith in
    rw (is, turns_from-join, add_assoc) (each (n + k) inside)
