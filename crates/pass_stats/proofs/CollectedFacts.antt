-- Bytes that come in two pieces are held as though they had come in one.
use Rattle.std.proofs.Common.{◌≡◌, ℕ, ◌-◌, ◌+◌, ◌<◌, ◌≤◌, ◌⊎◌, inl, inr, List, ◌++◌, length, take, min, append_assoc, length-append, refl, sym, ◌∙◌, ap, arith}
use Rattle.std.proofs.lemmas.Bool.{cases_lt}
use Rattle.std.proofs.lemmas.List.{append-nil, take_all, take-append-le, length-take}
use Rattle.std.proofs.Math.Seq.{take-append-add}
use Rattle.pass_stats.specs.Collected.{filled}

-- the front of two pieces
take-pieces : (k : ℕ) (bytes more : List ℕ) → take k bytes ++ take (k - length bytes) more ≡ take k (bytes ++ more)
take-pieces k bytes more = go (cases_lt (length bytes) k) where
  go : (length bytes < k) ⊎ (k ≤ length bytes) → take k bytes ++ take (k - length bytes) more ≡ take k (bytes ++ more)
  go (inl h) =
      let n = k - length bytes in
      let sum : k ≡ length bytes + n = omega arith in
      let whole : take k bytes ≡ bytes = take_all k bytes (omega arith) in
      rw whole (sym (ap (λ m. take m (bytes ++ more)) sum ∙ take-append-add bytes more n))
  go (inr h) =
      let none : k - length bytes ≡ 0 = omega arith in
      rw (none, take-append-le k bytes more h) (append-nil _)

-- what is held after the first piece, and what is missing then
pub filled-pieces : (held bytes more : List ℕ) (goal : ℕ) → filled (filled held bytes goal) more goal ≡ filled held (bytes ++ more) goal
filled-pieces held bytes more goal =
    let k = goal - length held in
    let missing : goal - length (held ++ take k bytes) ≡ k - length bytes =
    omega (arith, length-append held (take k bytes), length-take k bytes) in
    rw (missing, append_assoc) (ap (λ (x : List ℕ). held ++ x) (take-pieces k bytes more))

-- the number that is taken, in place of the number that is missing
pub filled-taken : (held bytes : List ℕ) (goal : ℕ) → held ++ take (min (length bytes) (goal - length held)) bytes ≡ filled held bytes goal
filled-taken held bytes goal = go (cases_lt (length bytes) (goal - length held)) where
  go : (length bytes < goal - length held) ⊎ (goal - length held ≤ length bytes) → held ++ take (min (length bytes) (goal - length held)) bytes ≡ filled held bytes goal
  go (inl h) =
      let all : min (length bytes) (goal - length held) ≡ length bytes = omega arith in
      rw (all, take_all (length bytes) bytes (omega arith), take_all (goal - length held) bytes (omega arith)) refl
  go (inr h) =
      let part : min (length bytes) (goal - length held) ≡ goal - length held = omega arith in
      rw part refl
