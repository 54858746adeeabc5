-- Pseudorandom numbers.
use Rattle.std.specs.Prelude.{ℕ, zero, suc, ◌+◌, ◌*◌, ◌%◌, List, [], ◌∷◌}
use Rattle.generated_script.specs.declared.numbers.TheConstants.{MULTIPLIER, INCREMENT, MODULUS}

-- the number that follows on another
abbrev pub next_number : ℕ → ℕ
next_number last = (last * MULTIPLIER + INCREMENT) % MODULUS

-- so many numbers that follow on a seed
unfoldable pub numbers_after : ℕ → ℕ → List ℕ
numbers_after last zero = []
numbers_after last (suc count) = next_number last ∷ numbers_after (next_number last) count
