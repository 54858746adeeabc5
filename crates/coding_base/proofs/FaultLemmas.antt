-- A rise stays a rise in a longer span.
use Rattle.std.proofs.Common.{ℕ, ◌≤◌, arith}
use Rattle.coding_base.specs.Faults.{Rose}

pub rose-then : (a b c : ℕ) → Rose a b → b ≤ c → Rose a c
rose-then a b c rise later = grind arith

pub rose-after : (a b c : ℕ) → a ≤ b → Rose b c → Rose a c
rose-after a b c later rise = grind arith
