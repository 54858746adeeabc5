-- What is held of pass data that comes in pieces.
use Rattle.std.specs.Prelude.{ℕ, ◌-◌, List, ◌++◌, length, take}

-- of the bytes that come, the first are taken that are missing to the goal
abbrev pub filled : List ℕ → List ℕ → ℕ → List ℕ
filled held bytes goal = held ++ take (goal - length held) bytes
