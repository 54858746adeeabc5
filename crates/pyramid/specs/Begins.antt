-- A list that begins another.
use Rattle.std.specs.Prelude.{◌≡◌, List, ◌++◌}

abbrev pub Begins : {X : Type 0} → List X → List X → Type 0
Begins {X} front all = (rest : List X) × (all ≡ front ++ rest)
