-- A machine that is called call by call. `Step` says which turns a call may have at a moment, and `next` is the moment
-- after it; both are the machine's own.
use Rattle.std.specs.Prelude.{List, [], ◌∷◌}

-- the moment after the calls of a list and their turns; what one list has more than the other doesn't count
abbrev pub after_calls : {M C R : Type 0} → (M → C → R → M) → M → List C → List R → M
after_calls next moment [] turns = moment
after_calls next moment (call ∷ calls) [] = moment
after_calls next moment (call ∷ calls) (turn ∷ turns) = after_calls next (next moment call turn) calls turns

-- one turn for each call, each as `Step` says at its moment
abbrev pub Runs : {M C R : Type 0} → (M → C → R → Type 0) → (M → C → R → M) → M → List C → List R → Type 0
Runs Step next moment [] [] = Unit {0}
Runs Step next moment [] (turn ∷ turns) = ⊥
Runs Step next moment (call ∷ calls) [] = ⊥
Runs Step next moment (call ∷ calls) (turn ∷ turns) = Step moment call turn × Runs Step next (next moment call turn) calls turns
