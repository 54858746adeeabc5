-- Whole lists of steps, and what holds after every list.
use Rattle.std.specs.Prelude.{ℕ, ◌≡◌, Bool, List, [], ◌∷◌, ◌++◌, take}
use Rattle.std.specs.List.{range_with_len}
use Rattle.std.specs.Option.{option_to_list}
use Rattle.gop_board.specs.declared.core_state.CoreStep.{CoreStep}
use Rattle.gop_board.specs.declared.core_state.CoreStep.TheVariants.{Submit, Take, Deposit, Collect}
use Rattle.gop_board.specs.Core.{Core, opening, moved, is_enabled, after_step}
use Rattle.gop_board.specs.Places.{EachAtOnePlace}

abbrev pub after_steps : Core → List CoreStep → Core
after_steps core [] = core
after_steps core (step ∷ steps) = after_steps (after_step core step) steps

-- for each step whether it was enabled when its turn came
abbrev pub answers : Core → List CoreStep → List Bool
answers core [] = []
answers core (step ∷ steps) = is_enabled core step ∷ answers (after_step core step) steps

-- the job that a step collects, if it collects one
abbrev pub collected_by : Core → CoreStep → List ℕ
collected_by core Submit = []
collected_by core (Take worker) = []
collected_by core (Deposit worker) = []
collected_by core Collect = option_to_list (moved core Collect)

-- the jobs that steps collect, in the order of the steps
abbrev pub collected_in : Core → List CoreStep → List ℕ
collected_in core [] = []
collected_in core (step ∷ steps) = collected_by core step ++ collected_in (after_step core step) steps

-- whatever steps are tried from the opening on, each submitted job stands at exactly one place
abbrev pub JobsStandAtOnePlace : Type 0
JobsStandAtOnePlace = (jobs : ℕ) (steps : List CoreStep) → EachAtOnePlace (after_steps (opening jobs) steps)

-- whatever steps are tried from the opening on, the jobs that they collect are 0, 1, .. in order
abbrev pub JobsAreCollectedInOrder : Type 0
JobsAreCollectedInOrder = (jobs : ℕ) (steps : List CoreStep) →
    collected_in (opening jobs) steps ≡ range_with_len 0 (after_steps (opening jobs) steps).collected

-- a core after some of the steps, from the first on
abbrev pub IsOnTheWay : Core → List CoreStep → Core → Type 0
IsOnTheWay core steps now = (count : ℕ) × (now ≡ after_steps core (take count steps))
