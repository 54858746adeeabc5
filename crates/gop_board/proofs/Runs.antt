-- Whole lists of steps.
use Rattle.std.proofs.Common.{◌≡◌, ◌⊎◌, ℕ, suc, ◌+◌, ◌<◌, Bool, List, [], ◌∷◌, ◌++◌, length, get_or, take, Option, None, Some, refl, sym, ap, ◌∙◌, inl, inr, add-zero, arith}
use Rattle.std.specs.List.{range_with_len}
use Rattle.std.specs.Option.{option_to_list}
use Rattle.std.specs.Prelude.{Result, Ok, Err, OnErr}
use Rattle.std.proofs.lemmas.List.{take_more}
use Rattle.gop_board.specs.declared.core_state.CoreStep.{CoreStep}
use Rattle.gop_board.specs.declared.core_state.CoreStep.TheVariants.{Submit, Take, Deposit, Collect}
use Rattle.gop_board.specs.Core.{Core, opening, moved, after_moving, after_step, is_enabled}
use Rattle.gop_board.specs.Places.{EachAtOnePlace}
use Rattle.gop_board.specs.CoreRuns.{after_steps, answers, collected_by, collected_in, JobsStandAtOnePlace, JobsAreCollectedInOrder}
use Rattle.gop_board.proofs.Moves.{collect_is, opening_is_sound, step_keeps}

steps_keep : (core : Core) (steps : List CoreStep) → EachAtOnePlace core → EachAtOnePlace (after_steps core steps)
steps_keep core [] sound = sound
steps_keep core (step ∷ steps) sound = steps_keep (after_step core step) steps (step_keeps core step sound)

pub stand_at_one_place : JobsStandAtOnePlace
stand_at_one_place jobs steps = steps_keep (opening jobs) steps (opening_is_sound jobs)

-- a step collects nothing, or the next job in order
abbrev CollectsNext : Core → Core → List ℕ → Type 0
CollectsNext core next jobs =
    ((jobs ≡ []) × (next.collected ≡ core.collected)) ⊎ ((jobs ≡ core.collected ∷ []) × (next.collected ≡ core.collected + 1))

submit_collects : (core : Core) (o : Option ℕ) → CollectsNext core (after_moving core Submit o) []
submit_collects core None = inl (refl, refl)
submit_collects core (Some job) = inl (refl, refl)

take_collects : (core : Core) (worker : ℕ) (o : Option ℕ) → CollectsNext core (after_moving core (Take worker) o) []
take_collects core worker None = inl (refl, refl)
take_collects core worker (Some job) = inl (refl, refl)

deposit_collects : (core : Core) (worker : ℕ) (o : Option ℕ) → CollectsNext core (after_moving core (Deposit worker) o) []
deposit_collects core worker None = inl (refl, refl)
deposit_collects core worker (Some job) = inl (refl, refl)

collect_collects : (core : Core) → EachAtOnePlace core → (o : Option ℕ) → moved core Collect ≡ o →
    CollectsNext core (after_moving core Collect o) (option_to_list o)
collect_collects core sound None is = inl (refl, refl)
collect_collects core sound (Some job) is = inr (ap (λ j. j ∷ []) (collect_is core job sound is).0, refl)

step_collects : (core : Core) (step : CoreStep) → EachAtOnePlace core → CollectsNext core (after_step core step) (collected_by core step)
step_collects core Submit sound = submit_collects core (moved core Submit)
step_collects core (Take worker) sound = take_collects core worker (moved core (Take worker))
step_collects core (Deposit worker) sound = deposit_collects core worker (moved core (Deposit worker))
step_collects core Collect sound = collect_collects core sound (moved core Collect) refl

-- the jobs that steps collect are so many, from the next in order on
in_order : (core : Core) (steps : List CoreStep) → EachAtOnePlace core →
    (count : ℕ) × (collected_in core steps ≡ range_with_len core.collected count) × ((after_steps core steps).collected ≡ core.collected + count)
in_order core [] sound = (0, refl, sym (add-zero core.collected))
in_order core (step ∷ steps) sound =
    let next : Core = after_step core step in
    let rest = in_order next steps (step_keeps core step sound) in
    elim (step_collects core step sound) [
      | inl none ↦ (
        rest.0,
        ap (λ xs. xs ++ collected_in next steps) none.0 ∙ rest.1 ∙ ap (λ c. range_with_len c rest.0) none.1,
        rest.2 ∙ ap (λ c. c + rest.0) none.1,
      )
      | inr one ↦ (
        suc rest.0,
        ap (λ xs. xs ++ collected_in next steps) one.0 ∙ ap (λ xs. core.collected ∷ xs) (rest.1 ∙ ap (λ c. range_with_len c rest.0) one.1),
        omega (arith, rest.2, one.1),
      )
    ]

pub collected_in_order : JobsAreCollectedInOrder
collected_in_order jobs steps =
    let run = in_order (opening jobs) steps (opening_is_sound jobs) in
    let many : run.0 ≡ (after_steps (opening jobs) steps).collected = omega (arith, run.2) in
    run.1 ∙ ap (λ n. range_with_len 0 n) many

-- one step more
pub after_steps-push : (core : Core) (steps : List CoreStep) (step : CoreStep) → after_steps core (steps ++ step ∷ []) ≡ after_step (after_steps core steps) step
after_steps-push core [] step = refl
after_steps-push core (first ∷ steps) step = after_steps-push (after_step core first) steps step

pub answers-push : (core : Core) (steps : List CoreStep) (step : CoreStep) → answers core (steps ++ step ∷ []) ≡ answers core steps ++ is_enabled (after_steps core steps) step ∷ []
answers-push core [] step = refl
answers-push core (first ∷ steps) step = ap (λ found. is_enabled core first ∷ found) (answers-push (after_step core first) steps step)

-- the same along a list, one place further
pub after_steps-more : (core now next : Core) (steps : List CoreStep) (i : ℕ) → i < length steps → now ≡ after_steps core (take i steps) → next ≡ after_step now (get_or steps i Submit) → next ≡ after_steps core (take (i + 1) steps)
after_steps-more core now next steps i within so_far is =
    let step : CoreStep = get_or steps i Submit in
    is
    ∙ ap (λ (at : Core). after_step at step) so_far
    ∙ sym (after_steps-push core (take i steps) step)
    ∙ ap (after_steps core) (sym (take_more steps i Submit within))

pub answers-more : (core now : Core) (steps : List CoreStep) (i : ℕ) (found more : List Bool) (enabled : Bool) → i < length steps → now ≡ after_steps core (take i steps) → found ≡ answers core (take i steps) → enabled ≡ is_enabled now (get_or steps i Submit) → more ≡ found ++ enabled ∷ [] → more ≡ answers core (take (i + 1) steps)
answers-more core now steps i found more enabled within so_far told is pushed =
    let step : CoreStep = get_or steps i Submit in
    pushed
    ∙ ap (λ (xs : List Bool). xs ++ enabled ∷ []) told
    ∙ ap (λ (b : Bool). answers core (take i steps) ++ b ∷ []) (is ∙ ap (λ (at : Core). is_enabled at step) so_far)
    ∙ sym (answers-push core (take i steps) step)
    ∙ ap (answers core) (sym (take_more steps i Submit within))

-- what holds anyway holds at an error
pub on_err : {T E P : Type 0} (result : Result T E) → P → OnErr result P
on_err (Ok value) holds = tt
on_err (Err error) holds = holds
