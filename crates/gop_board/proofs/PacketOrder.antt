-- The packets of collected results are those of the first jobs.
use Rattle.std.proofs.Common.{◌≡◌, ℕ, zero, suc, ◌+◌, ◌-◌, ◌<◌, ◌≤◌, ltb, Option, Some, None, List, [], ◌∷◌, ◌++◌, map, length, refl, sym, ap, ◌∙◌, subst, inl, inr, append_assoc, arith}
use Rattle.std.specs.Prelude.{⊤}
use Rattle.std.specs.List.{flat_map, range_with_len}
use Rattle.std.proofs.lemmas.Bool.{cases_lt, lt-ltb, le-ltb, cond-true, cond-false}
use Rattle.session_core.specs.declared.packet.Packet.{Packet}
use Rattle.session_core.specs.Sessions.{IsPrefix}
use Rattle.gop_board.specs.declared.core_state.CoreStep.{CoreStep}
use Rattle.gop_board.specs.declared.core_state.CoreStep.TheVariants.{Submit, Take, Deposit, Collect}
use Rattle.gop_board.specs.declared.job_result.JobResult.{JobResult}
use Rattle.gop_board.specs.declared.job_result.JobResult.TheVariants.{Packets, Fault, OutOfMemory}
use Rattle.gop_board.specs.Core.{Core, after_moving, after_step, moved, opening}
use Rattle.gop_board.specs.CoreRuns.{after_steps, collected_in}
use Rattle.gop_board.specs.Packets.{ArePacketsOf, CollectedPacketsAreInOrder, numbered, numbered_from, packets_before_fault}
use Rattle.gop_board.specs.Places.{EachAtOnePlace}
use Rattle.gop_board.proofs.Counts.{one_if}
use Rattle.gop_board.proofs.Runs.{collected_in_order, stand_at_one_place}

pub numbered-append : {T : Type 0} (number : ℕ) (xs ys : List (Packet T ⊤)) →
    numbered_from number (xs ++ ys) ≡ numbered_from number xs ++ numbered_from (number + length xs) ys
numbered-append number [] ys = let here : number ≡ number + 0 = omega arith in ap (λ (n : ℕ). numbered_from n ys) here
numbered-append {T} number (x ∷ xs) ys =
    let there : number + 1 + length xs ≡ number + suc (length xs) = omega arith in
    ap (λ (l : List (Packet T ⊤)). record x { input_frameno = number } ∷ l)
    (numbered-append (number + 1) xs ys ∙ ap (λ (n : ℕ). numbered_from (number + 1) xs ++ numbered_from n ys) there)

numbered-prefix : {T : Type 0} (xs ys : List (Packet T ⊤)) → IsPrefix xs ys → IsPrefix (numbered xs) (numbered ys)
numbered-prefix xs ys begins = (numbered_from (0 + length xs) begins.0, ap numbered begins.1 ∙ numbered-append 0 xs begins.0)

-- of the jobs from one on
before-fault : {T C : Type 0} (belongs : ℕ → JobResult T C → Type 0) (packets_of : ℕ → List (Packet T ⊤)) (result_of : ℕ → JobResult T C) →
    ArePacketsOf belongs packets_of → (first some more : ℕ) → ((job : ℕ) → job < first + (some + more) → belongs job (result_of job)) →
    IsPrefix (packets_before_fault (map result_of (range_with_len first some))) (flat_map packets_of (range_with_len first (some + more)))
before-fault belongs packets_of result_of are first zero more belong = (flat_map packets_of (range_with_len first (0 + more)), refl)
before-fault {T} {C} belongs packets_of result_of are first (suc some) more belong =
    let count : suc some + more ≡ suc (some + more) = omega arith in
    let rest = before-fault belongs packets_of result_of are (first + 1) some more (λ job less. belong job (omega arith)) in
    subst (λ (n : ℕ). IsPrefix (packets_before_fault (map result_of (range_with_len first (suc some)))) (flat_map packets_of (range_with_len first n))) (sym count)
    (one (result_of first) (belong first (omega arith)) rest)
  where
    one : (result : JobResult T C) → belongs first result →
        IsPrefix (packets_before_fault (map result_of (range_with_len (first + 1) some))) (flat_map packets_of (range_with_len (first + 1) (some + more))) →
        IsPrefix (packets_before_fault (result ∷ map result_of (range_with_len (first + 1) some))) (packets_of first ++ flat_map packets_of (range_with_len (first + 1) (some + more)))
    one (Packets packets) its rest = (
      rest.0,
      ap (λ (l : List (Packet T ⊤)). l ++ flat_map packets_of (range_with_len (first + 1) (some + more))) (sym (are first packets its))
          ∙ ap (λ (l : List (Packet T ⊤)). packets ++ l) rest.1
          ∙ sym (append_assoc packets (packets_before_fault (map result_of (range_with_len (first + 1) some))) rest.0),
    )
    one (Fault command coder) its rest = (packets_of first ++ flat_map packets_of (range_with_len (first + 1) (some + more)), refl)
    one OutOfMemory its rest = (packets_of first ++ flat_map packets_of (range_with_len (first + 1) (some + more)), refl)

-- no more jobs are collected than there are
collected-within : (core : Core) → EachAtOnePlace core → core.collected ≤ core.jobs
collected-within core sound = elim (cases_lt core.jobs core.collected) [
  | inr few ↦ few
  | inl many ↦
      let at = sound.at_one core.jobs in
      let here : one_if (ltb core.jobs core.collected) ≡ 1 = cond-true (ltb core.jobs core.collected) 1 0 (lt-ltb core.jobs core.collected many) in
      let none : one_if (ltb core.jobs core.submitted) ≡ 0 = cond-false (ltb core.jobs core.submitted) 1 0 (le-ltb core.jobs core.submitted sound.within) in
      absurd (omega arith)
]

-- no step changes how many there are
moving-stays : (core : Core) (step : CoreStep) (moves : Option ℕ) → (after_moving core step moves).jobs ≡ core.jobs
moving-stays core step None = refl
moving-stays core Submit (Some job) = refl
moving-stays core (Take worker) (Some job) = refl
moving-stays core (Deposit worker) (Some job) = refl
moving-stays core Collect (Some job) = refl

jobs-stay : (core : Core) (steps : List CoreStep) → (after_steps core steps).jobs ≡ core.jobs
jobs-stay core [] = refl
jobs-stay core (step ∷ steps) = jobs-stay (after_step core step) steps ∙ moving-stays core step (moved core step)

pub packets_in_order : {T C : Type 0} (jobs : ℕ) (belongs : ℕ → JobResult T C → Type 0) → CollectedPacketsAreInOrder jobs belongs
packets_in_order {T} {C} jobs belongs packets_of result_of steps are belong =
    let core : Core = after_steps (opening jobs) steps in
    let few : core.collected ≤ jobs =
    subst (λ (n : ℕ). core.collected ≤ n) (jobs-stay (opening jobs) steps) (collected-within core (stand_at_one_place jobs steps)) in
    let all : core.collected + (jobs - core.collected) ≡ jobs = omega arith in
    let begins = before-fault belongs packets_of result_of are 0 core.collected (jobs - core.collected) (λ job less. belong job (omega arith)) in
    let these : IsPrefix (packets_before_fault (map result_of (collected_in (opening jobs) steps))) (flat_map packets_of (range_with_len 0 jobs)) =
    subst (λ (l : List ℕ). IsPrefix (packets_before_fault (map result_of l)) (flat_map packets_of (range_with_len 0 jobs))) (sym (collected_in_order jobs steps))
    (subst (λ (n : ℕ). IsPrefix (packets_before_fault (map result_of (range_with_len 0 core.collected))) (flat_map packets_of (range_with_len 0 n))) all begins) in
    numbered-prefix (packets_before_fault (map result_of (collected_in (opening jobs) steps))) (flat_map packets_of (range_with_len 0 jobs)) these
