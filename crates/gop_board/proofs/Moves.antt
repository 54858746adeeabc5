-- Each step leaves each submitted job at one place.
use Rattle.std.proofs.Common.{◌≡◌, ℕ, ◌<◌, ◌≤◌, Bool, true, false, eqb, ltb, not, filter, Option, None, Some, refl, sym, ap, subst, ◌∙◌, inl, inr, zero-add, arith}
use Rattle.std.specs.List.{find, count_by, sum_by, slice_get}
use Rattle.std.specs.Option.{option_map, is_some}
use Rattle.std.proofs.lemmas.Bool.{cases_Bool, cond-true, cond-false, eqb-true, ltb-true}
use Rattle.std.proofs.lemmas.List.Sums.{sum_by_push}
use Rattle.gop_board.specs.declared.core_state.CoreStep.{CoreStep}
use Rattle.gop_board.specs.declared.core_state.CoreStep.TheVariants.{Submit, Take, Deposit, Collect}
use Rattle.gop_board.specs.declared.core_state.Holding.{Holding}
use Rattle.gop_board.specs.Core.{Core, opening, held_by, moved, with_moved, after_moving, after_step}
use Rattle.gop_board.specs.Places.{EachAtOnePlace}
use Rattle.gop_board.proofs.Counts.{find_passes, sum_by-without, count_by-none, count_by-some, sum_by-first, one_if, below_next, at_most_one}

-- what a look-up through option_map found
mapped : {X Y : Type 0} (f : X → Y) (o : Option X) (y : Y) → option_map f o ≡ Some y → (x : X) × (o ≡ Some x) × (f x ≡ y)
mapped f None y found = absurd (cc)
mapped f (Some x) y found = let same : f x ≡ y = cc in (x, refl, same)

unmapped : {X Y : Type 0} (f : X → Y) (o : Option X) → is_some (option_map f o) ≡ false → o ≡ None
unmapped f None found = refl
unmapped f (Some x) found = absurd (cc)

-- a submitted job is the next, and there is one
pub submit_is : (core : Core) (job : ℕ) → moved core Submit ≡ Some job → (core.submitted < core.jobs) × (core.submitted ≡ job)
submit_is core job found = elim (cases_Bool (ltb core.submitted core.jobs)) [
  | inl less ↦
      let same : core.submitted ≡ job = cc (sym (cond-true (ltb core.submitted core.jobs) (Some core.submitted) None less)) in
      (ltb-true _ _ less, same)
  | inr not_less ↦ absurd (cc (sym (cond-false (ltb core.submitted core.jobs) (Some core.submitted) None not_less)))
]

-- a worker that takes a job held none, and the job stood at the front
pub take_is : (core : Core) (worker job : ℕ) → moved core (Take worker) ≡ Some job →
    (find (λ holding. eqb holding.worker worker) core.held ≡ None) × (slice_get core.queued 0 ≡ Some job)
take_is core worker job found = elim (cases_Bool (is_some (held_by worker core.held))) [
  | inl holds ↦ absurd (cc (sym (cond-true (is_some (held_by worker core.held)) None (slice_get core.queued 0) holds)))
  | inr idle ↦ (
    unmapped (λ (h : Holding). h.job) (find (λ holding. eqb holding.worker worker) core.held) idle,
    sym (cond-false (is_some (held_by worker core.held)) None (slice_get core.queued 0) idle) ∙ found,
  )
]

-- a job that is collected is the next in order, and was submitted
pub collect_is : (core : Core) (job : ℕ) → EachAtOnePlace core → moved core Collect ≡ Some job → (job ≡ core.collected) × (core.collected < core.submitted)
collect_is core job sound found =
    let is : job ≡ core.collected = eqb-true _ _ (find_passes (λ d. eqb d core.collected) core.deposited job found) in
    let there = count_by-some (λ d. eqb d core.collected) core.deposited job found in
    let at = sound.at_one core.collected in
    let bit : 1 ≤ one_if (ltb core.collected core.submitted) = omega arith in
    (is, positive (ltb core.collected core.submitted) (λ less. ltb-true _ _ less) bit)
  where
    positive : {P : Type 0} (b : Bool) → (b ≡ true → P) → 1 ≤ one_if b → P
    positive true then_so bit = then_so refl
    positive false then_so bit = absurd (omega arith)

submitted_keeps : (core : Core) (job : ℕ) → EachAtOnePlace core → moved core Submit ≡ Some job → EachAtOnePlace (with_moved core Submit job)
submitted_keeps core job sound found =
    let is = submit_is core job found in
    record {
      at_one = λ j.
          let queue = sum_by_push (λ queued. one_if (eqb queued j)) core.queued job in
          let bit : one_if (eqb core.submitted j) ≡ one_if (eqb job j) = ap (λ s. one_if (eqb s j)) is.1 in
          omega (arith, queue, bit, sound.at_one j, below_next j core.submitted);
      holds_one = sound.holds_one;
      within = omega arith;
    }

taken_keeps : (core : Core) (worker job : ℕ) → EachAtOnePlace core → moved core (Take worker) ≡ Some job → EachAtOnePlace (with_moved core (Take worker) job)
taken_keeps core worker job sound found =
    let is = take_is core worker job found in
    let taken : Holding = record { worker = worker; job = job } in
    record {
      at_one = λ j.
          let queue = sum_by-first (λ queued. one_if (eqb queued j)) core.queued job is.1 in
          let hands = sum_by_push (λ (holding : Holding). one_if (eqb holding.job j)) core.held taken in
          omega (arith, queue, hands, sound.at_one j);
      holds_one = λ other.
          let hands = sum_by_push (λ (holding : Holding). one_if (eqb holding.worker other)) core.held taken in
          elim (cases_Bool (eqb worker other)) [
            | inl same ↦
                let none : count_by (λ holding. eqb holding.worker other) core.held ≡ 0 =
                subst (λ w. count_by (λ (holding : Holding). eqb holding.worker w) core.held ≡ 0) (eqb-true _ _ same) (count_by-none _ core.held is.0)
                in
                omega (arith, hands, none, at_most_one (eqb worker other))
            | inr different ↦
                let bit : one_if (eqb worker other) ≡ 0 = ap one_if different in
                omega (arith, hands, bit, sound.holds_one other)
          ];
      within = sound.within;
    }

deposited_keeps : (core : Core) (worker job : ℕ) → EachAtOnePlace core → moved core (Deposit worker) ≡ Some job → EachAtOnePlace (with_moved core (Deposit worker) job)
deposited_keeps core worker job sound found =
    let is = mapped (λ (h : Holding). h.job) (find (λ holding. eqb holding.worker worker) core.held) job found in
    let few = sound.holds_one worker in
    record {
      at_one = λ j.
          let hands = sum_by-without (λ (h : Holding). eqb h.worker worker) (λ (h : Holding). one_if (eqb h.job j)) core.held is.0 is.1 few in
          let board = sum_by_push (λ deposited. one_if (eqb deposited j)) core.deposited job in
          let bit : one_if (eqb is.0.job j) ≡ one_if (eqb job j) = ap (λ n. one_if (eqb n j)) is.2 in
          omega (arith, hands, board, bit, sound.at_one j);
      holds_one = λ other.
          let hands = sum_by-without (λ (h : Holding). eqb h.worker worker) (λ (h : Holding). one_if (eqb h.worker other)) core.held is.0 is.1 few in
          omega (arith, hands, sound.holds_one other);
      within = sound.within;
    }

collected_keeps : (core : Core) (job : ℕ) → EachAtOnePlace core → moved core Collect ≡ Some job → EachAtOnePlace (with_moved core Collect job)
collected_keeps core job sound found =
    let is = collect_is core job sound found in
    let few : count_by (λ d. eqb d core.collected) core.deposited ≤ 1 = omega (arith, sound.at_one core.collected, at_most_one (ltb core.collected core.submitted)) in
    record {
      at_one = λ j.
          let without = sum_by-without (λ d. eqb d core.collected) (λ deposited. one_if (eqb deposited j)) core.deposited job found few in
          let same : sum_by (λ deposited. one_if (eqb deposited j)) (filter (λ d. not (eqb d job)) core.deposited) ≡ sum_by (λ deposited. one_if (eqb deposited j)) (filter (λ d. not (eqb d core.collected)) core.deposited) =
          ap (λ n. sum_by (λ deposited. one_if (eqb deposited j)) (filter (λ d. not (eqb d n)) core.deposited)) is.0
          in
          let bit : one_if (eqb job j) ≡ one_if (eqb core.collected j) = ap (λ n. one_if (eqb n j)) is.0 in
          omega (arith, without, same, bit, sound.at_one j, below_next j core.collected);
      holds_one = sound.holds_one;
      within = sound.within;
    }

-- a step that moves a job
pub moving_keeps : (core : Core) (step : CoreStep) (job : ℕ) → EachAtOnePlace core → moved core step ≡ Some job → EachAtOnePlace (with_moved core step job)
moving_keeps core Submit job sound found = submitted_keeps core job sound found
moving_keeps core (Take worker) job sound found = taken_keeps core worker job sound found
moving_keeps core (Deposit worker) job sound found = deposited_keeps core worker job sound found
moving_keeps core Collect job sound found = collected_keeps core job sound found

-- at first no job stands anywhere
pub opening_is_sound : (jobs : ℕ) → EachAtOnePlace (opening jobs)
opening_is_sound jobs = record {
  at_one = λ j. zero-add (one_if (ltb j 0));
  holds_one = λ worker. omega arith;
  within = omega arith;
}

-- any step, enabled or not
pub step_keeps : (core : Core) (step : CoreStep) → EachAtOnePlace core → EachAtOnePlace (after_step core step)
step_keeps core step sound = keeps (moved core step) refl
  where
    keeps : (o : Option ℕ) → moved core step ≡ o → EachAtOnePlace (after_moving core step o)
    keeps None is = sound
    keeps (Some job) is = moving_keeps core step job sound is
