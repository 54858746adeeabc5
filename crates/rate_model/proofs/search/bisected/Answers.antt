use Rattle.std.proofs.Common.{◌≡◌, ℕ, ◌≤◌, rules, arith, ◌≤ℤ◌, to_z, of_z, w64}
use Rattle.std.specs.Int.{w128}
use Rattle.std.proofs.lemmas.Int.{ints}
use Rattle.rate_model.specs.Search.{bits, bisection}
use Rattle.rate_model.proofs.SearchLaws.{closed_at, out_of_turns, when_narrowed, when_found}
use Rattle.rate_model.proofs.search.bisected.Goals as goal

pub returns-then-span-clause-value : goal.returns-then-span-clause-value
returns-then-span-clause-value c =
    let closed : c.loop-turn.span.hi ≤ℤ c.loop-turn.span.lo = grind (arith, ints) in
    let budget_is : to_z w128 (of_z w128 c.args.budget) ≡ c.args.budget = search rules in
    let lo_is : to_z w64 (of_z w64 c.args.lo) ≡ c.args.lo = search rules in
    let hi_is : to_z w64 (of_z w64 c.args.hi) ≡ c.args.hi = search rules in
    let q_is : to_z w64 (of_z w64 c.middle.result) ≡ c.middle.result = search rules in
    rw q_is
    (closed_at (bits c.args.model.now) c.args.budget (bisection (bits c.args.model.now) c.args.budget 64 c.args.lo c.args.hi) c.loop-turn.turn
    c.loop-turn.span.lo c.loop-turn.span.hi c.middle.result (rw (budget_is, lo_is, hi_is) at c.loop-turn.invariant.search) closed c.middle.ensures.value)

pub returns-in-Found-clause-value : goal.returns-in-Found-clause-value
returns-in-Found-clause-value c =
    let budget_is : to_z w128 (of_z w128 c.args.budget) ≡ c.args.budget = search rules in
    let lo_is : to_z w64 (of_z w64 c.args.lo) ≡ c.args.lo = search rules in
    let hi_is : to_z w64 (of_z w64 c.args.hi) ≡ c.args.hi = search rules in
    let q_is : to_z w64 (of_z w64 c.in-Found.value) ≡ c.in-Found.value = search rules in
    let bits_are : to_z w128 (of_z w128 (to_z w128 (of_z w128 c.bits_at.result))) ≡ bits c.args.model.now (to_z w64 (of_z w64 c.middle-q.result)) = search rules in
    rw q_is
    (when_found (bits c.args.model.now) c.args.budget (bisection (bits c.args.model.now) c.args.budget 64 c.args.lo c.args.hi) c.loop-turn.turn
    c.loop-turn.span.lo c.loop-turn.span.hi c.in-Found.value c.loop-turn-test.true (rw budget_is at (λ (n : ℕ). c.in-Found.ensures.turn (bits c.args.model.now) n bits_are))
    (rw (budget_is, lo_is, hi_is) at c.loop-turn.invariant.search))

pub loop-turn-preserved : goal.loop-turn-preserved
loop-turn-preserved c =
    let budget_is : to_z w128 (of_z w128 c.args.budget) ≡ c.args.budget = search rules in
    let lo_is : to_z w64 (of_z w64 c.args.lo) ≡ c.args.lo = search rules in
    let hi_is : to_z w64 (of_z w64 c.args.hi) ≡ c.args.hi = search rules in
    let least = c.loop-turn.invariant.low in
    let most = c.loop-turn.invariant.high in
    let low = c.in-Narrowed.ensures.low.0 in
    let high = c.in-Narrowed.ensures.low.1 in
    let bits_are : to_z w128 (of_z w128 (to_z w128 (of_z w128 c.bits_at.result))) ≡ bits c.args.model.now (to_z w64 (of_z w64 c.middle-q.result)) = search rules in
    record {
      last = search rules;
      low = omega (arith, ints);
      high = omega (arith, ints);
      search = rw (budget_is, lo_is, hi_is)
          (when_narrowed (bits c.args.model.now) c.args.budget (bisection (bits c.args.model.now) c.args.budget 64 c.args.lo c.args.hi) c.loop-turn.turn
          c.loop-turn.span.lo c.loop-turn.span.hi c.in-Narrowed.next.lo c.in-Narrowed.next.hi c.loop-turn-test.true (rw budget_is at (λ (n : ℕ). c.in-Narrowed.ensures.turn (bits c.args.model.now) n bits_are))
          (rw (budget_is, lo_is, hi_is) at c.loop-turn.invariant.search));
    }

pub returns-clause-value : goal.returns-clause-value
returns-clause-value c =
    let done : 64 ≤ c.loop-turn.turn = omega arith in
    let bound : c.loop-turn.turn ≤ 64 = omega arith in
    let budget_is : to_z w128 (of_z w128 c.args.budget) ≡ c.args.budget = search rules in
    let lo_is : to_z w64 (of_z w64 c.args.lo) ≡ c.args.lo = search rules in
    let hi_is : to_z w64 (of_z w64 c.args.hi) ≡ c.args.hi = search rules in
    let q_is : to_z w64 (of_z w64 c.middle-2.result) ≡ c.middle-2.result = search rules in
    rw q_is
    (out_of_turns (bits c.args.model.now) c.args.budget (bisection (bits c.args.model.now) c.args.budget 64 c.args.lo c.args.hi) c.loop-turn.turn
    c.loop-turn.span.lo c.loop-turn.span.hi c.middle-2.result done bound (rw (budget_is, lo_is, hi_is) at c.loop-turn.invariant.search) c.middle-2.ensures.value)
