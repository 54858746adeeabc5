use Rattle.std.proofs.Common.{◌≡◌, rules, arith, pos, ◌+ℤ◌, ◌-ℤ◌, ◌<ℤ◌, ◌≤ℤ◌, to_z, of_z, w64}
use Rattle.std.proofs.lemmas.Int.{ints}
use Rattle.rate_model.proofs.SearchLaws.{IsMiddle, middle_is, probe_up, probe_down, probe_found}
use Rattle.rate_model.proofs.search.narrowed.Goals as goal

pub returns-then-budget-bits-clause-turn : goal.returns-then-budget-bits-clause-turn
returns-then-budget-bits-clause-turn c =
    let wide = c.requires.wide in
    let mid : IsMiddle c.args.span.lo c.args.span.hi c.args.q = rw c.requires.middle (middle_is c.args.span.lo c.args.span.hi) in
    let low = mid.low in
    let high = mid.high in
    let q_is : to_z w64 (of_z w64 c.args.q) ≡ c.args.q = search rules in
    let hi_is : to_z w64 (of_z w64 c.args.span.hi) ≡ c.args.span.hi = search rules in
    let next_is : to_z w64 (of_z w64 (c.args.q +ℤ pos 1)) ≡ c.args.q +ℤ pos 1 = omega (arith, ints) in
    let more : c.args.budget <ℤ c.args.bits = grind (arith, ints) in
    λ bits turns are. rw (q_is, hi_is) (probe_up bits c.args.budget c.args.span.lo c.args.span.hi c.args.q c.args.bits _ c.requires.middle are wide more next_is turns)

pub returns-then-bits-budget-clause-turn : goal.returns-then-bits-budget-clause-turn
returns-then-bits-budget-clause-turn c =
    let wide = c.requires.wide in
    let least = c.requires.low in
    let mid : IsMiddle c.args.span.lo c.args.span.hi c.args.q = rw c.requires.middle (middle_is c.args.span.lo c.args.span.hi) in
    let low = mid.low in
    let high = mid.high in
    let q_is : to_z w64 (of_z w64 c.args.q) ≡ c.args.q = search rules in
    let lo_is : to_z w64 (of_z w64 c.args.span.lo) ≡ c.args.span.lo = search rules in
    let next_is : to_z w64 (of_z w64 (c.args.q -ℤ pos 1)) ≡ c.args.q -ℤ pos 1 = omega (arith, ints) in
    let fewer : c.args.bits <ℤ c.args.budget = grind (arith, ints) in
    λ bits turns are. rw (q_is, lo_is) (probe_down bits c.args.budget c.args.span.lo c.args.span.hi c.args.q c.args.bits _ c.requires.middle are wide fewer next_is turns)

pub returns-else-bits-budget-clause-turn : goal.returns-else-bits-budget-clause-turn
returns-else-bits-budget-clause-turn c =
    let q_is : to_z w64 (of_z w64 c.args.q) ≡ c.args.q = search rules in
    let most : c.args.bits ≤ℤ c.args.budget = grind (arith, ints) in
    let least : c.args.budget ≤ℤ c.args.bits = grind (arith, ints) in
    λ bits turns are. rw q_is (probe_found bits c.args.budget c.args.span.lo c.args.span.hi c.args.q c.args.bits c.requires.middle are c.requires.wide most least turns)
