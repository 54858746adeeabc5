use Rattle.std.proofs.Common.{ℕ, ◌-◌, sym, ap}
use Rattle.std.specs.Int.Count.{count_trailing_zeros}
use Rattle.tests_of_plans.proofs.places.slots_of_position_seven.Goals as goal

pub refs_of-requires-clause-level : goal.refs_of-requires-clause-level
unfolding count_trailing_zeros
refs_of-requires-clause-level g c = sym (ap (λ (d : ℕ). d - count_trailing_zeros d 7) c.reordered.ensures)
