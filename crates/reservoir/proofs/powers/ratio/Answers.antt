use Rattle.std.proofs.Common.{◌≡◌, ◌^◌, ◌*ℤ◌, pos, int_div, rules, to_z, of_z}
use Rattle.std.specs.Int.{w128, int_min}
use Rattle.reservoir.proofs.Products.{part_within}
use Rattle.reservoir.proofs.powers.ratio.Goals as goal

pub returns-clause-within : goal.returns-clause-within
returns-clause-within c =
    let e : to_z w128 (of_z w128 c.quotient.result) ≡ int_div (int_min c.args.whole c.args.part *ℤ pos (2 ^ 32)) c.args.whole = search rules in
    rw e (part_within c.args.part c.args.whole c.requires.part c.requires.whole_low)
