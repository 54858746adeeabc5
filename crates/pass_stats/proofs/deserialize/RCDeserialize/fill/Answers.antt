use Rattle.std.proofs.Common.{◌≡◌, ◌-◌, ◌++◌, length, min, take, arith}
use Rattle.std.proofs.lemmas.Grind.{common_steps}
use Rattle.pass_stats.proofs.CollectedFacts.{filled-pieces, filled-taken}
use Rattle.pass_stats.proofs.deserialize.RCDeserialize.fill.Goals as goal

pub returns-clause-pieces : goal.returns-clause-pieces
returns-clause-pieces c more =
    let held = c.args.self.now in
    let bytes = c.args.bytes.now in
    let is : c.try_extend_from_slice.new.self.items ≡ held ++ take (min (length bytes) (c.args.goal - length held)) bytes =
    grind (arith, common_steps) in
    rw (is, filled-taken held bytes c.args.goal) (filled-pieces held bytes more c.args.goal)
