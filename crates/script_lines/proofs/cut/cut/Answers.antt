use Rattle.std.proofs.Common.{◌≡◌, ◌+◌, ◌==◌, length, Some, None, arith}
use Rattle.std.specs.List.{position}
use Rattle.std.proofs.lemmas.Slice.{between_to_end}
use Rattle.script_lines.proofs.Cuts.{split_found, split_missing}
use Rattle.script_lines.proofs.cut.cut.Goals as goal

pub returns-in-Some-clause-parts : goal.returns-in-Some-clause-parts
returns-in-Some-clause-parts c =
    let found : position (λ b. b == c.args.byte) c.args.text.now ≡ Some c.in-Some.at = cc (c.place.ensures.place, c.in-Some.is) in
    rw (between_to_end c.args.text.now (c.in-Some.at + 1) (length c.args.text.now) (omega arith))
    (split_found (λ b. b == c.args.byte) c.args.text.now c.in-Some.at found)

pub returns-in-None-clause-parts : goal.returns-in-None-clause-parts
returns-in-None-clause-parts c =
    let missing : position (λ b. b == c.args.byte) c.args.text.now ≡ None = cc (c.place.ensures.place, c.in-None.is) in
    split_missing (λ b. b == c.args.byte) c.args.text.now missing
