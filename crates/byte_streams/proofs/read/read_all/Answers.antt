use Rattle.std.proofs.Common.{◌≡◌, ◌+◌, length, arith}
use Rattle.byte_streams.proofs.Pieces.{takes, over}
use Rattle.byte_streams.proofs.read.read_all.Goals as goal

pub returns-clause-too_long : goal.returns-clause-too_long
returns-clause-too_long g c =
    let bytes = c.loop-piece.bytes in
    let long : length bytes.items ≡ c.args.limit + 1 = omega (arith, bytes.ok.0) in
    λ _. over c.args.limit _ _ bytes.items c.loop-piece.invariant.taken long

pub returns-clause-bounded : goal.returns-clause-bounded
returns-clause-bounded g c =
    let bytes = c.loop-piece.bytes in
    takes (c.args.limit + 1) _ _ bytes.items c.loop-piece.invariant.taken (omega (arith, bytes.ok.0))
