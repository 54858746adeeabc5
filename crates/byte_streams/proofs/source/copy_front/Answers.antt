use Rattle.std.proofs.Common.{arith}
use Rattle.byte_streams.proofs.Pieces.{front_copied}
use Rattle.byte_streams.proofs.source.copy_front.Goals as goal

pub returns-clause-bytes : goal.returns-clause-bytes
returns-clause-bytes c = front_copied c.min-count.result c.args.rest.now _ _ c.copy_from_slice.ensures.after (omega arith)
