use Rattle.scripted.specs.ScriptedBytes.{counted_from}
use Rattle.scripted.proofs.ByteBounds.{byte_bounds}
use Rattle.scripted.proofs.coder.ScriptedCoderFrameCoderU8.code.Goals as goal

pub returns-in-Ok-clause-some_bytes : goal.returns-in-Ok-clause-some_bytes
returns-in-Ok-clause-some_bytes c = rw c.in-Ok.ensures.bytes (byte_bounds c.fails.new.self.byte_counts (counted_from c.fails.new.self.first c.args.job.now.command)).0

pub returns-in-Ok-clause-few_bytes : goal.returns-in-Ok-clause-few_bytes
returns-in-Ok-clause-few_bytes c = rw c.in-Ok.ensures.bytes (byte_bounds c.fails.new.self.byte_counts (counted_from c.fails.new.self.first c.args.job.now.command)).1
