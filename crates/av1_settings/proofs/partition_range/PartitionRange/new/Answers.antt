use Rattle.av1_settings.proofs.PartitionLemmas.{same_range}
use Rattle.av1_settings.proofs.partition_range.PartitionRange.new.Goals as goal

pub returns : goal.returns
returns c ordered = same_range c.args.min c.args.max _ ordered
