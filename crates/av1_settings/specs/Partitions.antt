-- The range of the square blocks that are tried.
use Rattle.std.specs.Prelude.{IsTrue}
use Rattle.av1_settings.specs.Blocks.{is_range}
use Rattle.av1_settings.specs.declared.block_size.BlockSize.{BlockSize}
use Rattle.av1_settings.specs.declared.partition_range.PartitionRange.{PartitionRange}

-- the range from one size to another
abbrev pub partition_range : (smallest largest : BlockSize) → IsTrue (is_range smallest largest) → PartitionRange
partition_range smallest largest ordered = record { min = smallest; max = largest; ordered = ordered }

-- the ends of a range
abbrev pub smallest_block : PartitionRange → BlockSize
smallest_block range = range.min

abbrev pub largest_block : PartitionRange → BlockSize
largest_block range = range.max
