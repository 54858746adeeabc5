-- A range of blocks is determined by its ends.
use Rattle.std.proofs.Common.{◌≡◌, IsTrue, ap}
use Rattle.std.proofs.Props.{props}
use Rattle.av1_settings.specs.Blocks.{is_range}
use Rattle.av1_settings.specs.Partitions.{partition_range}
use Rattle.av1_settings.specs.declared.block_size.BlockSize.{BlockSize}

pub same_range : (smallest largest : BlockSize) (one other : IsTrue (is_range smallest largest))
    → partition_range smallest largest one ≡ partition_range smallest largest other
same_range smallest largest one other =
    let prop : IsProp (IsTrue (is_range smallest largest)) = hlevel props in
    ap (partition_range smallest largest) (prop one other)
