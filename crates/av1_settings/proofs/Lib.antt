pub mod CheckLemmas
pub mod PartitionLemmas
pub mod PresetLemmas
pub mod RenderLemmas
pub mod StatsLemmas
