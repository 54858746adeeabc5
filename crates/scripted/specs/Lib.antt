pub mod CoderLog
pub mod DetectorLog
pub mod NoLevels
pub mod ScalesLog
pub mod ScriptedBytes
pub mod ScriptedTables
