pub mod JoinedLaws
pub mod MemoryLaws
pub mod PieceLaws
pub mod SumLaws
pub mod WholeLaws
