pub mod Bounds
pub mod CutLaws
pub mod MoveLaws
pub mod TallyLaws
pub mod WindowLaws
