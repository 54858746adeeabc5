pub mod AnswerLines
pub mod DecimalNumbers
pub mod Dialects
pub mod Grammar
pub mod HexBytes
pub mod Lines
pub mod SettingLines
