pub mod CommandLines
pub mod PacketLines
pub mod PassLines
pub mod ReportLines
pub mod SummaryLines
