pub mod ByteBounds
pub mod Countdown
pub mod GoodTables
