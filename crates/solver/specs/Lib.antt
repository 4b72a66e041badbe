pub mod Splits
pub mod Pending
pub mod Solutions
