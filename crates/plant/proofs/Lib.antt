pub mod Sums
pub mod Kept
pub mod Made
pub mod Listed
