pub mod Replies
pub mod Ledger
pub mod Solves
pub mod Issues
pub mod Sheets
