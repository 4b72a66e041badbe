pub mod Splitting
pub mod Pendings
pub mod Steps
pub mod Turns
pub mod Solving
pub mod Answering
