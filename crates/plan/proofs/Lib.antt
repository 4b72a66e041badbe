pub mod Steps
pub mod Working
pub mod Solving
pub mod Printing
