pub mod Going
pub mod Sweep
pub mod Complete
pub mod Capped
pub mod Spelling
pub mod Laying
