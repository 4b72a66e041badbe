pub mod Standing
pub mod Passes
pub mod Nodes
