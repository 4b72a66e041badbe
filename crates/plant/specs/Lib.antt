pub mod Records
pub mod Trees
pub mod Nodes
pub mod Selections
pub mod Held
pub mod Tables
pub mod Refusals
pub mod Props
