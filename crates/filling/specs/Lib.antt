pub mod Sites
pub mod Props
pub mod Tabled
