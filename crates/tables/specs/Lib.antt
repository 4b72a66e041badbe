pub mod Written
pub mod Machine
pub mod Fields
pub mod Reads
pub mod Laws
pub mod Numerals
pub mod Laid
