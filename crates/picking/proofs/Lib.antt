pub mod Offers
pub mod Rooting
