mod Reading
mod Fielded
pub mod Ranges
pub mod Values
pub mod Judging
pub mod StationForm
pub mod LineForm
pub mod Walking
pub mod Accepting
