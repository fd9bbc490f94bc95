pub mod Stepping
pub mod Storing
pub mod Whole
