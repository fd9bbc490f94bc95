pub mod Doing
pub mod Filling
pub mod Starting
