pub mod Boxing
pub mod Lining
