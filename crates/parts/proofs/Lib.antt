pub mod Indexed
pub mod Looped
pub mod Asking
pub mod Limiting
