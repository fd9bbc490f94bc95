pub mod Refusing
pub mod Reporting
pub mod Listing
