pub mod Paging
pub mod Started
pub mod Within
