-- The laws that the proofs share. Assumes nothing.
pub mod Naming
pub mod Evicting
pub mod Leaving
pub mod Ways
pub mod Victims
pub mod Clearing
pub mod Inserting
pub mod Parting
pub mod Requests
