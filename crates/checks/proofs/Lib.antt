-- The laws that the proofs share. Assumes nothing.
pub mod Indexes
pub mod Ranges
