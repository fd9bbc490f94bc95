-- The laws that the proofs share. Assumes nothing.
pub mod Bytewise
pub mod Coding
pub mod Forms
