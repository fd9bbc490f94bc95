-- The laws that the proofs share. Assumes nothing.
pub mod Words
pub mod Zeros
pub mod OperationLaws
pub mod RecordLaws
