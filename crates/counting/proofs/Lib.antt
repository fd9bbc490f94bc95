-- lemmas
pub mod Recency
pub mod TellBytes
pub mod TellHitLaws
