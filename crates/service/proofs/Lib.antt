pub mod Looked
pub mod ListedLaws
pub mod ScoredLaws
