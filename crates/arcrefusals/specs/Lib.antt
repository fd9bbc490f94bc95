-- what the contracts say, in the paper's words
pub mod Given
pub mod Checks
-- lemmas
pub mod OpeningLaws
pub mod TopLaws
pub mod StateLaws
pub mod CallLaws
pub mod FolderLaws
