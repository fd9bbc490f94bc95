-- what the contracts of the refusals say, in the paper's words
pub mod Given
pub mod Checks
-- promises: numbers that pass 1 are not too large
pub mod Sizes
