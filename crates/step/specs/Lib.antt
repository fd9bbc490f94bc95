-- what the steps leave in lent bytes
pub mod Steps
-- promises: a row taken out, no fingerprint used twice, and the block row that is taken
pub mod Dropping
pub mod Unique
pub mod Taking
