-- the block row that is taken
pub mod Victim
-- when numbers and lent bytes are those of a paper box and its lists within a step
pub mod Runs
