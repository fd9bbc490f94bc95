pub mod Chunks
-- a run of the program over what it read
pub mod Reads
-- what it prints is the replay of what it read
pub mod ReadLaws
