-- what is printed byte by byte is the replay of the whole input
pub mod BytewiseLaws
-- the theorem: what the code prints for an input is its replay
pub mod Pieces
