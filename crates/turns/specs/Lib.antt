-- what the turns of a folder read leave
pub mod Turns
-- promises: one read that takes a block, and one turn more
pub mod TurnLaws
