-- The layout and the refusals by example
pub mod Examples
-- the tests row by row, as the checks go, are those of document 01
pub mod SoundSplit
pub mod Checked
-- what the operations keep, and what they do to the records of a table
pub mod KeptLists
pub mod KeptAddresses
pub mod KeptBlocks
pub mod Promises
pub mod Written
pub mod ReadBack
-- the block rows of address rows
pub mod Knowns
