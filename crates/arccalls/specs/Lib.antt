-- what the contracts of the calls say, in the paper's words
pub mod Contract
-- promises: lists that pass are written as they were found
pub mod ListLaws
-- promises: a call that is the base's on the tables
pub mod BaseLaws
-- promises: an opening
pub mod OpenLaws
-- promises: what a look answers and returns, from where its block is found
pub mod LookLaws
