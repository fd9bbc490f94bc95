-- where the block of an address is, and what a look returns
pub mod Look
-- promises: what a look finds in lent bytes
pub mod LookLaws
-- a whole list of calls from an opened box: each is the paper's, and demand 3 holds of the list
pub mod Listed
