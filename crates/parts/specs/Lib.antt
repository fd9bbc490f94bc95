-- lent bytes as a paper box, what copies leave in them, and what is asked of the rows
pub mod Rep
pub mod Asked
pub mod Limit
-- promises: what the tables and the copies say of a paper box
pub mod TableLaws
pub mod MoveLaws
pub mod CopyLaws
pub mod LimitLaws
