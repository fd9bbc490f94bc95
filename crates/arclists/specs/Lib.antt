-- What the code of D-ARC's lists promises: addresses in lent bytes and what is done to them, sizes and bytes that are those of the lists, names
pub mod Listed
pub mod Holding
pub mod Names
-- lemmas
pub mod ListedLaws
pub mod PlaceLaws
pub mod MoveLaws
pub mod LeaveLaws
pub mod NameLaws
pub mod UnsoundLaws
pub mod ReplaceLaws
pub mod AdaptLaws
