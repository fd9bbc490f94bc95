-- What a reader must believe: what is compared of a limited run and one without a limit
pub mod AsWithout
-- the theorems, for D-LRU and for D-ARC; a limit of m changes nothing; what a policy must promise for two boxes beside each other
pub mod AsWithoutLaws
pub mod Beside
-- lemmas
pub mod Sees
pub mod Until
