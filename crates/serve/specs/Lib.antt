-- what the calls leave in lent bytes
pub mod Calls
-- promises: the calls from their steps
pub mod ServeLaws
-- promises: the step of a hit
pub mod HitLaws
