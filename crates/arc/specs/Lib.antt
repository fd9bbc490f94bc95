-- What a reader must believe, in this order: the calls over a policy, D-ARC's lists and step, worked states, the lists in lent bytes and the refusals,
-- worked refusals, and demand 3 for D-ARC boxes.
pub mod Policy
pub mod Folder
pub mod Arc
pub mod ArcWorked
pub mod ArcLent
pub mod ArcFolder
pub mod ArcReports
pub mod ArcRefused
pub mod ArcDemand
-- the theorems: demand 3 of every list in bytes; D-LRU's calls over its policy; what a policy must promise and what follows; D-ARC's laws of every
-- list of calls; the loop and the lists in the request's words; few writes; the refusals, exactly
pub mod ArcDemandLaws
pub mod Promise
pub mod ArcExactly
-- lemmas
pub mod Tally
pub mod PlainRows
pub mod ArcMid
pub mod ArcRuns
pub mod ArcStep
-- for code on lent bytes: the test for 6 in one pass, and the moves of the lists end to end
pub mod ArcTicks
pub mod ArcEnds
