pub mod AlikeLaws
pub mod ArcTwoRuns
pub mod BareCallsLaws
pub mod ReportLaws
pub mod TwoRunsLaws
-- the theorems, for D-LRU and for D-ARC; two runs computed; the reports' refusals
pub mod TwoRunsWorked
