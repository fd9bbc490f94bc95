-- what a report promises
pub mod Contract
-- lemmas
pub mod ReportLaws
