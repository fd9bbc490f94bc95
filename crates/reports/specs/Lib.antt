-- what a report promises, and as it is filled
pub mod Contract
pub mod RowByRow
-- promises
pub mod RowLaws
pub mod ReportLaws
