-- What a reader must believe, in this order: the bytes as rows, the layout, what is asked of rows, what the operations leave, and when a table is refused
pub mod Rows
pub mod Records
pub mod Find
pub mod Operations
pub mod Unsound
-- what the contracts of the checks and of the index cite
pub mod Sound
pub mod Index
-- laws about these definitions that the proofs of this crate use; those for the crates above are in `table_laws`
pub mod FindLaws
pub mod RowLaws
pub mod PasteLaws
pub mod SoundLaws
pub mod ShiftLaws
pub mod RecordLaws
pub mod OperationLaws
pub mod Bits
