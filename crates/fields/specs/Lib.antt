-- numbers in bytes: the state and the answer
pub mod Fields
-- what is written of what a call tells
pub mod Noted
-- what is written is what is read, and all that is changed
pub mod FieldLaws
