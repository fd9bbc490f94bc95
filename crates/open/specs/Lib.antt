-- what the contract of an opening says, in the paper's words
pub mod Contract
