-- what the contracts of the calls say, in the paper's words
pub mod Contract
-- promises: what the calls find in lent bytes
pub mod CallLaws
-- promises: a folder read from its turns
pub mod ManyLaws
