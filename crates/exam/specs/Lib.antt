-- What a reader must believe: how many lists have each number of hits; what is asked, and its refusals
pub mod Scores
pub mod Contract
-- what follows: the counts by a search, their total, 0 beyond k; every list is counted once; of a question; the engine's hits are these; worked questions
pub mod ScoreLaws
pub mod AllLists
pub mod QuestionLaws
pub mod EngineHits
pub mod Questions
-- what the code computes on the way
pub mod Small
