pub mod SmallLaws
pub mod Searching
pub mod Simulated
pub mod ContentLaws
pub mod Answers
pub mod EngineHitsLaws
pub mod QuestionLaws
