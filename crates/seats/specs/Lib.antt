-- What a reader must believe: what the desk sees of a run
pub mod TwoRuns
-- lemmas
pub mod BareCalls
pub mod Alike
