-- the definition: from the whole input to the whole output
pub mod Replay
-- what the contracts say
pub mod Done
