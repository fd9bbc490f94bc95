-- the replay byte by byte, and its state in lent buffers
pub mod Bytewise
pub mod Memory
-- what the buffers hold, written over them
pub mod BufferLaws
-- a state that is written over lent buffers is read back
pub mod MemoryLaws
