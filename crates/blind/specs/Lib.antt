-- What a policy must promise: boxes made bare, and steps that are blind to what is dropped. D-LRU promises it
pub mod Blind
-- D-ARC promises it
pub mod ArcBlind
-- the calls on lent memory as calls over a policy: what passes from call to call, and what a call leaves
pub mod Serving
