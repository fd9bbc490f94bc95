-- What a reader must believe: the rule, with worked lists; then the theorem, over the calls on bytes, and three reads computed on bytes
pub mod Told
pub mod TellHit
