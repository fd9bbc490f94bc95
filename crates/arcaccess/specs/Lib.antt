-- promises: a read or a write, from what its step leaves
pub mod AccessLaws
