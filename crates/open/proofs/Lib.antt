pub mod NewBox
