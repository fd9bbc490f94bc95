-- inputs beside their whole outputs, by computation on the definition
pub mod Examples
