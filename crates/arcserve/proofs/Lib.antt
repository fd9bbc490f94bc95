-- the calls, from their steps
pub mod Serving
