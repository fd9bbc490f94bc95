-- texts and numbers as bytes, the lines of an input and the form of a line
pub mod Text
pub mod Lines
pub mod LineExamples
