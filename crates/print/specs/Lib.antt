-- the texts of the definition
pub mod Texts
-- what the contracts say
pub mod Put
-- texts put one after the other
pub mod PutLaws
-- a number has at most 20 digits
pub mod DecimalLaws
-- lines beside their texts, by computation on the definition
pub mod TextExamples
