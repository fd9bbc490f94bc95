pub mod AreaLaws
pub mod BodyLaws
pub mod BoxLaws
pub mod CutLaws
pub mod ExamplesLaws
pub mod ImageLaws
pub mod KindLaws
pub mod SavedLaws
