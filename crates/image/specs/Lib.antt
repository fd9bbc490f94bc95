-- What a reader must believe, in this order: the body of an image, the writes of a save and a power cut, the image in an area, the bodies of both kinds of box,
-- save and restore, examples.
pub mod Body
pub mod Area
pub mod Image
pub mod Kinds
pub mod Saved
pub mod Examples
-- laws
pub mod BodyLaws
pub mod KindLaws
pub mod BoxLaws
