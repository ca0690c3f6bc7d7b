-- A file as its blocks: pieces, the step from place to place, the declared list; following it in an image, from Start or any place; what a record given is made of.
pub mod PiecesLaws
pub mod Tokens
pub mod ReadingLaws
pub mod StepLaw
pub mod PlaceLaws
pub mod ListedLaws
pub mod Following
