-- What a reader must believe: the standard's rules, and what contracts say of values. In the order
-- in which they are best read.
pub mod Limits
pub mod Bytes
pub mod Strings
pub mod Parts
pub mod Games
pub mod Gaps
pub mod Pieces
pub mod Blocks
pub mod Complete
pub mod Marks
pub mod Laws
pub mod Stops
pub mod StopLaws
pub mod TextLaws
pub mod Tallies
pub mod Windows
pub mod GameTexts
pub mod Elements
pub mod Left
pub mod LeftMarks
pub mod StopPlaces
pub mod PartPlaces
pub mod AnswerLaws
