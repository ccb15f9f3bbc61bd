-- Private words: how a replay is stored, and what its walks, its wrapper, and the writer and the
-- reader of its record keep. No public contract cites them.
pub mod Codes
pub mod Walks
pub mod LineTexts
pub mod LineWalks
pub mod Steps
pub mod LinePaths
pub mod PassPlaces
pub mod RefusalWalks
pub mod LineWrappers
pub mod CommentWords
pub mod EvenComments
pub mod MovetextWalks
pub mod PackWords
pub mod PackSteps
pub mod SegmentSteps
pub mod CodeWords
pub mod Filing
pub mod Following
pub mod Editing
pub mod RecordHeads
pub mod PawnWalks
