pub mod CodedMoves
pub mod KeptPackedFacts
pub mod PackListed
pub mod Renamed
pub mod SearchFacts
pub mod SegmentSearchFacts
pub mod TurnedLines
pub mod WalkedLines
