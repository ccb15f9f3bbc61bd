pub mod Cuts
pub mod Gives
pub mod GivesMarks
pub mod Pairing
pub mod PlainLemmas
pub mod ReadLemmas
pub mod ReadingLemmas
