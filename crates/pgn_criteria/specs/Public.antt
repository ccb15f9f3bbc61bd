-- What is to be believed: what lines spell, and which positions meet them.
pub mod Words
pub mod Lines
pub mod Patterns
pub mod Materials
pub mod MoveTexts
pub mod Setups
pub mod Comparing
pub mod Dates
pub mod Conditions
pub mod Mirrors
pub mod Meeting
pub mod Headings
pub mod Walks
pub mod Prefilters
pub mod ByMarks
pub mod Laws
pub mod Turns
