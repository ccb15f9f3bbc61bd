pub mod FilingFacts
pub mod Following
pub mod LineFacts
pub mod Naming
pub mod SieveFacts
pub mod CodedOpenings
pub mod PawnSteps
pub mod PawnLines
