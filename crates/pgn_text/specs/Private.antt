-- Private words: functions on lists that the code equals, and what its loops keep. No public
-- contract cites them.
pub mod TagOrder
pub mod ErrorPosition
pub mod Cuts
pub mod GameBuilders
pub mod Held
pub mod Masks
pub mod Movetext
pub mod PartFronts
pub mod Phases
pub mod Reading
pub mod Readings
pub mod Searches
pub mod Steps
pub mod Tokens
pub mod Walk
