-- What proofs of other crates may cite: words and facts on how values are stored, and on sets and
-- texts. No public contract cites them.
pub mod PlaceCodes
pub mod SetBitboards
pub mod CellFacts
pub mod Codes
pub mod Runs
pub mod Tens
pub mod OrderFacts
pub mod SetFacts
pub mod SquareFacts
