-- What proofs of other crates may cite: words and facts on how values are stored, and on sets and
-- texts. No public contract cites them.
pub mod Lanes
pub mod StringTexts
