-- What proofs of other crates may cite: words on a main line while it is played. No public contract
-- cites them.
pub mod PlayedTo
