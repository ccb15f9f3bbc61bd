-- Definitions: those that a reader must believe, what proofs of other crates may cite, and private
-- words.
pub mod Public
pub mod Shared
pub mod Private
