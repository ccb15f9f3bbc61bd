-- Definitions: those that a reader must believe, and private words.
pub mod Public
pub mod Private
