-- Private words: what the code equals on the way, and what its loops keep. No public contract cites
-- them.
pub mod Bitboards
pub mod PseudoAttacks
pub mod Cells
pub mod MoveWords
pub mod MoveListWords
pub mod FenWords
pub mod FenTextWords
pub mod FilledFields
pub mod SanWords
pub mod SanAnswers
pub mod RefusalWords
pub mod SanTextWords
