pub mod CandidateFacts
pub mod PlainTexts
pub mod RefusalFacts
pub mod SanTextFacts
