pub mod InitialFacts
pub mod RanksSettled
pub mod RefusalExamples
pub mod SameKeys
