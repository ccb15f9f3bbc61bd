pub mod PrefilterFacts
