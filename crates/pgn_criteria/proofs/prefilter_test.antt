pub mod PrefilterTestFacts
