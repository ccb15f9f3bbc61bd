pub mod CheckFacts
