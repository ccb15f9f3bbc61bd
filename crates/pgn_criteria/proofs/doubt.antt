pub mod DoubtFacts
