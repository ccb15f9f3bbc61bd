pub mod ListFacts
pub mod RightsFacts
