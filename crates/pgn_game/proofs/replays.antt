pub mod FlatGames
pub mod KeptSteps
pub mod MainSteps
pub mod PlayedFacts
