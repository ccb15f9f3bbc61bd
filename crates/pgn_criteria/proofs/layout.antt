pub mod BesideFacts
