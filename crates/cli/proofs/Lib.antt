pub mod UnknownBytes
