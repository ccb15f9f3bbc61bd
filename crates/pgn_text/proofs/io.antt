pub mod BlockCuts
pub mod EndSearch
pub mod Spliced
