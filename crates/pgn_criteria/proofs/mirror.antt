pub mod MirrorTextFacts
