pub mod Contents
pub mod RunsTo
pub mod SweepLemmas
pub mod Tables
pub mod TagReads
