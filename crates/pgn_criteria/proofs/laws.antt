pub mod DateSettled
pub mod MenSettled
pub mod MirrorLaws
pub mod OneMeaning
pub mod SplitSettled
pub mod StandsSettled
