pub mod EditExamples
pub mod ExportRows
pub mod LineExamples
pub mod LineGameExamples
pub mod OpeningExamples
pub mod PackExamples
pub mod PackRows
pub mod RefusalExamples
