pub mod DateExamples
pub mod Examples
pub mod LineExamples
pub mod MeetingExamples
pub mod SetupExamples
pub mod SpanExamples
