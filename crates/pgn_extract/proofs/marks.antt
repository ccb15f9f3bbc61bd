pub mod MarkOrder
