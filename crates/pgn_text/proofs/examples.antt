pub mod ByteRows
pub mod Examples
pub mod GameRows
pub mod Rows
pub mod StopRows
