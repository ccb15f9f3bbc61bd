pub mod ColumnFacts
pub mod CommandFacts
pub mod CsvCells
pub mod JsonCells
pub mod TsvCells
