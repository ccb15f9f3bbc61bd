pub mod NamedMoves
pub mod RefusalSearch
