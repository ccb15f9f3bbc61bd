-- What a reader must believe: the Laws of Chess, FEN and SAN. In the order in which they are best
-- read.
pub mod Squares
pub mod Placements
pub mod Attacks
pub mod Positions
pub mod Start
pub mod Moves
pub mod MoveLists
pub mod Passes
pub mod Letters
pub mod San
pub mod Refusals
pub mod Fen
pub mod FirstFields
pub mod Sets
pub mod Keys
pub mod Laws
