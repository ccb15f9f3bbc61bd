-- Lists of the legal moves of a position.
use Rattle.std.specs.Prelude.{◌≢◌, List, length, drop}
use Rattle.std.specs.List.{All, AllPairs, Contains}
use Rattle.chess.specs.Public.Positions.{State}
use Rattle.chess.specs.Public.Moves.{IsLegal}
use Rattle.chess.specs.declared.moves.Move.{Move}

-- what stands in the new list after as many moves as the old one has
abbrev pub appended : List Move → List Move → List Move
appended old new = drop (length old) new

-- each move of the list is legal
abbrev pub AreLegal : State → List Move → Type 0
AreLegal P moves = All (IsLegal P) moves

-- each legal move stands in the list
abbrev pub HasEachLegal : State → List Move → Type 0
HasEachLegal P moves = (m : Move) → IsLegal P m → Contains moves m

-- no move stands in the list twice
abbrev pub AreDistinct : List Move → Type 0
AreDistinct moves = AllPairs (λ m n. m ≢ n) moves
