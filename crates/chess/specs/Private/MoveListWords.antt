-- What is appended to a list of moves on the way to all legal ones.
use Rattle.std.specs.Prelude.{◌≡◌, ◌≢◌, ◌++◌, List, Some}
use Rattle.std.specs.List.{All, AllPairs, Contains}
use Rattle.chess.specs.Public.Squares.{Place}
use Rattle.chess.specs.Public.Positions.{State}
use Rattle.chess.specs.Public.Moves.{IsLegal, IsPromotion}
use Rattle.chess.specs.declared.board.man.Wing.{Wing}
use Rattle.chess.specs.declared.moves.Move.{Move}

-- the moves with the fact are appended, each once, and no other move
pub record Lists (fact : Move → Type 0) (old new : List Move) : Type 0 where
  pub added : List Move
  pub is : new ≡ old ++ added
  pub sound : All fact added
  pub each : (m : Move) → fact m → Contains added m
  pub once : AllPairs (λ m n. m ≢ n) added

-- some moves, or none, are appended
abbrev pub Grows : List Move → List Move → Type 0
Grows old new = (added : List Move) × (new ≡ old ++ added)

-- the one move, if it is legal
abbrev pub IsThatLegal : State → Move → Move → Type 0
IsThatLegal P n m = (m ≡ n) × IsLegal P m

-- a legal move from s; one from s to t; one that promotes; one that castles
abbrev pub Leaves : State → Place → Move → Type 0
Leaves P s m = IsLegal P m × (m.from ≡ s)

abbrev pub LeavesFor : State → Place → Place → Move → Type 0
LeavesFor P s t m = Leaves P s m × (m.to ≡ t)

abbrev pub PromotesOn : State → Place → Place → Move → Type 0
PromotesOn P s t m = LeavesFor P s t m × IsPromotion m.promote

abbrev pub CastlesFrom : State → Place → Place → Move → Type 0
CastlesFrom P s t m = LeavesFor P s t m × (wing : Wing) × (m.castle ≡ Some wing)
