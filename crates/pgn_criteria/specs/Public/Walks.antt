-- What is seen of a position in a walk over plies.
use Rattle.std.specs.Prelude.{◌≡◌, ◌↔◌, Bool, IsTrue}
use Rattle.chess.specs.Public.Moves.{HasMove}
use Rattle.chess.specs.Public.Placements.{Placement, opposite}
use Rattle.chess.specs.Public.Positions.{State, IsCheck}
use Rattle.chess.specs.declared.board.man.Side.{Side}
use Rattle.pgn_game.specs.Public.PlyCodes.{PlyCode, moved}

-- the men, the side to move, whether it is in check, and whether it has no move
pub record Sight : Type 0 where
  pub men : Placement
  pub turn : Side
  pub check : Bool
  pub stuck : Bool

-- these men, this side and these two facts are what is seen of the position
pub record IsSeenOf (P : State) (placed : Placement) (side : Side) (Checked Stuck : Type 0) : Type 0
  where
    pub men : placed ≡ P.men
    pub turn : side ≡ P.turn
    pub check : Checked ↔ IsCheck P.men P.turn
    pub stuck : Stuck ↔ (¬ HasMove P)

-- the sight is one of that position
abbrev pub IsSightOf : State → Sight → Type 0
IsSightOf P s = IsSeenOf P s.men s.turn (IsTrue s.check) (IsTrue s.stuck)

-- what is seen after one more ply
abbrev pub stepped : Sight → PlyCode → Sight
stepped s c =
    record { men = moved s.men c; turn = opposite s.turn; check = c.check; stuck = c.stuck }
