-- What men see on the empty board, and the squares between two squares.
use Rattle.std.specs.Prelude.{◌<◌, ◌≤◌, ℕ, ◌≡◌, Some}
use Rattle.chess.specs.Public.Squares.{Place, IsOnBoard, IsStraight, IsAhead}
use Rattle.chess.specs.Public.Attacks.{IsNear, IsJump, IsPawnAttack, Reaches}
use Rattle.chess.specs.Public.Placements.{Placement, IsEmpty, man_at}
use Rattle.chess.specs.declared.board.direction.Direction.{Direction}
use Rattle.chess.specs.declared.board.man.Side.{Side}
use Rattle.chess.specs.declared.board.man.Kind.{Kind}
use Rattle.chess.specs.declared.board.man.Kind.TheVariants.{King, Queen, Rook, Bishop, Knight, Pawn}
use Rattle.chess.specs.declared.board.man.Man.{Man}

-- t is some steps ahead of s along the way
abbrev pub IsInLine : Direction → Place → Place → Type 0
IsInLine way s t = (k : ℕ) × (1 ≤ k) × IsAhead way k s t

-- a man of this side and kind on s attacks t where no man stands between
abbrev pub IsPseudoAttack : Side → Kind → Place → Place → Type 0
IsPseudoAttack side King s t = IsNear s t
IsPseudoAttack side Queen s t = (way : Direction) × IsInLine way s t
IsPseudoAttack side Rook s t = (way : Direction) × IsStraight way × IsInLine way s t
IsPseudoAttack side Bishop s t = (way : Direction) × (¬ IsStraight way) × IsInLine way s t
IsPseudoAttack side Knight s t = IsJump s t
IsPseudoAttack side Pawn s t = IsPawnAttack side s t

-- u stands on a line from s to t, after s and before t
abbrev pub StandsBetween : Place → Place → Place → Type 0
StandsBetween s t u = (way : Direction) × (k : ℕ) × (j : ℕ) × IsAhead way k s t × IsAhead way j s u
    × (1 ≤ j) × (j < k)

-- no man stands between
abbrev pub IsUnblocked : Placement → Place → Place → Type 0
IsUnblocked p s t = (u : Place) → IsOnBoard u → StandsBetween s t u → IsEmpty p u

-- a man of the side stands on s and attacks t
pub record IsAttackedFrom (p : Placement) (side : Side) (s t : Place) : Type 0 where
  pub man : Man
  pub here : man_at p s ≡ Some man
  pub own : man.side ≡ side
  pub reaches : Reaches p side man.kind s t
