-- Which squares a man attacks (Laws 3.1 to 3.8).
use Rattle.std.specs.Prelude.{◌≡◌, ◌⊎◌, ℕ, ◌+◌, ◌<◌, ◌≤◌, Some}
use Rattle.chess.specs.Public.Squares.{Place, IsOnBoard, IsStraight, IsAhead, gap}
use Rattle.chess.specs.declared.board.direction.Direction.{Direction}
use Rattle.chess.specs.Public.Placements.{Placement, man_at, IsEmpty}
use Rattle.chess.specs.declared.board.man.Man.{Man}
use Rattle.chess.specs.declared.board.man.Side.{Side}
use Rattle.chess.specs.declared.board.man.Side.TheVariants.{White, Black}
use Rattle.chess.specs.declared.board.man.Kind.{Kind}
use Rattle.chess.specs.declared.board.man.Kind.TheVariants.{King, Queen, Rook, Bishop, Knight, Pawn}

-- no man stands on the squares that are fewer than so many steps ahead
abbrev pub IsClearFor : Placement → Direction → Place → ℕ → Type 0
IsClearFor p way s steps = (j : ℕ) (u : Place) → IsOnBoard u → 1 ≤ j → j < steps → IsAhead way j s u
    → IsEmpty p u

-- t is on a ray from s: some steps along the way, and each square between is empty; no man passes
-- over another (Laws 3.5)
pub record IsOnRay (p : Placement) (way : Direction) (s t : Place) : Type 0 where
  pub steps : ℕ
  pub far : 1 ≤ steps
  pub ahead : IsAhead way steps s t
  pub clear : IsClearFor p way s steps

-- a neighbouring square, as a king attacks it (Laws 3.8.1)
abbrev pub IsNear : Place → Place → Type 0
IsNear s t = (gap s.file t.file ≤ 1) × (gap s.rank t.rank ≤ 1)
    × (1 ≤ gap s.file t.file + gap s.rank t.rank)

-- a knight's jump: two squares one way and one the other (Laws 3.6)
abbrev pub IsJump : Place → Place → Type 0
IsJump s t = ((gap s.file t.file ≡ 1) × (gap s.rank t.rank ≡ 2))
    ⊎ ((gap s.file t.file ≡ 2) × (gap s.rank t.rank ≡ 1))

-- the second rank is the next one forward for a pawn of the side
abbrev pub IsForward : Side → ℕ → ℕ → Type 0
IsForward White a b = b ≡ a + 1
IsForward Black a b = a ≡ b + 1

-- the square diagonally in front of a pawn of the side, on a neighbouring file (Laws 3.7.3)
abbrev pub IsPawnAttack : Side → Place → Place → Type 0
IsPawnAttack side s t = (gap s.file t.file ≡ 1) × IsForward side s.rank t.rank

-- a man of this side and kind on s attacks t: rooks run along ranks and files, bishops along
-- diagonals, queens along both (Laws 3.1.2, 3.2 to 3.8)
abbrev pub Reaches : Placement → Side → Kind → Place → Place → Type 0
Reaches p side King s t = IsNear s t
Reaches p side Queen s t = (way : Direction) × IsOnRay p way s t
Reaches p side Rook s t = (way : Direction) × IsStraight way × IsOnRay p way s t
Reaches p side Bishop s t = (way : Direction) × (¬ IsStraight way) × IsOnRay p way s t
Reaches p side Knight s t = IsJump s t
Reaches p side Pawn s t = IsPawnAttack side s t

-- the man on s attacks t
pub record IsAttackedFrom (p : Placement) (s t : Place) : Type 0 where
  pub man : Man
  pub here : man_at p s ≡ Some man
  pub reaches : Reaches p man.side man.kind s t

-- some man of the side attacks t (Laws 3.1.2)
pub record IsAttacked (p : Placement) (side : Side) (t : Place) : Type 0 where
  pub from : Place
  pub man : Man
  pub here : man_at p from ≡ Some man
  pub own : man.side ≡ side
  pub reaches : Reaches p side man.kind from t
