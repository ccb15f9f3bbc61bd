-- Words for the parts of a move's rules, each the fact of one function.
use Rattle.std.specs.Prelude.{◌≡◌, ◌⊎◌, true, ℕ, Option, Some, None, MatchOption}
use Rattle.chess.specs.Public.Squares.{Place, IsOnBoard}
use Rattle.chess.specs.Public.Placements.{man_at, IsEmpty}
use Rattle.chess.specs.Public.Attacks.{Reaches, IsForward}
use Rattle.chess.specs.Public.Positions.{State, home_rank, pawn_rank, king_to}
use Rattle.chess.specs.Public.Moves.{IsSingleStep, IsDoubleStep, IsPawnCapture, IsBetween, CanGo}
use Rattle.chess.specs.Public.Moves.{IsLegal, IsPromotion}
use Rattle.chess.specs.Public.Sets.{Places, is_in}
use Rattle.chess.specs.declared.board.man.Side.{Side}
use Rattle.chess.specs.declared.board.man.Kind.{Kind}
use Rattle.chess.specs.declared.board.man.Kind.TheVariants.{Pawn}
use Rattle.chess.specs.declared.board.man.Wing.{Wing}
use Rattle.chess.specs.declared.moves.Move.{Move}

-- a man of that kind, of the side to move, stands on the square
abbrev pub IsMover : State → Kind → Place → Type 0
IsMover P kind s = man_at P.men s ≡ Some (record { side = P.turn; kind = kind })

-- a pawn of the side to move on s steps to t, one square or two; it takes on t
abbrev pub IsStepper : State → Place → Place → Type 0
IsStepper P t s = IsMover P Pawn s × (IsSingleStep P s t ⊎ IsDoubleStep P s t)

abbrev pub IsTaker : State → Place → Place → Type 0
IsTaker P t s = IsMover P Pawn s × IsPawnCapture P s t

-- a pawn of the side to move on s may step over the next square
abbrev pub CanStepOver : State → Place → Place → Type 0
CanStepOver P passed s = (s.rank ≡ pawn_rank P.turn) × IsEmpty P.men passed × IsMover P Pawn s

-- all squares between king and rook of the side to move are empty
abbrev pub IsOpen : State → Wing → Type 0
IsOpen P wing = (s : Place) → s.rank ≡ home_rank P.turn → IsBetween wing s.file → IsEmpty P.men s

-- a man that is neither king nor pawn goes to a square that it attacks
abbrev pub IsPlainMove : State → Move → Kind → Type 0
IsPlainMove P m kind = (m.castle ≡ None) × (m.promote ≡ None)
    × Reaches P.men P.turn kind m.from m.to

-- the square straight ahead of a pawn of the side, if it is on the board
abbrev pub IsSquareAhead : Side → Place → Option Place → Type 0
IsSquareAhead side s next =
    MatchOption next ((t : Place) → IsOnBoard t → t.file ≡ s.file → IsForward side s.rank t.rank
    → ⊥)
    (λ t. IsOnBoard t × (t.file ≡ s.file) × IsForward side s.rank t.rank)

-- a legal move without promotion and castling goes from s to t; one that promotes does; castling
-- does
abbrev pub CanGoPlainly : State → Place → Place → Type 0
CanGoPlainly P s t = IsLegal P (record { from = s; to = t; promote = None; castle = None })

abbrev pub CanPromote : State → Place → Place → Type 0
CanPromote P s t = (promote : Option Kind) × IsPromotion promote
    × IsLegal P (record { from = s; to = t; promote = promote; castle = None })

abbrev pub CanCastle : State → Place → Place → Type 0
CanCastle P s t = (wing : Wing)
    × IsLegal P (record { from = s; to = t; promote = None; castle = Some wing })

-- some legal move leaves the square; some legal move of a man of that kind there is
abbrev pub CanLeave : State → Place → Type 0
CanLeave P s = (t : Place) × IsOnBoard t × CanGo P s t

abbrev pub CanMove : State → Kind → Type 0
CanMove P kind = (s : Place) × IsOnBoard s × IsMover P kind s × CanLeave P s

-- the set has each square that has the fact
abbrev pub HasEach : (Place → Type 0) → Places → Type 0
HasEach fact set = (s : Place) → IsOnBoard s → fact s → is_in set s ≡ true

-- the set has each square that has the fact, and none outside a range or before the nth
pub record IsLeft (range fact : Place → Type 0) (left : Places) : Type 0 where
  pub each : HasEach fact left
  pub within : (s : Place) → IsOnBoard s → is_in left s ≡ true → range s

-- the squares with the fact are those found and some of those left
pub record IsSifted (fact : Place → Type 0) (left found : Places) : Type 0 where
  pub sound : (s : Place) → is_in found s ≡ true → IsOnBoard s × fact s
  pub each : (s : Place) → IsOnBoard s → fact s → (is_in found s ≡ true) ⊎ (is_in left s ≡ true)

-- where a pawn may go: a square that it attacks, one ahead or two
abbrev pub IsPawnGoal : State → Place → Place → Type 0
IsPawnGoal P s t = (t.file ≡ s.file)
    × (IsForward P.turn s.rank t.rank
    ⊎ ((n : ℕ) × IsForward P.turn s.rank n × IsForward P.turn n t.rank))

-- where a king castles to
abbrev pub IsCastlingGoal : State → Place → Type 0
IsCastlingGoal P t = (wing : Wing) × (t ≡ king_to P.turn wing)
