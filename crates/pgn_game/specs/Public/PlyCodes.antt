-- A ply in three bytes: enough to move the men by it on any placement, with no question to the
-- Laws.
use Rattle.std.specs.Prelude.{◌≡◌, ◌↔◌, ℕ, ◌+◌, ◌*◌, ◌/◌, ◌%◌, ◌==◌, ltb, Bool, true, false}
use Rattle.std.specs.Prelude.{if◌then◌else◌, List, [], ◌∷◌, Option, Some, None, IfSome}
use Rattle.chess.specs.Public.Squares.{Place, IsOnBoard, square_at, index_of}
use Rattle.chess.specs.Public.Placements.{Placement, with_man}
use Rattle.chess.specs.Public.Positions.{State, king_of, IsCheck}
use Rattle.chess.specs.Public.Moves.{capture_square, arriving, with_rook, after, HasMove}
use Rattle.chess.specs.declared.board.man.Man.{Man}
use Rattle.chess.specs.declared.board.man.Side.{Side}
use Rattle.chess.specs.declared.board.man.Side.TheVariants.{White, Black}
use Rattle.chess.specs.declared.board.man.Kind.{Kind}
use Rattle.chess.specs.declared.board.man.Kind.TheVariants.{King, Queen, Rook, Bishop, Knight, Pawn}
use Rattle.chess.specs.declared.board.man.Wing.{Wing}
use Rattle.chess.specs.declared.board.man.Wing.TheVariants.{KingSide, QueenSide}
use Rattle.chess.specs.declared.moves.Move.{Move}

-- what is kept of a ply: where the man comes from and where to, in castling the king
pub record PlyCode : Type 0 where
  pub from : Place
  pub to : Place
  -- the square of the man that is taken, if one is: `to`, or en passant the one beside it
  pub taken : Place
  -- the man that arrives: the one that moves, or what the pawn becomes
  pub man : Man
  -- the wing, where the ply is castling
  pub castle : Option Wing
  -- whether the side that is then to move is in check, and whether it has no legal move
  pub check : Bool
  pub stuck : Bool

-- the two marks are those of the position: whether the side to move is in check, and whether it has
-- no legal move
pub record AreMarks (P : State) (in_check is_stuck : Bool) : Type 0 where
  pub check : (in_check ≡ true) ↔ IsCheck P.men P.turn
  pub stuck : (is_stuck ≡ true) ↔ (¬ HasMove P)

-- it is the code of the move in the position
pub record IsCode (P : State) (m : Move) (c : PlyCode) : Type 0 where
  pub from : c.from ≡ m.from
  pub to : c.to ≡ m.to
  pub taken : c.taken ≡ capture_square P m
  pub man : arriving P m.promote m.from ≡ Some c.man
  pub castle : c.castle ≡ m.castle
  pub marks : AreMarks (after P m) c.check c.stuck

-- they are the codes of these moves, of which the first is played in the position, and each other
-- in the one that the moves before it lead to
abbrev pub AreCodes : State → List Move → List PlyCode → Type 0
AreCodes P [] codes = codes ≡ []
AreCodes P (m ∷ moves) codes = (c : PlyCode) × (more : List PlyCode) × (codes ≡ c ∷ more)
    × IsCode P m c × AreCodes (after P m) moves more

-- the men moved by a code: the man taken is gone, the one that moves has left its square and
-- arrives, and in castling the rook goes too
abbrev pub moved : Placement → PlyCode → Placement
moved men c =
    with_rook c.man.side c.castle
    (with_man (with_man (with_man men c.taken None) c.from None) c.to (Some c.man))

-- the code has a spelling: its squares are on the board, and only a king castles
pub record FitsCode (c : PlyCode) : Type 0 where
  pub from : IsOnBoard c.from
  pub to : IsOnBoard c.to
  pub taken : IsOnBoard c.taken
  pub king : IfSome c.castle (λ _. c.man.kind ≡ King)

-- a mark as a number
abbrev pub bit : Bool → ℕ
bit false = 0
bit true = 1

-- two marks as a number less than 4: check, and no legal move
abbrev pub marks_number : Bool → Bool → ℕ
marks_number check stuck = bit check + 2 * bit stuck

-- the number of a kind, and of a side: their sum is a man's number, so White's six men come before
-- Black's
abbrev pub kind_number : Kind → ℕ
kind_number King = 0
kind_number Queen = 1
kind_number Rook = 2
kind_number Bishop = 3
kind_number Knight = 4
kind_number Pawn = 5

abbrev pub side_number : Side → ℕ
side_number White = 0
side_number Black = 6

-- the number of a king that castles, by his side and the wing
abbrev pub castle_number : Side → Wing → ℕ
castle_number White KingSide = 12
castle_number White QueenSide = 13
castle_number Black KingSide = 14
castle_number Black QueenSide = 15

-- the number, less than 16, of the man that arrives, or of a king that castles
abbrev pub man_number : Man → Option Wing → ℕ
man_number man None = side_number man.side + kind_number man.kind
man_number man (Some wing) = castle_number man.side wing

-- the kind with its number, and the man with such a number, and the wing on which he castles, if he
-- does
abbrev pub numbered_kind : ℕ → Kind
numbered_kind n =
    if n == 0 then King else if n == 1 then Queen else if n == 2 then Rook else if n == 3
    then Bishop else if n == 4 then Knight else Pawn

abbrev pub numbered_man : ℕ → Man
numbered_man n = if ltb n 12 then
    record { side = if ltb n 6 then White else Black; kind = numbered_kind (n % 6) }
    else king_of (if ltb n 14 then White else Black)

abbrev pub numbered_castle : ℕ → Option Wing
numbered_castle n = if ltb n 12 then None else Some (if n % 2 == 0 then KingSide else QueenSide)

-- the three bytes of a code: in the low six bits of each a square, `from`, `to` and `taken`,
-- counted from 0 for a1, b1 to h1, a2 and so on; in the two bits above these the marks, and then
-- the low and the high half of the man's number
abbrev pub code_bytes : PlyCode → List ℕ
code_bytes c =
    (index_of c.from + 64 * marks_number c.check c.stuck)
    ∷ (index_of c.to + 64 * (man_number c.man c.castle % 4))
    ∷ (index_of c.taken + 64 * (man_number c.man c.castle / 4)) ∷ []

-- the code that three bytes spell: each three bytes spell one
abbrev pub code_of : ℕ → ℕ → ℕ → PlyCode
code_of a b d = record {
  from = square_at (a % 64);
  to = square_at (b % 64);
  taken = square_at (d % 64);
  man = numbered_man (b / 64 + 4 * (d / 64));
  castle = numbered_castle (b / 64 + 4 * (d / 64));
  check = (a / 64) % 2 == 1;
  stuck = a / 128 == 1;
}
