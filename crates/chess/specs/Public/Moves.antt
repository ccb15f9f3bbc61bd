-- Which moves there are, and the position after one (Laws 3.1 to 3.9; PGN 16.1.3.3 to 16.1.3.6).
use Rattle.std.specs.Prelude.{◌≡◌, ◌≢◌, ◌⊎◌, ℕ, ◌+◌, ◌/◌, ◌≤◌, Bool, true, false, not, ◌&&◌, ◌||◌}
use Rattle.std.specs.Prelude.{◌==◌, if◌then◌else◌, min, Option, Some, None, is_some}
use Rattle.chess.specs.Public.Squares.{Place, IsOnBoard, same_square, gap}
use Rattle.chess.specs.Public.Placements.{Placement, man_at, with_man, opposite, IsOccupiedBy}
use Rattle.chess.specs.Public.Placements.{IsEmpty}
use Rattle.chess.specs.Public.Attacks.{Reaches, IsAttacked, IsForward}
use Rattle.chess.specs.Public.Positions.{State, rook_of, home_rank, pawn_rank, has_right, king_from}
use Rattle.chess.specs.Public.Positions.{king_to, rook_from, rook_to, IsCheck}
use Rattle.chess.specs.declared.board.man.Man.{Man}
use Rattle.chess.specs.declared.board.man.Side.{Side}
use Rattle.chess.specs.declared.board.man.Side.TheVariants.{White, Black}
use Rattle.chess.specs.declared.board.man.Kind.{Kind}
use Rattle.chess.specs.declared.board.man.Kind.TheVariants.{King, Queen, Rook, Bishop, Knight, Pawn}
use Rattle.chess.specs.declared.board.man.Wing.{Wing}
use Rattle.chess.specs.declared.board.man.Wing.TheVariants.{KingSide, QueenSide}
use Rattle.chess.specs.declared.board.man.CastlingRights.{CastlingRights}
use Rattle.chess.specs.declared.moves.Move.{Move}

-- a pawn steps forward to an empty square (Laws 3.7.1)
abbrev pub IsSingleStep : State → Place → Place → Type 0
IsSingleStep P s t = (t.file ≡ s.file) × IsForward P.turn s.rank t.rank × IsEmpty P.men t

-- from its first rank a pawn steps two squares forward, both empty (Laws 3.7.2)
pub record IsDoubleStep (P : State) (s t : Place) : Type 0 where
  pub file : t.file ≡ s.file
  pub from_first_rank : s.rank ≡ pawn_rank P.turn
  -- the square that it passes over
  pub passed : Place
  pub same_file : passed.file ≡ s.file
  pub first : IsForward P.turn s.rank passed.rank
  pub second : IsForward P.turn passed.rank t.rank
  pub empty : IsEmpty P.men passed
  pub end_empty : IsEmpty P.men t

-- a pawn takes a man of the other side that it attacks, or moves to the en passant square that it
-- attacks (Laws 3.7.3, 3.7.3.1)
abbrev pub IsPawnCapture : State → Place → Place → Type 0
IsPawnCapture P s t = Reaches P.men P.turn Pawn s t
    × (IsOccupiedBy P.men (opposite P.turn) t ⊎ (P.en_passant ≡ Some t))

abbrev pub IsPawnMove : State → Place → Place → Type 0
IsPawnMove P s t = IsSingleStep P s t ⊎ (IsDoubleStep P s t ⊎ IsPawnCapture P s t)

-- what a pawn may become
abbrev pub IsPromotionKind : Kind → Type 0
IsPromotionKind kind = (kind ≡ Queen) ⊎ ((kind ≡ Rook) ⊎ ((kind ≡ Bishop) ⊎ (kind ≡ Knight)))

abbrev pub IsPromotion : Option Kind → Type 0
IsPromotion None = ⊥
IsPromotion (Some found) = IsPromotionKind found

-- a pawn that reaches the last rank becomes a queen, rook, bishop or knight, and no other pawn
-- becomes anything (Laws 3.7.3.3)
abbrev pub Promotes : Side → Place → Option Kind → Type 0
Promotes side t promote = ((t.rank ≡ home_rank (opposite side)) × IsPromotion promote)
    ⊎ ((t.rank ≢ home_rank (opposite side)) × (promote ≡ None))

-- a file between king and rook of a wing
abbrev pub IsBetween : Wing → ℕ → Type 0
IsBetween KingSide file = (6 ≤ file) × (file ≤ 7)
IsBetween QueenSide file = (2 ≤ file) × (file ≤ 4)

-- castling on a wing: the king goes to its square with the right held, and all squares between king
-- and rook are empty (Laws 3.8.2)
pub record Castles (P : State) (wing : Wing) (m : Move) : Type 0 where
  pub from : m.from ≡ king_from P.turn
  pub to : m.to ≡ king_to P.turn wing
  pub right : has_right P.rights P.turn wing ≡ true
  pub empty : (s : Place) → s.rank ≡ home_rank P.turn → IsBetween wing s.file → IsEmpty P.men s

-- a king goes to a square that it attacks, or castles (Laws 3.8.1, 3.8.2)
abbrev pub IsKingMove : State → Move → Option Wing → Type 0
IsKingMove P m None = Reaches P.men P.turn King m.from m.to
IsKingMove P m (Some wing) = Castles P wing m

-- a man of the kind may go so: a pawn as above, a king as above, any other to a square that it
-- attacks (Laws 3.2 to 3.8)
abbrev pub Goes : State → Move → Kind → Type 0
Goes P m Pawn = (m.castle ≡ None) × IsPawnMove P m.from m.to × Promotes P.turn m.to m.promote
Goes P m King = (m.promote ≡ None) × IsKingMove P m m.castle
Goes P m Queen = (m.castle ≡ None) × (m.promote ≡ None) × Reaches P.men P.turn Queen m.from m.to
Goes P m Rook = (m.castle ≡ None) × (m.promote ≡ None) × Reaches P.men P.turn Rook m.from m.to
Goes P m Bishop = (m.castle ≡ None) × (m.promote ≡ None) × Reaches P.men P.turn Bishop m.from m.to
Goes P m Knight = (m.castle ≡ None) × (m.promote ≡ None) × Reaches P.men P.turn Knight m.from m.to

-- a pseudo-legal move: a man of the side to move goes as it may from a square of the board to
-- another, and not to a square of its own side; whether its king is then attacked is not asked
-- (Laws 3.1)
pub record IsPseudoLegal (P : State) (m : Move) : Type 0 where
  pub from : IsOnBoard m.from
  pub to : IsOnBoard m.to
  pub man : Man
  pub here : man_at P.men m.from ≡ Some man
  pub own : man.side ≡ P.turn
  pub free : IsOccupiedBy P.men P.turn m.to → ⊥
  pub goes : Goes P m man.kind

abbrev pub is_pawn : Option Man → Bool
is_pawn None = false
is_pawn (Some man) =
    elim man.kind
    [ King ↦ false | Queen ↦ false | Rook ↦ false | Bishop ↦ false | Knight ↦ false | Pawn ↦ true ]

abbrev pub is_square : Option Place → Place → Bool
is_square None s = false
is_square (Some t) s = same_square t s

-- the move is a capture en passant: a pawn goes to the en passant square on another file (Laws
-- 3.7.3.1)
abbrev pub is_en_passant : State → Move → Bool
is_en_passant P m = is_pawn (man_at P.men m.from) && not (m.from.file == m.to.file)
    && is_square P.en_passant m.to

-- the square of the man that the move takes, if it takes one: en passant it is beside the pawn that
-- takes
abbrev pub capture_square : State → Move → Place
capture_square P m = if is_en_passant P m
    then record { file = m.to.file; rank = m.from.rank } else m.to

-- the man that arrives: the one that moves, or what the pawn becomes
abbrev pub arriving : State → Option Kind → Place → Option Man
arriving P None s = man_at P.men s
arriving P (Some kind) s = Some (record { side = P.turn; kind = kind })

-- castling also moves the rook
abbrev pub with_rook : Side → Option Wing → Placement → Placement
with_rook side None p = p
with_rook side (Some wing) p =
    with_man (with_man p (rook_from side wing) None) (rook_to side wing) (Some (rook_of side))

-- the men after a move: the man taken is gone, the man that moves has left its square and arrives
abbrev pub men_after : State → Move → Placement
men_after P m =
    with_rook P.turn m.castle
    (with_man (with_man (with_man P.men (capture_square P m) None) m.from None) m.to
    (arriving P m.promote m.from))

-- a right is lost when its king moves, and when a move leaves its rook's corner or comes to it
-- (Laws 3.8.2.1)
abbrev pub keeps_right : CastlingRights → Move → Side → Wing → Bool
keeps_right rights m side wing = has_right rights side wing
    && not (same_square m.from (king_from side))
    && not (same_square m.from (rook_from side wing))
    && not (same_square m.to (rook_from side wing))

abbrev pub rights_after : CastlingRights → Move → CastlingRights
rights_after rights m = record {
  white_king_side = keeps_right rights m White KingSide;
  white_queen_side = keeps_right rights m White QueenSide;
  black_king_side = keeps_right rights m Black KingSide;
  black_queen_side = keeps_right rights m Black QueenSide;
}

-- after every double step of a pawn the square that it passed over, else none (PGN 16.1.3.4)
abbrev pub en_passant_after : State → Move → Option Place
en_passant_after P m =
    if is_pawn (man_at P.men m.from) && (gap m.from.rank m.to.rank == 2)
    then Some (record { file = m.from.file; rank = (m.from.rank + m.to.rank) / 2 }) else None

-- a count goes up by one, and stays at 4,294,967,295
abbrev pub one_more : ℕ → ℕ
one_more n = min (n + 1) 4294967295

-- the halfmove clock is 0 after a pawn's move or a capture (PGN 16.1.3.5)
abbrev pub halfmove_clock_after : State → Move → ℕ
halfmove_clock_after P m =
    if is_pawn (man_at P.men m.from) || is_some (man_at P.men m.to) then 0
    else one_more P.halfmove_clock

-- the fullmove number goes up after Black's move (PGN 16.1.3.6)
abbrev pub fullmove_number_after : Side → ℕ → ℕ
fullmove_number_after White n = n
fullmove_number_after Black n = one_more n

-- the position after a move
abbrev pub after : State → Move → State
after P m = record {
  men = men_after P m;
  turn = opposite P.turn;
  rights = rights_after P.rights m;
  en_passant = en_passant_after P m;
  halfmove_clock = halfmove_clock_after P m;
  fullmove_number = fullmove_number_after P.turn P.fullmove_number;
}

-- castling is barred while the king's square, the square that it crosses or the square that it
-- comes to is attacked (Laws 3.8.2.2); no other square matters
abbrev pub IsBarred : State → Wing → Type 0
IsBarred P wing = IsAttacked P.men (opposite P.turn) (king_from P.turn)
    ⊎ (IsAttacked P.men (opposite P.turn) (rook_to P.turn wing)
    ⊎ IsAttacked P.men (opposite P.turn) (king_to P.turn wing))

abbrev pub IsUnbarred : State → Option Wing → Type 0
IsUnbarred P None = Unit {0}
IsUnbarred P (Some wing) = IsBarred P wing → ⊥

-- a legal move: pseudo-legal, it leaves the own king unattacked, and castling is not barred (Laws
-- 3.9.2, 3.8.2.2)
pub record IsLegal (P : State) (m : Move) : Type 0 where
  pub pseudo_legal : IsPseudoLegal P m
  pub safe : IsCheck (men_after P m) P.turn → ⊥
  pub unbarred : IsUnbarred P m.castle

-- the move takes a pawn en passant, and is legal; some move does
pub record TakesEnPassant (P : State) (m : Move) : Type 0 where
  pub capture : is_en_passant P m ≡ true
  pub legal : IsLegal P m

abbrev pub CanTakeEnPassant : State → Type 0
CanTakeEnPassant P = (m : Move) × TakesEnPassant P m

-- some legal move goes from s to t; some legal move leaves s; some move is legal
abbrev pub CanGo : State → Place → Place → Type 0
CanGo P s t = (promote : Option Kind) × (castle : Option Wing)
    × IsLegal P (record { from = s; to = t; promote = promote; castle = castle })

abbrev pub HasMove : State → Type 0
HasMove P = (s t : Place) × CanGo P s t

-- checkmate: the side to move is in check and has no legal move (Laws 1.4.1); stalemate: it is not
-- in check and has none (Laws 5.2.1)
abbrev pub IsMate : State → Type 0
IsMate P = IsCheck P.men P.turn × (¬ HasMove P)

abbrev pub IsStalemate : State → Type 0
IsStalemate P = (¬ IsCheck P.men P.turn) × (¬ HasMove P)
