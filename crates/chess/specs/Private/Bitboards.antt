-- Bitboards, sets of squares in 64 bits, and twelve of them as a board.
use Rattle.std.specs.Prelude.{◌≡◌, ◌↔◌, ◌⊎◌, ◌<◌, ◌*◌, ◌/◌, ◌%◌, ◌^◌, ◌||◌, ◌&&◌, ◌==◌, ltb, ℕ}
use Rattle.std.specs.Prelude.{zero, suc, Bool, true, false, not, if◌then◌else◌, List, get_or}
use Rattle.std.specs.Prelude.{Option, Some, None, bit_or, bit_xor, bit_and}
use Rattle.chess.specs.Public.Squares.{Place, IsOnBoard, IsStraight, IsAhead, index_of}
use Rattle.chess.specs.Public.Placements.{Placement, man_at, men_of, AreOnBoard, row_of}
use Rattle.chess.specs.Public.Placements.{number_of_kind}
use Rattle.chess.specs.Public.Attacks.{IsOnRay, Reaches}
use Rattle.chess.specs.Public.Sets.{has_bit}
use Rattle.chess.specs.declared.board.direction.Direction.{Direction}
use Rattle.chess.specs.declared.board.direction.Direction.TheVariants.{North, South, East, West}
use Rattle.chess.specs.declared.board.direction.Direction.TheVariants.{NorthEast, NorthWest}
use Rattle.chess.specs.declared.board.direction.Direction.TheVariants.{SouthEast, SouthWest}
use Rattle.chess.specs.declared.board.man.Man.{Man}
use Rattle.chess.specs.declared.board.man.Side.{Side}
use Rattle.chess.specs.declared.board.man.Side.TheVariants.{White, Black}
use Rattle.chess.specs.declared.board.man.Kind.{Kind}
use Rattle.chess.specs.declared.board.man.Kind.TheVariants.{King, Queen, Rook, Bishop, Knight, Pawn}

-- ---- twelve bitboards

-- the number of the table of what a man sees: his kind's number, and one more for Black's pawns
abbrev pub pseudo_attacks_row_of : Side → Kind → ℕ
pseudo_attacks_row_of White other = number_of_kind other
pseudo_attacks_row_of Black King = 0
pseudo_attacks_row_of Black Queen = 1
pseudo_attacks_row_of Black Rook = 2
pseudo_attacks_row_of Black Bishop = 3
pseudo_attacks_row_of Black Knight = 4
pseudo_attacks_row_of Black Pawn = 6

abbrev pub side_of_row : ℕ → Side
side_of_row n = if ltb n 6 then White else Black

abbrev pub kind_of_number : ℕ → Kind
kind_of_number n =
    if n == 0 then King else if n == 1 then Queen else if n == 2 then Rook else if n == 3
    then Bishop else if n == 4 then Knight else Pawn

-- the man of the nth bitboard
abbrev pub man_of_row : ℕ → Man
man_of_row n = record { side = side_of_row n; kind = kind_of_number (n % 6) }

abbrev pub bitboard_at : List ℕ → ℕ → ℕ
bitboard_at words n = get_or words n 0

-- no square has two men
abbrev pub AreApart : List ℕ → Type 0
AreApart words = (j k i : ℕ) → j < 12 → k < 12 → i < 64 → has_bit (bitboard_at words j) i ≡ true
    → has_bit (bitboard_at words k) i ≡ true → j ≡ k

-- the man whose bitboard, of the first n, has the square
unfoldable pub man_below : List ℕ → ℕ → ℕ → Option Man
man_below words zero i = None
man_below words (suc n) i = if has_bit (bitboard_at words n) i then Some (man_of_row n)
    else man_below words n i

abbrev pub man_in : List ℕ → ℕ → Option Man
man_in words i = man_below words 12 i

-- the men that twelve bitboards hold
abbrev pub words_men : List ℕ → Placement
words_men words = men_of (man_in words)

-- the squares of a bitboard are taken from each of the twelve, or one square is set in one of them,
-- and all else is as it was
abbrev pub IsCleared : List ℕ → List ℕ → ℕ → Type 0
IsCleared old new squares = (k i : ℕ) → k < 12 → i < 64
    → has_bit (bitboard_at new k) i ≡ (has_bit (bitboard_at old k) i && not (has_bit squares i))

abbrev pub IsBitSet : List ℕ → List ℕ → ℕ → ℕ → Type 0
IsBitSet old new row at = (k i : ℕ) → k < 12 → i < 64
    → has_bit (bitboard_at new k) i ≡ ((k == row && i == at) || has_bit (bitboard_at old k) i)

-- two squares of one of them are turned over, and all else is as it was
abbrev pub IsSlid : List ℕ → List ℕ → ℕ → ℕ → ℕ → Type 0
IsSlid old new row from to = (k i : ℕ) → k < 12 → i < 64
    → has_bit (bitboard_at new k) i
    ≡ (if k == row && (i == from || i == to) then not (has_bit (bitboard_at old k) i)
    else has_bit (bitboard_at old k) i)

-- it is the man's bitboard, if there is one
abbrev pub is_row : Option Man → ℕ → Bool
is_row None k = false
is_row (Some man) k = k == row_of man

-- a man of the side and kind stands on s
abbrev pub IsMan : Placement → Side → Kind → Place → Type 0
IsMan p side other s = man_at p s ≡ Some (record { side = side; kind = other })

-- of the side's men those on the squares of a bitboard are left, each where it stood, and no other
-- man of the side is there
pub record AreLeft (old new : Placement) (side : Side) (left : ℕ) : Type 0 where
  pub on_board : AreOnBoard new
  pub same : (other : Kind) (s : Place) → IsOnBoard s
      → IsMan new side other s ↔ ((has_bit left (index_of s) ≡ true) × IsMan old side other s)

-- ---- steps

-- the bitboard of one square
abbrev pub square_bitboard : Place → ℕ
square_bitboard s = 2 ^ index_of s

-- all squares but those of the h-file, and of the a-file
abbrev pub not_h : ℕ
not_h = 9187201950435737471

abbrev pub not_a : ℕ
not_a = 18374403900871474942

-- the squares one step ahead of those of a bitboard
abbrev pub step_bitboard : Direction → ℕ → ℕ
step_bitboard North w = w * 2 ^ 8 % 2 ^ 64
step_bitboard South w = w / 2 ^ 8
step_bitboard East w = bit_and w not_h * 2 ^ 1 % 2 ^ 64
step_bitboard West w = bit_and w not_a / 2 ^ 1
step_bitboard NorthEast w = bit_and w not_h * 2 ^ 9 % 2 ^ 64
step_bitboard NorthWest w = bit_and w not_a * 2 ^ 7 % 2 ^ 64
step_bitboard SouthEast w = bit_and w not_h / 2 ^ 7
step_bitboard SouthWest w = bit_and w not_a / 2 ^ 9

-- the bitboard of the next square on the way, or of none
abbrev pub IsNextBitboard : Direction → Place → ℕ → Type 0
IsNextBitboard way s w = ((t : Place) × IsOnBoard t × IsAhead way 1 s t × (w ≡ square_bitboard t))
    ⊎ (((t : Place) → IsOnBoard t → IsAhead way 1 s t → ⊥) × (w ≡ 0))

-- ---- the squares that men attack

-- the squares two steps ahead, beside, and above and below those of a bitboard
abbrev pub two_steps_bitboard : Direction → ℕ → ℕ
two_steps_bitboard way w = step_bitboard way (step_bitboard way w)

abbrev pub beside_bitboard : ℕ → ℕ
beside_bitboard w = bit_or (step_bitboard East w) (step_bitboard West w)

abbrev pub upright_bitboard : ℕ → ℕ
upright_bitboard w = bit_or (step_bitboard North w) (step_bitboard South w)

abbrev pub near_bitboard : ℕ → ℕ
near_bitboard w =
    bit_xor (bit_or (bit_or w (beside_bitboard w))
    (upright_bitboard (bit_or w (beside_bitboard w)))) w

abbrev pub jumps_bitboard : ℕ → ℕ
jumps_bitboard w =
    bit_or (beside_bitboard (bit_or (two_steps_bitboard North w) (two_steps_bitboard South w)))
    (upright_bitboard (bit_or (two_steps_bitboard East w) (two_steps_bitboard West w)))

abbrev pub forward_way : Side → Direction
forward_way White = North
forward_way Black = South

abbrev pub pawn_bitboard : Side → ℕ → ℕ
pawn_bitboard side w = beside_bitboard (step_bitboard (forward_way side) w)

-- the squares that rooks attack, and bishops
abbrev pub IsStraightRun : Placement → Place → Place → Type 0
IsStraightRun p s t = (way : Direction) × IsStraight way × IsOnRay p way s t

abbrev pub IsDiagonalRun : Placement → Place → Place → Type 0
IsDiagonalRun p s t = (way : Direction) × (¬ IsStraight way) × IsOnRay p way s t

-- the two words have a square in common
abbrev pub DoMeet : ℕ → ℕ → Type 0
DoMeet a b = (s : Place) × IsOnBoard s × (has_bit a (index_of s) ≡ true)
    × (has_bit b (index_of s) ≡ true)

-- a man of the side and kind attacks t
abbrev pub IsAttackedBy : Placement → Side → Kind → Place → Type 0
IsAttackedBy p side other t = (s : Place) × IsOnBoard s × IsMan p side other s
    × Reaches p side other s t

-- a queen, or a man of the other kind, stands on s
abbrev pub IsRunner : Placement → Side → Kind → Place → Type 0
IsRunner p side other s = IsMan p side Queen s ⊎ IsMan p side other s

-- a queen or a rook attacks t straight, or a queen or a bishop along a diagonal
abbrev pub IsAttackedStraight : Placement → Side → Place → Type 0
IsAttackedStraight p side t = (s : Place) × IsOnBoard s × IsRunner p side Rook s
    × IsStraightRun p s t

abbrev pub IsAttackedDiagonal : Placement → Side → Place → Type 0
IsAttackedDiagonal p side t = (s : Place) × IsOnBoard s × IsRunner p side Bishop s
    × IsDiagonalRun p s t
