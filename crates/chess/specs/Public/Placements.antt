-- Which man stands on which square: a map from squares to men (Laws 2.3).
use Rattle.std.specs.Prelude.{◌≡◌, ◌+◌, Option, Some, None, ℕ, zero, suc}
use Rattle.std.specs.FinMap.{FinMap, get, insert, remove, empty}
use Rattle.chess.specs.Public.Squares.{Place, IsOnBoard, place_cmp, square_at}
use Rattle.chess.specs.declared.board.man.Man.{Man}
use Rattle.chess.specs.declared.board.man.Side.{Side}
use Rattle.chess.specs.declared.board.man.Side.TheVariants.{White, Black}
use Rattle.chess.specs.declared.board.man.Kind.{Kind}
use Rattle.chess.specs.declared.board.man.Kind.TheVariants.{King, Queen, Rook, Bishop, Knight, Pawn}

-- a placement: the squares on which men stand, and which man stands on each
abbrev pub Placement : Type 0
Placement = FinMap place_cmp Man

-- the board without men
abbrev pub no_men : Placement
no_men = empty

-- the man on a square, or none
abbrev pub man_at : Placement → Place → Option Man
man_at p s = get p s

-- the placement with that man, or none, on the square, and all else as it was
abbrev pub with_man : Placement → Place → Option Man → Placement
with_man p s None = remove p s
with_man p s (Some man) = insert p s man

-- men stand on the board alone (Laws 2.3)
abbrev pub AreOnBoard : Placement → Type 0
AreOnBoard p = (s : Place) (man : Man) → man_at p s ≡ Some man → IsOnBoard s

-- the number of a kind, of a side, and of a man: White's king is 0, his pawn 5, Black's pawn 11
abbrev pub number_of_kind : Kind → ℕ
number_of_kind King = 0
number_of_kind Queen = 1
number_of_kind Rook = 2
number_of_kind Bishop = 3
number_of_kind Knight = 4
number_of_kind Pawn = 5

abbrev pub number_of_side : Side → ℕ
number_of_side White = 0
number_of_side Black = 6

abbrev pub row_of : Man → ℕ
row_of man = number_of_side man.side + number_of_kind man.kind

-- the other side
abbrev pub opposite : Side → Side
opposite White = Black
opposite Black = White

-- a man of the side stands on the square
abbrev pub IsOccupiedBy : Placement → Side → Place → Type 0
IsOccupiedBy p side s = (man : Man) × (man_at p s ≡ Some man) × (man.side ≡ side)

-- no man stands on the square
abbrev pub IsEmpty : Placement → Place → Type 0
IsEmpty p s = man_at p s ≡ None

-- the men on the first n squares
unfoldable pub first_men : (ℕ → Option Man) → ℕ → Placement
first_men cell zero = no_men
first_men cell (suc n) = with_man (first_men cell n) (square_at n) (cell n)

-- the men on all squares
abbrev pub men_of : (ℕ → Option Man) → Placement
men_of cell = first_men cell 64
