-- Sets of squares.
use Rattle.std.specs.Prelude.{◌≡◌, ◌≤◌, ◌↔◌, ◌==◌, ◌&&◌, ℕ, Bool, true, not, Option, Some, None}
use Rattle.std.specs.FinSet.{FinSet, empty, contains, len}
use Rattle.std.specs.Int.{bit_at}
use Rattle.chess.specs.Public.Squares.{Place, IsOnBoard, place_cmp, index_of, same_square}
use Rattle.chess.specs.Public.Placements.{Placement, man_at}
use Rattle.chess.specs.Public.Attacks.{IsAttackedFrom, Reaches}
use Rattle.chess.specs.declared.board.man.Man.{Man}

-- a set of squares
abbrev pub Places : Type 0
Places = FinSet place_cmp

abbrev pub no_places : Places
no_places = empty

-- the square is in the set
abbrev pub is_in : Places → Place → Bool
is_in set s = contains set s

-- the set is that of the squares of the board which have the fact
abbrev pub HoldsExactly : (Place → Type 0) → Places → Type 0
HoldsExactly fact set = (s : Place) → (is_in set s ≡ true) ↔ (IsOnBoard s × fact s)

-- the squares that the man on s attacks; the empty set where there is none
abbrev pub IsReachOf : Placement → Place → Places → Type 0
IsReachOf p s set = HoldsExactly (IsAttackedFrom p s) set

-- the squares on which that man stands
abbrev pub IsSquaresOf : Placement → Man → Places → Type 0
IsSquaresOf p man set = HoldsExactly (λ s. man_at p s ≡ Some man) set

-- that man stands on s, one of the squares, and attacks the target
abbrev pub IsAttacker : Placement → Man → Place → Places → Place → Type 0
IsAttacker p man target among s = (is_in among s ≡ true) × (man_at p s ≡ Some man)
    × Reaches p man.side man.kind s target

-- the bitboard, a number, has the bit of the nth square
abbrev pub has_bit : ℕ → ℕ → Bool
has_bit bitboard n = bit_at bitboard n == 1

-- the bits of the bitboard are the squares of the board with the fact
abbrev pub IsBitboardOf : (Place → Type 0) → ℕ → Type 0
IsBitboardOf fact bitboard = (s : Place) → IsOnBoard s
    → (has_bit bitboard (index_of s) ≡ true) ↔ fact s

-- how many squares a set has
abbrev pub size_of : Places → ℕ
size_of set = len set

-- the first square of a set in the order a1, b1 to h1, a2 and so on was taken out; or there was
-- none, and the set is as it was
abbrev pub IsTakenFirst : Places → Places → Option Place → Type 0
IsTakenFirst old new None = (old ≡ no_places) × (new ≡ old)
IsTakenFirst old new (Some t) = IsOnBoard t × (is_in old t ≡ true)
    × ((s : Place) → is_in old s ≡ true → index_of t ≤ index_of s)
    × ((s : Place) → is_in new s ≡ (is_in old s && not (same_square s t)))
