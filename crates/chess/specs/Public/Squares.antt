-- Squares of the board and the ways across it (Laws 2.1 to 2.4).
use Rattle.std.specs.Prelude.{◌≡◌, ℕ, ◌+◌, ◌-◌, ◌*◌, ◌/◌, ◌%◌, ◌≤◌, Bool, ◌&&◌, ◌==◌}
use Rattle.std.specs.Ordering.{nat_cmp, ordering_then}
use Rattle.std.specs.declared.cmp.Ordering.{Ordering}
use Rattle.chess.specs.declared.board.direction.Direction.{Direction}
use Rattle.chess.specs.declared.board.direction.Direction.TheVariants.{North, South, East, West}
use Rattle.chess.specs.declared.board.direction.Direction.TheVariants.{NorthEast, NorthWest}
use Rattle.chess.specs.declared.board.direction.Direction.TheVariants.{SouthEast, SouthWest}

-- a file and a rank: file 1 is a, rank 1 is White's home rank
pub record Place : Type 0 where
  pub file : ℕ
  pub rank : ℕ

-- a square of the board has a file and a rank from 1 to 8 (Laws 2.1)
pub record IsOnBoard (s : Place) : Type 0 where
  pub file_low : 1 ≤ s.file
  pub file_high : s.file ≤ 8
  pub rank_low : 1 ≤ s.rank
  pub rank_high : s.rank ≤ 8

-- the way is along a file or a rank, and not along a diagonal
abbrev pub IsStraight : Direction → Type 0
IsStraight North = Unit {0}
IsStraight South = Unit {0}
IsStraight East = Unit {0}
IsStraight West = Unit {0}
IsStraight NorthEast = ⊥
IsStraight NorthWest = ⊥
IsStraight SouthEast = ⊥
IsStraight SouthWest = ⊥

-- t is k steps from s along the way
abbrev pub IsAhead : Direction → ℕ → Place → Place → Type 0
IsAhead North k s t = (t.file ≡ s.file) × (t.rank ≡ s.rank + k)
IsAhead South k s t = (t.file ≡ s.file) × (t.rank + k ≡ s.rank)
IsAhead East k s t = (t.file ≡ s.file + k) × (t.rank ≡ s.rank)
IsAhead West k s t = (t.file + k ≡ s.file) × (t.rank ≡ s.rank)
IsAhead NorthEast k s t = (t.file ≡ s.file + k) × (t.rank ≡ s.rank + k)
IsAhead NorthWest k s t = (t.file + k ≡ s.file) × (t.rank ≡ s.rank + k)
IsAhead SouthEast k s t = (t.file ≡ s.file + k) × (t.rank + k ≡ s.rank)
IsAhead SouthWest k s t = (t.file + k ≡ s.file) × (t.rank + k ≡ s.rank)

-- how far two numbers are apart
abbrev pub gap : ℕ → ℕ → ℕ
gap a b = (a - b) + (b - a)

-- the nth square: a1, b1 to h1, a2 and so on
abbrev pub square_at : ℕ → Place
square_at n = record { file = n % 8 + 1; rank = n / 8 + 1 }

-- where a square stands in that order
abbrev pub index_of : Place → ℕ
index_of s = 8 * (s.rank - 1) + (s.file - 1)

-- two squares are the same
abbrev pub same_square : Place → Place → Bool
same_square s t = (s.file == t.file) && (s.rank == t.rank)

-- squares in order, by file and then by rank
abbrev pub place_cmp : Place → Place → Ordering
place_cmp s t = ordering_then (nat_cmp s.file t.file) (nat_cmp s.rank t.rank)
