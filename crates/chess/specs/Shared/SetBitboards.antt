-- Sets of squares as bitboards: which places have their bit, in ascending order.
use Rattle.std.specs.Prelude.{◌≡◌, ℕ, zero, suc, Bool, if◌then◌else◌}
use Rattle.std.specs.Coded.{Coded}
use Rattle.std.specs.FinSet.{empty, insert, code}
use Rattle.chess.specs.Public.Squares.{Place, IsOnBoard, square_at}
use Rattle.chess.specs.Shared.PlaceCodes.{coded_place}
use Rattle.chess.specs.Public.Sets.{Places, HoldsExactly}

-- those of the first n squares that pass the test
unfoldable pub first_places : (ℕ → Bool) → ℕ → Places
first_places test zero = empty
first_places test (suc n) = if test n then insert (first_places test n) (square_at n)
    else first_places test n

-- the squares that pass the test
abbrev pub places_of : (ℕ → Bool) → Places
places_of test = first_places test 64

-- the square is in the set, and no other one is
abbrev pub HasOnly : Places → Place → Type 0
HasOnly set s = IsOnBoard s × HoldsExactly (λ t. t ≡ s) set

-- a set is stored as its squares in order
abbrev pub coded_places : Coded Places
coded_places = code coded_place
