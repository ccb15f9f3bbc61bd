-- How marks are held, so that they are found fast. No public contract cites these.
use Rattle.std.specs.Prelude.{ℕ, List}
use Rattle.std.specs.List.Sorted.{IsSorted}
use Rattle.std.specs.Ordering.{nat_cmp, ordering_then}
use Rattle.pgn_extract.specs.declared.marks.GameId.{GameId}
use Rattle.pgn_extract.specs.Public.GivenMarks.{game_id}

-- the mark that a pair of numbers is
abbrev pub given_of : ℕ × ℕ → GameId
given_of pair = game_id pair.0 pair.1

-- the pairs rise by their numbers, and where these are equal by their offsets
abbrev pub AreInOrder : List (ℕ × ℕ) → Type 0
AreInOrder pairs = IsSorted (λ x y. ordering_then (nat_cmp x.0 y.0) (nat_cmp x.1 y.1)) pairs
