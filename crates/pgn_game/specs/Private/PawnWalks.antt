-- The pawns of a line, moved by the codes of its plies alone.
use Rattle.std.specs.Prelude.{◌≡◌, ◌<◌, ◌≤◌, ◌^◌, ◌==◌, ◌||◌, ℕ, Bool, false, List, length, get_or}
use Rattle.std.specs.Prelude.{if◌then◌else◌}
use Rattle.chess.specs.Public.Keys.{IsBitboardOfMan}
use Rattle.chess.specs.Public.Placements.{Placement}
use Rattle.chess.specs.Public.Positions.{State, pawn_of}
use Rattle.chess.specs.declared.board.man.Side.TheVariants.{White, Black}
use Rattle.pgn_game.specs.Public.Openings.{EndsAt}

-- the two numbers are the bitboards of White's pawns and of Black's
pub record HavePawns (men : Placement) (pawns : List ℕ) : Type 0 where
  pub white : IsBitboardOfMan men (pawn_of White) (get_or pawns 0 0)
  pub black : IsBitboardOfMan men (pawn_of Black) (get_or pawns 1 0)

-- there are two of them, each of 64 bits
pub record IsPair (pawns : List ℕ) : Type 0 where
  pub size : length pawns ≡ 2
  pub white_fit : get_or pawns 0 0 < 2 ^ 64
  pub black_fit : get_or pawns 1 0 < 2 ^ 64

-- a rook leaves or comes to the square with that index where the king with that number castles
abbrev pub is_of_rook : ℕ → ℕ → Bool
is_of_rook number i =
    if number == 12 then (i == 7 || i == 5) else if number == 13 then (i == 0 || i == 3)
    else if number == 14 then (i == 63 || i == 61)
    else if number == 15 then (i == 56 || i == 59) else false

-- the square with that index is one of the three that a ply names
abbrev pub is_of_ply : ℕ → ℕ → ℕ → ℕ → Bool
is_of_ply from to taken i = i == to || (i == from || i == taken)

-- a man is taken from the square with that index, or put there, by the ply of these squares and of
-- the man with that number
abbrev pub is_touched : ℕ → ℕ → ℕ → ℕ → ℕ → Bool
is_touched from to taken number i = is_of_ply from to taken i || is_of_rook number i

-- of these positions of a game, no line ends in any but the first of so many
abbrev pub EndNoneFrom : List State → List State → ℕ → Type 0
EndNoneFrom ends positions count = (ply line : ℕ) → count ≤ ply → EndsAt ends positions ply line → ⊥
