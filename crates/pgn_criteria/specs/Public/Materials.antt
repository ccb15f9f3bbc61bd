-- How many men of each kind a side has. A line `material` gives a limit for each of the six kinds
-- of each side; a kind that it does not name must be missing, kings included.
use Rattle.std.specs.Prelude.{◌≡◌, ◌≤◌, ◌==◌, ◌++◌, ℕ, zero, suc, Bool, false, List, [], Option}
use Rattle.std.specs.Prelude.{Some, None, count_by}
use Rattle.chess.specs.Public.Placements.{Placement}
use Rattle.chess.specs.Public.Letters.{man_letter}
use Rattle.chess.specs.Public.Fen.{row}
use Rattle.chess.specs.declared.board.man.Man.{Man}
use Rattle.chess.specs.declared.board.man.Side.{Side}
use Rattle.chess.specs.declared.board.man.Side.TheVariants.{White, Black}
use Rattle.chess.specs.declared.board.man.Kind.{Kind}
use Rattle.chess.specs.declared.board.man.Kind.TheVariants.{King, Queen, Rook, Bishop, Knight, Pawn}
use Rattle.pgn_criteria.specs.declared.material.Limit.{Limit}
use Rattle.pgn_criteria.specs.declared.material.Limit.TheVariants.{Exactly, AtLeast, AtMost}
use Rattle.pgn_criteria.specs.declared.material.Limit.TheVariants.{AnyNumber}
use Rattle.pgn_criteria.specs.declared.material.Limits.{Limits}

-- what stands on the squares of the ranks 1 to n, from the a-file to the h-file of each
unfoldable pub squares_to : Placement → ℕ → List (Option Man)
squares_to men zero = []
squares_to men (suc n) = squares_to men n ++ row men (suc n)

-- that man stands on the square: men are distinguished by their letters in FEN
abbrev pub is_man : Man → Option Man → Bool
is_man man None = false
is_man man (Some other) = man_letter man == man_letter other

-- on how many of the 64 squares that man stands
abbrev pub count_of : Placement → Man → ℕ
count_of men man = count_by (is_man man) (squares_to men 8)

-- so many men are allowed: exactly n, n or more, n or fewer, or any number
abbrev pub Allows : Limit → ℕ → Type 0
Allows (Exactly n) count = count ≡ n
Allows (AtLeast n) count = n ≤ count
Allows (AtMost n) count = count ≤ n
Allows AnyNumber count = Unit {0}

-- the limit that is given to a kind
abbrev pub limit_of : Limits → Kind → Limit
limit_of limits King = limits.king
limit_of limits Queen = limits.queen
limit_of limits Rook = limits.rook
limit_of limits Bishop = limits.bishop
limit_of limits Knight = limits.knight
limit_of limits Pawn = limits.pawn

-- of each kind the side has as many men as its limit allows
abbrev pub FitsSide : Placement → Side → Limits → Type 0
FitsSide men side limits = (kind : Kind)
    → Allows (limit_of limits kind) (count_of men (record { side = side; kind = kind }))

-- both sides have as many men of each kind as are allowed
abbrev pub FitsMaterial : Placement → Limits → Limits → Type 0
FitsMaterial men white black = FitsSide men White white × FitsSide men Black black
