-- The letters and digits of men, files, ranks and squares, in move texts and in FEN (PGN 8.2.3.1,
-- 8.2.3.2, 16.1.3.1).
use Rattle.std.specs.Prelude.{ℕ, ◌+◌, Bool, ◌||◌, ◌==◌, List, [], ◌∷◌}
use Rattle.chess.specs.Public.Squares.{Place}
use Rattle.chess.specs.declared.board.man.Man.{Man}
use Rattle.chess.specs.declared.board.man.Side.TheVariants.{White, Black}
use Rattle.chess.specs.declared.board.man.Kind.{Kind}
use Rattle.chess.specs.declared.board.man.Kind.TheVariants.{King, Queen, Rook, Bishop, Knight, Pawn}

-- K Q R B N P
abbrev pub kind_letter : Kind → ℕ
kind_letter King = 75
kind_letter Queen = 81
kind_letter Rook = 82
kind_letter Bishop = 66
kind_letter Knight = 78
kind_letter Pawn = 80

-- White's men in upper case, Black's in lower case
abbrev pub man_letter : Man → ℕ
man_letter man = elim man.side [ White ↦ kind_letter man.kind | Black ↦ kind_letter man.kind + 32 ]

-- a to h for the files 1 to 8, and 1 to 8 for the ranks
abbrev pub file_letter : ℕ → ℕ
file_letter file = 96 + file

abbrev pub rank_digit : ℕ → ℕ
rank_digit rank = 48 + rank

-- a square's file and rank
abbrev pub square_text : Place → List ℕ
square_text s = file_letter s.file ∷ rank_digit s.rank ∷ []

-- a sign that may stand before the target: x : -
abbrev pub is_sign : ℕ → Bool
is_sign b = b == 120 || b == 58 || b == 45

-- a sign of check or mate: + #
abbrev pub is_check_sign : ℕ → Bool
is_check_sign b = b == 43 || b == 35
