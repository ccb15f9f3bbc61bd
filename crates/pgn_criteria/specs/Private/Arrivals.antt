-- Where a man arrives by a move, as the text of the move tells it.
use Rattle.std.specs.Prelude.{◌≡◌, ◌≢◌, ◌⊎◌, ◌<◌, ◌++◌, ◌∷◌, ℕ, List, None, IfSome}
use Rattle.chess.specs.Public.Letters.{file_letter, kind_letter, square_text}
use Rattle.chess.specs.Public.Moves.{IsLegal}
use Rattle.chess.specs.Public.Positions.{State}
use Rattle.chess.specs.Public.San.{IsSan}
use Rattle.chess.specs.Public.Squares.{square_at}
use Rattle.chess.specs.declared.board.man.Kind.{Kind}
use Rattle.chess.specs.declared.board.man.Kind.TheVariants.{Pawn}
use Rattle.chess.specs.declared.moves.Move.{Move}
use Rattle.pgn_game.specs.Public.PlyCodes.{PlyCode, IsCode}
use Rattle.pgn_criteria.specs.Public.MoveTexts.{IsLike, without_check_signs}
use Rattle.pgn_criteria.specs.declared.by_record.Arrival.{Arrival}
use Rattle.pgn_criteria.specs.declared.by_record.Sought.{Sought}
use Rattle.pgn_criteria.specs.declared.by_record.Sought.TheVariants.{Arrival as Arrives, Castling}

-- the square has the number, and the word ends with its text
abbrev pub EndsWithSquare : List ℕ → ℕ → Type 0
EndsWithSquare word square =
    (square < 64) × ((front : List ℕ) × (word ≡ front ++ square_text (square_at square)))

-- the word begins with the byte, which is no star
abbrev pub IsFirstByte : List ℕ → ℕ → Type 0
IsFirstByte word b = (b ≢ 42) × ((rest : List ℕ) × (word ≡ b ∷ rest))

-- the text of a move with that code, of a man of that kind, may begin with the byte: the letter of
-- a piece, or for a pawn one of a file. It does not castle
abbrev pub BeginsBy : PlyCode → Kind → ℕ → Type 0
BeginsBy code Pawn b = (b ≡ file_letter code.from.file) ⊎ (b ≡ file_letter code.to.file)
BeginsBy code kind b = b ≡ kind_letter kind

-- he arrives by the ply with that code
abbrev pub IsArrival : Arrival → PlyCode → Type 0
IsArrival asked code = (code.to ≡ square_at asked.square)
    × IfSome asked.first (BeginsBy code code.man.kind)

-- the ply with that code is such
abbrev pub IsSuchPly : Sought → PlyCode → Type 0
IsSuchPly (Arrives asked) code = IsArrival asked code
IsSuchPly Castling code = code.castle ≡ None → ⊥

-- each move whose text is like the word is such
abbrev pub Tells : List ℕ → Sought → Type 0
Tells word sought =
    (P : State) (m : Move) (code : PlyCode) (text : List ℕ) → IsLegal P m → IsCode P m code
    → IsSan P m text → IsLike word (without_check_signs text) → IsSuchPly sought code
