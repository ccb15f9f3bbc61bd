-- Marks, the index of a text, and the lines that report faulty games.
use Rattle.std.specs.Prelude.{ℕ, ◌+◌, List, [], ◌∷◌, ◌++◌, Option, Some, None, map, codes, chars}
use Rattle.std.specs.Prelude.{encode_utf8_all, decimal, nat_lt, ◌&&◌, ◌||◌, if◌then◌else◌}
use Rattle.pgn_text.specs.Public.Marks.{ReadableGame, UnreadableRest, TooLongBlock, MarkedPiece}
use Rattle.pgn_extract.specs.Public.Choices.{id_of, is_chosen}
use Rattle.pgn_extract.specs.declared.marks.GameId.{GameId}

-- a mark, `N@O`: the number of a piece and the offset of its first byte, both in decimal
abbrev pub mark : GameId → List ℕ
mark id = decimal id.number ++ 64 ∷ decimal id.offset

-- a character of the name of a file, as lines show it: a question mark for a control character
abbrev pub shown_char : ℕ → ℕ
shown_char c = if nat_lt c 32 || (nat_lt 126 c && nat_lt c 160) then 63 else c

-- the name of a file, as lines show it
abbrev pub shown_name : List ℕ → List ℕ
shown_name path = encode_utf8_all (map shown_char (chars path))

-- the name of a file and what parts it from the text after it, and nothing where lines have no name
abbrev pub titled : List ℕ → Option (List ℕ) → List ℕ
titled gap None = []
titled gap (Some name) = name ++ gap

-- what reports a faulty game on a line of its own: the name of its file where lines have one, its
-- mark and the cause
abbrev pub fault_text : Option (List ℕ) → GameId → List ℕ → List ℕ
fault_text name id cause =
    codes "pgn-extract: " ++ titled (codes ": ") name ++ codes "game " ++ mark id ++ codes ": "
    ++ cause ++ 10 ∷ []

-- the line of a game in the index: its mark, after the name of its file where lines have one
abbrev pub mark_line : Option (List ℕ) → GameId → List ℕ
mark_line name id = (titled (codes ":") name ++ mark id) ++ 10 ∷ []

-- the line of the index for a piece: only a readable game has one
abbrev pub index_line : Option (List ℕ) → ℕ → MarkedPiece → List ℕ
index_line name number piece = elim piece.kind [
  | ReadableGame parts ↦ mark_line name (id_of number piece)
  | UnreadableRest bytes ↦ []
  | TooLongBlock ↦ []
]

-- the index of pieces that are numbered from a number on: the lines of those that are chosen
abbrev pub index : Option (List GameId) → Option (List ℕ) → ℕ → List MarkedPiece → List ℕ
index chosen name number [] = []
index chosen name number (piece ∷ more) =
    (if is_chosen chosen (id_of number piece) then index_line name number piece else [])
    ++ index chosen name (number + 1) more
