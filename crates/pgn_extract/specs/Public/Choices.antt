-- Which pieces are reported: all, or those whose marks are given.
use Rattle.std.specs.Prelude.{◌==◌, ◌&&◌, Bool, true, false, ℕ, List, Option, Some, None}
use Rattle.std.specs.List.{list_any}
use Rattle.pgn_text.specs.Public.Marks.{MarkedPiece}
use Rattle.pgn_extract.specs.declared.marks.GameId.{GameId}
use Rattle.pgn_extract.specs.Public.GivenMarks.{game_id}

-- which piece it is
abbrev pub id_of : ℕ → MarkedPiece → GameId
id_of number piece = game_id number piece.offset

-- the mark is that of the piece
abbrev pub is_mark_of : GameId → GameId → Bool
is_mark_of id mark = (mark.number == id.number) && (mark.offset == id.offset)

-- one of the marks is
abbrev pub is_among : List GameId → GameId → Bool
is_among marks id = list_any (is_mark_of id) marks

-- the piece is chosen: where marks are given, by one of them; and else each piece is
abbrev pub is_chosen : Option (List GameId) → GameId → Bool
is_chosen None id = true
is_chosen (Some marks) id = is_among marks id

-- of a piece that is chosen the one holds, and of one that is passed over the other
abbrev pub IfChosen : Bool → Type 0 → Type 0 → Type 0
IfChosen true chosen passed_over = chosen
IfChosen false chosen passed_over = passed_over
