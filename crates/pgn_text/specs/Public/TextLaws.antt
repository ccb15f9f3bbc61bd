-- What holds of the pieces of a text: where each may begin, and that an event line parts them.
use Rattle.std.specs.Prelude.{◌≡◌, ℕ, ◌+◌, ◌<◌, ◌≤◌, List, ◌∷◌, ◌++◌, length, IsTrue}
use Rattle.pgn_text.specs.Public.Blocks.{is_event_line}
use Rattle.pgn_text.specs.Public.Marks.{MarkedPiece, AreMarkedPieces}

-- each piece begins within its text, and before it stand no more pieces than bytes
abbrev pub PieceBeginsInItsText : Type 0
PieceBeginsInItsText =
    (limit max_depth offset : ℕ) (text : List ℕ) (before : List MarkedPiece) (piece : MarkedPiece)
    (after : List MarkedPiece)
    → AreMarkedPieces limit max_depth offset text (before ++ piece ∷ after)
    → (offset + length before ≤ piece.offset) × (piece.offset < offset + length text)

-- the pieces before an event line and those from it on are together the pieces of the text
abbrev pub PiecesJoinAtEventLines : Type 0
PiecesJoinAtEventLines =
    (limit max_depth offset : ℕ) (before after : List ℕ) (front back : List MarkedPiece)
    → IsTrue (is_event_line before after)
    → AreMarkedPieces limit max_depth offset before front
    → AreMarkedPieces limit max_depth (offset + length before) after back
    → AreMarkedPieces limit max_depth offset (before ++ after) (front ++ back)

-- and the pieces of the text are those before an event line and those from it on, whatever either
-- of them is
abbrev pub PiecesPartAtEventLines : Type 0
PiecesPartAtEventLines =
    (limit max_depth offset : ℕ) (before after : List ℕ) (pieces : List MarkedPiece)
    → IsTrue (is_event_line before after)
    → AreMarkedPieces limit max_depth offset (before ++ after) pieces
    → (front : List MarkedPiece) × (back : List MarkedPiece) × (pieces ≡ front ++ back)
    × AreMarkedPieces limit max_depth offset before front
    × AreMarkedPieces limit max_depth (offset + length before) after back
