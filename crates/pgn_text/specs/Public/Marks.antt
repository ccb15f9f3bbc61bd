-- The pieces of a whole text with their offsets, which are the places that marks name, and where
-- reading may begin again.
use Rattle.std.specs.Prelude.{◌≡◌, ℕ, ◌+◌, ◌<◌, ◌≤◌, ◌==◌, Bool, true, false, List, [], ◌∷◌, ◌++◌}
use Rattle.std.specs.Prelude.{map, length, drop}
use Rattle.pgn_text.specs.Public.Parts.{Part}
use Rattle.pgn_text.specs.Public.Pieces.{Piece, Game, Unreadable, ArePieces}
use Rattle.pgn_text.specs.Public.Blocks.{AreBlocks}

-- what a piece of a text is
pub data PieceKind : Type 0 where
  -- a game, with its parts
  ReadableGame : List Part → PieceKind
  -- bytes that no game begins, to the end of their block
  UnreadableRest : List ℕ → PieceKind
  -- a block over the limit
  TooLongBlock : PieceKind

-- a piece of this kind is a game
abbrev pub is_readable_kind : PieceKind → Bool
is_readable_kind (ReadableGame parts) = true
is_readable_kind (UnreadableRest bytes) = false
is_readable_kind TooLongBlock = false

-- a piece with the offset of its first byte, counted from the start of the file
pub record MarkedPiece : Type 0 where
  pub offset : ℕ
  pub kind : PieceKind

-- the piece is a game
abbrev pub is_readable : MarkedPiece → Bool
is_readable piece = is_readable_kind piece.kind

-- a piece of the block that begins at the offset, with its own offset
abbrev pub marked : ℕ → Piece → MarkedPiece
marked offset (Game at parts) = record { offset = offset + at; kind = ReadableGame parts }
marked offset (Unreadable at bytes) = record { offset = offset + at; kind = UnreadableRest bytes }

-- the pieces of the block that begins at the offset: a block over the limit is one piece, at its
-- first byte. A block is at the start of the file exactly where its offset is 0
pub data AreOfBlock (limit max_depth offset : ℕ) (block : List ℕ) (marks : List MarkedPiece) : Type
    0 where
  over : limit < length block → marks ≡ record { offset = offset; kind = TooLongBlock } ∷ []
      → AreOfBlock limit max_depth offset block marks
  within : length block ≤ limit → (pieces : List Piece)
      → ArePieces max_depth (offset == 0) [] pieces block
      → marks ≡ map (marked offset) pieces → AreOfBlock limit max_depth offset block marks

-- the pieces of blocks in a row, of which the first begins at the offset
abbrev pub AreOfBlocks : ℕ → ℕ → ℕ → List (List ℕ) → List MarkedPiece → Type 0
AreOfBlocks limit max_depth offset [] marks = marks ≡ []
AreOfBlocks limit max_depth offset (block ∷ more) marks =
    (own : List MarkedPiece) × (rest : List MarkedPiece) × (marks ≡ own ++ rest)
    × AreOfBlock limit max_depth offset block own
    × AreOfBlocks limit max_depth (offset + length block) more rest

-- the pieces of a text that begins at the offset: those of its blocks, in order
pub record AreMarkedPieces (limit max_depth offset : ℕ) (text : List ℕ)
    (marks : List MarkedPiece) : Type 0 where
  pub blocks : List (List ℕ)
  pub parted : AreBlocks blocks text
  pub each : AreOfBlocks limit max_depth offset blocks marks

-- a text read again from one of its pieces on has that piece and those after it, with the same
-- offsets
abbrev pub ResumesAt : ℕ → ℕ → Type 0
ResumesAt limit max_depth =
    (whole : List ℕ) (before : List MarkedPiece) (piece : MarkedPiece) (after : List MarkedPiece)
    → AreMarkedPieces limit max_depth 0 whole (before ++ piece ∷ after)
    → AreMarkedPieces limit max_depth piece.offset (drop piece.offset whole) (piece ∷ after)
