-- What holds of every text, whatever reads it: it has one reading, each game in it is shown by one
-- game text, a reading can begin again at any of its pieces and end before any, and larger limits
-- change nothing where all was readable.
use Rattle.std.specs.Prelude.{◌≡◌, ℕ, ◌-◌, ◌≤◌, Bool, List, [], ◌∷◌, ◌++◌, take, IsTrue}
use Rattle.std.specs.List.{list_all}
use Rattle.pgn_text.specs.Public.Parts.{Part, spelled}
use Rattle.pgn_text.specs.Public.Games.{IsGame}
use Rattle.pgn_text.specs.Public.Pieces.{Piece, ArePieces}
use Rattle.pgn_text.specs.Public.Blocks.{AreBlocks}
use Rattle.pgn_text.specs.Public.GameTexts.{GameText, IsGameText, ShowsGame}
use Rattle.pgn_text.specs.Public.Marks.{MarkedPiece, is_readable, AreOfBlock, AreMarkedPieces}
use Rattle.pgn_text.specs.Public.Marks.{ResumesAt}

-- at any place of a block at most one game begins: its parts and what is left after it are settled
abbrev pub AtMostOneGame : Type 0
AtMostOneGame =
    (max_depth : ℕ) (file_start : Bool) (before text : List ℕ) (parts others : List Part)
    (after rest : List ℕ)
    → text ≡ spelled parts ++ after → IsGame max_depth file_start before parts after
    → text ≡ spelled others ++ rest → IsGame max_depth file_start before others rest
    → (parts ≡ others) × (after ≡ rest)

-- the parts of each game make a game text at each place
abbrev pub GameHasAGameText : Type 0
GameHasAGameText =
    (max_depth : ℕ) (file_start : Bool) (before : List ℕ) (parts : List Part) (after : List ℕ)
    (at : ℕ)
    → IsGame max_depth file_start before parts after
    → (game : GameText) × IsGameText game × ShowsGame game at parts

-- and only one: two game texts of the same parts differ at most in their places
abbrev pub GameTextIsOne : Type 0
GameTextIsOne =
    (parts : List Part) (game other : GameText) → IsGameText game → IsGameText other
    → ShowsGame game game.at parts → ShowsGame other other.at parts
    → (game.tags ≡ other.tags) × (game.elements ≡ other.elements) × (game.result ≡ other.result)
    × (game.text ≡ other.text)

-- each text is parted into blocks in one way
abbrev pub TextHasOneParting : Type 0
TextHasOneParting =
    (text : List ℕ)
    → (blocks : List (List ℕ)) × AreBlocks blocks text
    × ((others : List (List ℕ)) → AreBlocks others text → others ≡ blocks)

-- each block has one list of pieces
abbrev pub BlockHasOneList : Type 0
BlockHasOneList =
    (max_depth : ℕ) (file_start : Bool) (block : List ℕ)
    → (pieces : List Piece) × ArePieces max_depth file_start [] pieces block
    × ((others : List Piece) → ArePieces max_depth file_start [] others block → others ≡ pieces)

-- each text that begins at an offset has one list of pieces with their offsets
abbrev pub TextHasOneList : Type 0
TextHasOneList =
    (limit max_depth offset : ℕ) (text : List ℕ)
    → (pieces : List MarkedPiece) × AreMarkedPieces limit max_depth offset text pieces
    × ((others : List MarkedPiece) → AreMarkedPieces limit max_depth offset text others
    → others ≡ pieces)

-- a reading can begin again at any piece of a text
abbrev pub ResumesAnywhere : Type 0
ResumesAnywhere = (limit max_depth : ℕ) → ResumesAt limit max_depth

-- the text in front of a piece has exactly the pieces before that one, as if no more bytes
-- followed; the text begins at any offset
abbrev pub FrontHasThePiecesBefore : Type 0
FrontHasThePiecesBefore =
    (limit max_depth offset : ℕ) (text : List ℕ) (before : List MarkedPiece) (piece : MarkedPiece)
    (after : List MarkedPiece)
    → AreMarkedPieces limit max_depth offset text (before ++ piece ∷ after)
    → AreMarkedPieces limit max_depth offset (take (piece.offset - offset) text) before

-- a block whose pieces are all games under some limits has the same pieces under larger ones
abbrev pub BlockKeepsPieces : Type 0
BlockKeepsPieces =
    (limit larger_limit max_depth larger_depth offset : ℕ) (block : List ℕ)
    (pieces : List MarkedPiece)
    → limit ≤ larger_limit → max_depth ≤ larger_depth → IsTrue (list_all is_readable pieces)
    → AreOfBlock limit max_depth offset block pieces
    → AreOfBlock larger_limit larger_depth offset block pieces

-- and so has a text
abbrev pub TextKeepsPieces : Type 0
TextKeepsPieces =
    (limit larger_limit max_depth larger_depth offset : ℕ) (text : List ℕ)
    (pieces : List MarkedPiece)
    → limit ≤ larger_limit → max_depth ≤ larger_depth → IsTrue (list_all is_readable pieces)
    → AreMarkedPieces limit max_depth offset text pieces
    → AreMarkedPieces larger_limit larger_depth offset text pieces
