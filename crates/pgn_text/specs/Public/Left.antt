-- What contracts see of the iterator over a block's pieces, and what one call of its `next` does.
use Rattle.std.specs.Prelude.{◌≡◌, ◌≢◌, ◌⊎◌, ℕ, ◌<◌, ◌≤◌, Bool, true, false, List, [], ◌∷◌, length}
use Rattle.std.specs.Prelude.{take, drop, Option, Some, None, Result, Ok, Err}
use Rattle.std.specs.declared.alloc.AllocError.{AllocError}
use Rattle.pgn_text.specs.Public.GameTexts.{ShowsGame}
use Rattle.pgn_text.specs.Public.Pieces.{ArePieces}
use Rattle.pgn_text.specs.Public.Pieces as spec
use Rattle.pgn_text.specs.declared.game.pieces.Piece.{Piece}
use Rattle.pgn_text.specs.declared.game.pieces.Piece.TheVariants.{Game, Unreadable}

-- a block, whether it is at the start of the file, the place from which on its pieces are left, and
-- whether memory ran out
pub record Left : Type 0 where
  pub block : List ℕ
  pub file_start : Bool
  pub at : ℕ
  pub failed : Bool

-- the pieces that are left
abbrev pub ArePiecesLeft : ℕ → Left → List spec.Piece → Type 0
ArePiecesLeft max_depth left pieces =
    ArePieces max_depth left.file_start (take left.at left.block) pieces (drop left.at left.block)

-- the piece given is the one of the definitions: a game with its place, tags, elements and result,
-- or the place of bytes that are none
abbrev pub IsPiece : Piece → spec.Piece → Type 0
IsPiece (Game raw) (spec.Game at parts) = ShowsGame raw at parts
IsPiece (Game raw) (spec.Unreadable at bytes) = ⊥
IsPiece (Unreadable place) (spec.Game at parts) = ⊥
IsPiece (Unreadable place) (spec.Unreadable at bytes) = place ≡ at

-- the place of a piece that is given
abbrev pub piece_place : Piece → ℕ
piece_place (Game raw) = raw.at
piece_place (Unreadable place) = place

-- a call gave the first of the pieces left: whatever pieces are left after it, with it in front
-- they are those that were left before
pub record TakesPiece (max_depth : ℕ) (old new : Left) (piece : Piece) : Type 0 where
  pub shown : spec.Piece
  pub is : IsPiece piece shown
  pub going : old.failed ≡ false
  pub grows : old.at < new.at
  pub starts : piece_place piece < new.at
  pub within : new.at ≤ length new.block
  pub same : (new.block ≡ old.block) × (new.file_start ≡ old.file_start) × (new.failed ≡ false)
  pub completes : (more : List spec.Piece) → ArePiecesLeft max_depth new more
      → ArePiecesLeft max_depth old (shown ∷ more)

-- what a call of `next` did, by its answer. The end comes where no piece is left, and on each call
-- after an error; an error comes only where memory was refused for a piece that is left: it and
-- those after it are not given
abbrev pub GivesPiece : ℕ → Left → Option (Result Piece AllocError) → Left → Type 0
GivesPiece max_depth old None new = ((old.failed ≡ true) ⊎ ArePiecesLeft max_depth old [])
    × (new ≡ old)
GivesPiece max_depth old (Some (Ok piece)) new = TakesPiece max_depth old new piece
GivesPiece max_depth old (Some (Err error)) new =
    (old.failed ≡ false) × (new.failed ≡ true)
    × ((more : List spec.Piece) × (more ≢ []) × ArePiecesLeft max_depth old more)
