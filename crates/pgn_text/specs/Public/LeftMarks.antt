-- What one call of `next` of the iterator over the places of a block's pieces does.
use Rattle.std.specs.Prelude.{◌≡◌, ℕ, ◌<◌, ◌≤◌, List, [], ◌∷◌, length, Option, Some, None}
use Rattle.pgn_text.specs.Public.Left.{Left, ArePiecesLeft}
use Rattle.pgn_text.specs.Public.Pieces as spec
use Rattle.pgn_text.specs.declared.game.pieces.PieceStart.{PieceStart}
use Rattle.pgn_text.specs.declared.game.pieces.PieceStart.TheVariants.{Game, Unreadable}

-- the mark gives the place and the kind of the piece
abbrev pub IsMark : PieceStart → spec.Piece → Type 0
IsMark (Game place) (spec.Game at parts) = place ≡ at
IsMark (Game place) (spec.Unreadable at bytes) = ⊥
IsMark (Unreadable place) (spec.Game at parts) = ⊥
IsMark (Unreadable place) (spec.Unreadable at bytes) = place ≡ at

-- the place that a mark gives
abbrev pub mark_place : PieceStart → ℕ
mark_place (Game place) = place
mark_place (Unreadable place) = place

-- a call gave the mark of the first of the pieces left: whatever pieces are left after it, with it
-- in front they are those that were left before
pub record TakesMark (max_depth : ℕ) (old new : Left) (mark : PieceStart) : Type 0 where
  pub shown : spec.Piece
  pub is : IsMark mark shown
  pub grows : old.at < new.at
  pub starts : mark_place mark < new.at
  pub within : new.at ≤ length new.block
  pub same : (new.block ≡ old.block) × (new.file_start ≡ old.file_start) × (new.failed ≡ old.failed)
  pub completes : (more : List spec.Piece) → ArePiecesLeft max_depth new more
      → ArePiecesLeft max_depth old (shown ∷ more)

-- what a call of `next` did, by its answer: the end comes where no piece is left
abbrev pub GivesMark : ℕ → Left → Option PieceStart → Left → Type 0
GivesMark max_depth old None new = ArePiecesLeft max_depth old [] × (new ≡ old)
GivesMark max_depth old (Some mark) new = TakesMark max_depth old new mark
