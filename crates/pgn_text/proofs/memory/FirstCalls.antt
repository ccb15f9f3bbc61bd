-- What the first calls over a block give.
use Rattle.std.proofs.Common.{Some}
use Rattle.std.specs.Prelude.{MatchOption}
use Rattle.pgn_text.proofs.Common.{◌≡◌, ℕ, Bool, false, List, [], ◌∷◌, None, Ok, take, drop, refl}
use Rattle.pgn_text.proofs.Common.{subst, Option, Left, ArePiecesLeft, IsPiece, GivesPiece, IsMark}
use Rattle.pgn_text.proofs.Common.{GivesMark, ArePieces, PieceStart}
use Rattle.pgn_text.specs.declared.game.pieces.Piece.{Piece}
use Rattle.pgn_text.proofs.Existence.{pieces_exist}
use Rattle.pgn_text.specs.Public.Pieces as spec

-- the pieces of a block before the first call
abbrev pub all_left : List ℕ → Bool → Left
all_left block f = record { block = block; file_start = f; at = 0; failed = false }

-- a piece that the first call gives is the first of the block
pub first_piece_of : (max_depth : ℕ) (block : List ℕ) (f : Bool) (old new : Left) (piece : Piece)
    → old ≡ all_left block f → GivesPiece max_depth old (Some (Ok piece)) new
    → (pieces : List spec.Piece) × ArePieces max_depth f [] pieces block
    × ((shown : spec.Piece) × (more : List spec.Piece) × (pieces ≡ shown ∷ more)
    × IsPiece piece shown)
first_piece_of max_depth block f old new piece fresh gives =
    let more = pieces_exist max_depth new.file_start (take new.at new.block) (drop new.at new.block)
    in (
      gives.shown ∷ more.0,
      subst (λ left. ArePiecesLeft max_depth left (gives.shown ∷ more.0)) fresh
          (gives.completes more.0 more.1),
      (gives.shown, more.0, refl, gives.is),
    )

-- and so is a mark
pub first_mark_of : (max_depth : ℕ) (block : List ℕ) (f : Bool) (old new : Left)
    (answer : Option PieceStart)
    → old ≡ all_left block f → GivesMark max_depth old answer new
    → (pieces : List spec.Piece) × ArePieces max_depth f [] pieces block
    × MatchOption answer (pieces ≡ []) (λ mark. (shown : spec.Piece) × (more : List spec.Piece)
    × (pieces ≡ shown ∷ more) × IsMark mark shown)
first_mark_of max_depth block f old new None fresh gives =
    ([], subst (λ left. ArePiecesLeft max_depth left []) fresh gives.0, refl)
first_mark_of max_depth block f old new (Some mark) fresh gives =
    let more = pieces_exist max_depth new.file_start (take new.at new.block) (drop new.at new.block)
    in (
      gives.shown ∷ more.0,
      subst (λ left. ArePiecesLeft max_depth left (gives.shown ∷ more.0)) fresh
          (gives.completes more.0 more.1),
      (gives.shown, more.0, refl, gives.is),
    )
