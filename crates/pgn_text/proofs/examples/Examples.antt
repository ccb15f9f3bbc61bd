-- What the definitions refuse: of the complete blocks of a text, and of what one call of an
-- iterator over a block gives.
use Rattle.std.proofs.Common.{Some}
use Rattle.std.proofs.lemmas.List.{length-append}
use Rattle.pgn_text.proofs.Common.{◌≡◌, ◌≢◌, ◌≤◌, ◌<◌, ◌∙◌, ℕ, true, false, List, [], ◌∷◌, ◌++◌}
use Rattle.pgn_text.proofs.Common.{length, None, Err, inl, inr, ap, refl, sym, arith, event_line}
use Rattle.pgn_text.proofs.Common.{AllocError, GameText, Left, ArePiecesLeft, GivesPiece, IsPiece}
use Rattle.pgn_text.proofs.Common.{GivesMark, IsMark, AreOfBlocks, MarkedPiece, PieceStart}
use Rattle.pgn_text.specs.Public.Complete.{AreCompleteBlocks, AreCompletePieces}
use Rattle.pgn_text.specs.Public.Left.{TakesPiece, piece_place}
use Rattle.pgn_text.specs.Public.LeftMarks.{TakesMark}
use Rattle.pgn_text.specs.declared.game.pieces.Piece.{Piece}
use Rattle.pgn_text.specs.declared.game.pieces.Piece.TheVariants.{Unreadable}
use Rattle.pgn_text.specs.Public.Pieces as spec
use Rattle.pgn_text.specs.declared.game.pieces.Piece.TheVariants as pieces
use Rattle.pgn_text.specs.declared.game.pieces.PieceStart.TheVariants as starts

-- a text with two event lines has a complete block
no_block_left_out : AreCompleteBlocks [] (event_line ++ 10 ∷ event_line) → ⊥
no_block_left_out are =
    are.parted.1.whole (event_line ++ 10 ∷ []) event_line (sym are.parted.0) (λ e. cc) (λ e.
    cc) refl

-- and the last block is not complete
no_last_block : (text : List ℕ) → AreCompleteBlocks (text ∷ []) text → ⊥
no_last_block text are = of_rest are.parted.0 are.parted.1 are.parted.2
  where
    of_rest : (rest : List ℕ) → text ≡ text ++ rest → rest ≢ [] → ⊥
    of_rest [] is some = some refl
    of_rest (byte ∷ rest) is some =
        let long : length text ≡ length (text ++ byte ∷ rest) = ap length is in
        omega (arith, long, length-append text (byte ∷ rest))

-- the pieces are those of the complete blocks
no_piece_of_another_block : (limit depth offset : ℕ) (text : List ℕ) (marks : List MarkedPiece)
    → ((blocks : List (List ℕ)) → AreOfBlocks limit depth offset blocks marks → ⊥)
    → AreCompletePieces limit depth offset text marks → ⊥
no_piece_of_another_block limit depth offset text marks none are = none are.blocks are.each

-- bytes that are no game are not given as a game
no_game_of_other_bytes : (raw : GameText) (at : ℕ) (bytes : List ℕ)
    → IsPiece (pieces.Game raw) (spec.Unreadable at bytes) → ⊥
no_game_of_other_bytes raw at bytes is = is

no_mark_of_other_bytes : (place at : ℕ) (bytes : List ℕ)
    → IsMark (starts.Game place) (spec.Unreadable at bytes) → ⊥
no_mark_of_other_bytes place at bytes is = is

place_of_a_game : (raw : GameText) → raw.at ≡ 3 → piece_place (pieces.Game raw) ≡ 3
place_of_a_game raw third = third

-- a piece that is given is the first of those that are left, in the same block, and the place
-- grows within it
no_other_piece : (depth : ℕ) (old new : Left) (piece : Piece)
    → ((shown : spec.Piece) → IsPiece piece shown → ⊥) → TakesPiece depth old new piece → ⊥
no_other_piece depth old new piece none takes = none takes.shown takes.is

no_piece_after_an_error : (depth : ℕ) (old new : Left) (piece : Piece) → old.failed ≡ true
    → TakesPiece depth old new piece → ⊥
no_piece_after_an_error depth old new piece failed takes = let both = sym failed ∙ takes.going in cc

no_step_back : (depth : ℕ) (old new : Left) (piece : Piece) → new.at ≤ old.at
    → TakesPiece depth old new piece → ⊥
no_step_back depth old new piece back takes = omega (arith, back, takes.grows)

no_step_past_the_block : (depth : ℕ) (old new : Left) (piece : Piece) → length new.block < new.at
    → TakesPiece depth old new piece → ⊥
no_step_past_the_block depth old new piece past takes = omega (arith, past, takes.within)

no_other_block : (depth : ℕ) (old new : Left) (piece : Piece) → new.block ≢ old.block
    → TakesPiece depth old new piece → ⊥
no_other_block depth old new piece other takes = other takes.same.0

no_other_start : (depth : ℕ) (old new : Left) (piece : Piece) → new.file_start ≢ old.file_start
    → TakesPiece depth old new piece → ⊥
no_other_start depth old new piece other takes = other takes.same.1

no_piece_with_an_error : (depth : ℕ) (old new : Left) (piece : Piece) → new.failed ≡ true
    → TakesPiece depth old new piece → ⊥
no_piece_with_an_error depth old new piece failed takes = let both = sym failed ∙ takes.same.2 in cc

no_piece_left_out : (depth : ℕ) (old new : Left) (piece : Piece) (more : List spec.Piece)
    → ArePiecesLeft depth new more
    → ((shown : spec.Piece) → ArePiecesLeft depth old (shown ∷ more) → ⊥)
    → TakesPiece depth old new piece → ⊥
no_piece_left_out depth old new piece more left none takes =
    none takes.shown (takes.completes more left)

-- the end comes where no piece is left, or after an error; and it stays
no_end_before_a_piece : (depth : ℕ) (old new : Left) → old.failed ≡ false
    → (ArePiecesLeft depth old [] → ⊥) → GivesPiece depth old None new → ⊥
no_end_before_a_piece depth old new sound some gives =
    elim gives.0 [ inl failed ↦ let both = sym sound ∙ failed in cc | inr none ↦ some none ]

no_step_at_the_last : (depth : ℕ) (old new : Left) → new ≢ old → GivesPiece depth old None new → ⊥
no_step_at_the_last depth old new other gives = other gives.1

-- an error comes once, for a piece that is left
no_second_error : (depth : ℕ) (old new : Left) (error : AllocError) → old.failed ≡ true
    → GivesPiece depth old (Some (Err error)) new → ⊥
no_second_error depth old new error failed gives = let both = sym failed ∙ gives.0 in cc

no_error_forgotten : (depth : ℕ) (old new : Left) (error : AllocError) → new.failed ≡ false
    → GivesPiece depth old (Some (Err error)) new → ⊥
no_error_forgotten depth old new error sound gives = let both = sym sound ∙ gives.1 in cc

no_error_without_a_piece : (depth : ℕ) (old new : Left) (error : AllocError)
    → ((piece : spec.Piece) (more : List spec.Piece) → ArePiecesLeft depth old (piece ∷ more) → ⊥)
    → GivesPiece depth old (Some (Err error)) new → ⊥
no_error_without_a_piece depth old new error none gives =
    of_pieces gives.2.0 gives.2.1 gives.2.2
  where
    of_pieces : (pieces : List spec.Piece) → pieces ≢ [] → ArePiecesLeft depth old pieces → ⊥
    of_pieces [] some left = some refl
    of_pieces (piece ∷ more) some left = none piece more left

-- so it is with the marks of pieces
no_other_mark : (depth : ℕ) (old new : Left) (mark : PieceStart)
    → ((shown : spec.Piece) → IsMark mark shown → ⊥) → TakesMark depth old new mark → ⊥
no_other_mark depth old new mark none takes = none takes.shown takes.is

no_mark_before_the_last : (depth : ℕ) (old new : Left) (mark : PieceStart) → new.at ≤ old.at
    → TakesMark depth old new mark → ⊥
no_mark_before_the_last depth old new mark back takes = omega (arith, back, takes.grows)

no_mark_past_the_block : (depth : ℕ) (old new : Left) (mark : PieceStart)
    → length new.block < new.at → TakesMark depth old new mark → ⊥
no_mark_past_the_block depth old new mark past takes = omega (arith, past, takes.within)

no_mark_of_another_block : (depth : ℕ) (old new : Left) (mark : PieceStart)
    → new.block ≢ old.block → TakesMark depth old new mark → ⊥
no_mark_of_another_block depth old new mark other takes = other takes.same.0

no_mark_that_fails : (depth : ℕ) (old new : Left) (mark : PieceStart) → new.failed ≢ old.failed
    → TakesMark depth old new mark → ⊥
no_mark_that_fails depth old new mark other takes = other takes.same.2

no_mark_left_out : (depth : ℕ) (old new : Left) (mark : PieceStart) (more : List spec.Piece)
    → ArePiecesLeft depth new more
    → ((shown : spec.Piece) → ArePiecesLeft depth old (shown ∷ more) → ⊥)
    → TakesMark depth old new mark → ⊥
no_mark_left_out depth old new mark more left none takes =
    none takes.shown (takes.completes more left)

no_end_before_a_mark : (depth : ℕ) (old new : Left) → (ArePiecesLeft depth old [] → ⊥)
    → GivesMark depth old None new → ⊥
no_end_before_a_mark depth old new some gives = some gives.0

-- a piece that is given begins before the place that is reached
no_piece_ahead : (max_depth place : ℕ) (old new : Left) → new.at ≤ place
    → TakesPiece max_depth old new (Unreadable place) → ⊥
no_piece_ahead max_depth place old new ahead takes = absurd (omega (arith, ahead, takes.starts))

no_mark_ahead : (max_depth place : ℕ) (old new : Left) → new.at ≤ place
    → TakesMark max_depth old new (starts.Unreadable place) → ⊥
no_mark_ahead max_depth place old new ahead takes = absurd (omega (arith, ahead, takes.starts))
