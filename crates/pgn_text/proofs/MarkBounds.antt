-- Where the pieces of a text begin.
use Rattle.std.proofs.Common.{◌≡◌, ◌≢◌, ℕ, ◌+◌, ◌<◌, ◌≤◌, ◌==◌, Bool, List, [], ◌∷◌, ◌++◌, length}
use Rattle.std.proofs.Common.{refl, sym, ap, ◌∙◌, inl, inr, arith, append-nil, length-append}
use Rattle.std.proofs.lemmas.List.{length-map}
use Rattle.pgn_text.proofs.Common.{spelled, Piece, Game, Unreadable, ArePieces, AreBlocks}
use Rattle.pgn_text.proofs.Common.{TooLongBlock, MarkedPiece, marked, AreOfBlock, over, within}
use Rattle.pgn_text.proofs.Common.{AreOfBlocks}
use Rattle.pgn_text.specs.Public.TextLaws.{PieceBeginsInItsText}
use Rattle.pgn_text.proofs.laws.Lines.{cut_append, cut_single}
use Rattle.pgn_text.proofs.OneList.{game_has_byte}
use Rattle.pgn_text.proofs.ResumedText.{not_nil, map_cut, place_of_piece, offset_of_marked}

-- a list that is not empty has an element
some_length : {X : Type 0} (xs : List X) → xs ≢ [] → 0 < length xs
some_length [] some = absurd (some refl)
some_length (x ∷ xs) some = omega arith

-- a block has no more pieces than bytes
few_pieces : (max_depth : ℕ) (file_start : Bool) (before : List ℕ) (pieces : List Piece)
    (text : List ℕ)
    → ArePieces max_depth file_start before pieces text → length pieces ≤ length text
few_pieces max_depth file_start before [] text h = omega arith
few_pieces max_depth file_start before (Game at parts ∷ more) text h =
    let rest =
    few_pieces max_depth file_start ((before ++ spelled h.0) ++ spelled parts) more h.1 h.6 in
    let some : 0 < length (spelled parts) =
    some_length (spelled parts)
    (game_has_byte max_depth file_start (before ++ spelled h.0) parts h.1 h.5) in
    omega (
      arith,
      ap length h.2,
      length-append (spelled h.0) (spelled parts ++ h.1),
      length-append (spelled parts) h.1,
    )
few_pieces max_depth file_start before (Unreadable at bytes ∷ more) text h =
    let some : 0 < length bytes = some_length bytes h.4 in
    omega (arith, ap length h.1, length-append (spelled h.0) bytes, ap length h.6)

few_of_block : (limit max_depth offset : ℕ) (block : List ℕ) (marks : List MarkedPiece)
    → AreOfBlock limit max_depth offset block marks → length marks ≤ length block
few_of_block limit max_depth offset block marks (over l e) = omega (arith, ap length e)
few_of_block limit max_depth offset block marks (within l pieces h e) =
    omega (
      arith,
      ap length e,
      length-map pieces (marked offset),
      few_pieces max_depth (offset == 0) [] pieces block h,
    )

-- a piece of a block begins within it, and before it stand no more pieces than bytes
piece_place : (max_depth : ℕ) (file_start : Bool) (before : List ℕ) (earlier : List Piece)
    (piece : Piece) (later : List Piece)
    (text : List ℕ)
    → ArePieces max_depth file_start before (earlier ++ piece ∷ later) text
    → (length before + length earlier ≤ place_of_piece piece)
    × (place_of_piece piece < length before + length text)
piece_place max_depth file_start before [] (Game at parts) later text h =
    let some : 0 < length (spelled parts) =
    some_length (spelled parts)
    (game_has_byte max_depth file_start (before ++ spelled h.0) parts h.1 h.5) in
    let own = h.4 ∙ length-append before (spelled h.0) in
    let all = ap length h.2 ∙ length-append (spelled h.0) (spelled parts ++ h.1) in
    (omega arith, omega (arith, length-append (spelled parts) h.1))
piece_place max_depth file_start before [] (Unreadable at bytes) later text h =
    let some : 0 < length bytes = some_length bytes h.4 in
    let own = h.3 ∙ length-append before (spelled h.0) in
    let all = ap length h.1 ∙ length-append (spelled h.0) bytes in
    (omega arith, omega arith)
piece_place max_depth file_start before (Game at parts ∷ earlier) piece later text h =
    let after = (before ++ spelled h.0) ++ spelled parts in
    let r = piece_place max_depth file_start after earlier piece later h.1 h.6 in
    let some : 0 < length (spelled parts) =
    some_length (spelled parts)
    (game_has_byte max_depth file_start (before ++ spelled h.0) parts h.1 h.5) in
    let lengths = length-append (before ++ spelled h.0) (spelled parts) in
    let first = length-append before (spelled h.0) in
    let all = ap length h.2 ∙ length-append (spelled h.0) (spelled parts ++ h.1) in
    (omega arith, omega (arith, length-append (spelled parts) h.1))
piece_place max_depth file_start before (Unreadable at bytes ∷ earlier) piece later text h =
    absurd (not_nil earlier piece later h.6)

block_bounds : (limit max_depth offset : ℕ) (block : List ℕ) (earlier : List MarkedPiece)
    (piece : MarkedPiece) (later : List MarkedPiece)
    → AreOfBlock limit max_depth offset block (earlier ++ piece ∷ later)
    → (offset + length earlier ≤ piece.offset) × (piece.offset < offset + length block)
block_bounds limit max_depth offset block earlier piece later (over l e) =
    elim (cut_single (record { offset = offset; kind = TooLongBlock }) earlier (piece
    ∷ later) (sym e)) [
      | inl t ↦
          let only : piece ∷ later ≡ record { offset = offset; kind = TooLongBlock } ∷ [] = t.1 in
          let one : piece ≡ record { offset = offset; kind = TooLongBlock } = cc in
          let here : piece.offset ≡ offset = ap (λ (m : MarkedPiece). m.offset) one in
          (omega (arith, ap length t.0), omega arith)
      | inr t ↦ let none : piece ∷ later ≡ [] = t.1 in cc
    ]
block_bounds limit max_depth offset block earlier piece later (within l pieces h e) =
    let cut = map_cut (marked offset) pieces earlier piece later (sym e) in
    let r = piece_place max_depth (offset == 0) [] cut.0 cut.1 cut.2 block (rw cut.3 at h) in
    let place : piece.offset ≡ offset + place_of_piece cut.1 =
    ap (λ (m : MarkedPiece). m.offset) (sym cut.5) ∙ offset_of_marked offset cut.1 in
    let count : length earlier ≡ length cut.0 =
    ap length (sym cut.4) ∙ length-map cut.0 (marked offset) in
    (omega arith, omega arith)

-- what is to be shown of blocks in a row
abbrev Bounds : ℕ → List ℕ → List MarkedPiece → MarkedPiece → Type 0
Bounds offset text before piece = (offset + length before ≤ piece.offset)
    × (piece.offset < offset + length text)

blocks_bounds : (limit max_depth offset : ℕ) (blocks : List (List ℕ)) (text : List ℕ)
    (before : List MarkedPiece)
    (piece : MarkedPiece) (after : List MarkedPiece)
    → AreBlocks blocks text → AreOfBlocks limit max_depth offset blocks (before ++ piece ∷ after)
    → Bounds offset text before piece
blocks_bounds limit max_depth offset [] text before piece after parted h = absurd parted
blocks_bounds limit max_depth offset (block ∷ []) text before piece after parted h =
    let all : before ++ piece ∷ after ≡ h.0 = h.2 ∙ ap (λ t. h.0 ++ t) h.4 ∙ append-nil h.0 in
    let r = block_bounds limit max_depth offset block before piece after (rw (← all) at h.3) in
    (r.0, omega (arith, r.1, ap length parted.0))
blocks_bounds limit max_depth offset (block ∷ next ∷ more) text before piece after parted h =
    let again : (there : List MarkedPiece)
    → AreOfBlocks limit max_depth (offset + length block) (next ∷ more) (there ++ piece ∷ after)
    → Bounds (offset + length block) parted.0 there piece =
    λ there marks. blocks_bounds limit max_depth (offset + length block) (next
    ∷ more) parted.0 there piece after parted.4 marks in
    elim (cut_append h.0 h.1 before (piece ∷ after) (sym h.2)) [
      | inl t ↦ inside again t.0 t.1 t.2
      | inr t ↦ later again t.0 h.0 t.1 t.2 h.3
    ]
  where
    size : length text ≡ length block + length parted.0
    size = ap length parted.1 ∙ length-append block parted.0

    later : ((there : List MarkedPiece)
        → AreOfBlocks limit max_depth (offset + length block) (next ∷ more) (there ++ piece ∷ after)
        → Bounds (offset + length block) parted.0 there piece)
        → (there own : List MarkedPiece) → before ≡ own ++ there → h.1 ≡ there ++ piece ∷ after
        → AreOfBlock limit max_depth offset block own → Bounds offset text before piece
    later again there own e f is =
        let r = again there (rw f at h.4) in
        let few = few_of_block limit max_depth offset block own is in
        let count = ap length e ∙ length-append own there in
        (omega (arith, r.0), omega (arith, r.1, size))

    inside : ((there : List MarkedPiece)
        → AreOfBlocks limit max_depth (offset + length block) (next ∷ more) (there ++ piece ∷ after)
        → Bounds (offset + length block) parted.0 there piece)
        → (m : List MarkedPiece) → h.0 ≡ before ++ m → piece ∷ after ≡ m ++ h.1
        → Bounds offset text before piece
    inside again [] e f =
        later again [] before (sym (append-nil before)) (sym f) (rw (e, append-nil) at h.3)
    inside again (first ∷ m) e f =
        let same : first ≡ piece = cc in
        let r = block_bounds limit max_depth offset block before piece m (rw (e, same) at h.3) in
        (r.0, omega (arith, r.1, size))

pub mark_bounds : PieceBeginsInItsText
mark_bounds limit max_depth offset text before piece after h =
    blocks_bounds limit max_depth offset h.blocks text before piece after h.parted h.each
