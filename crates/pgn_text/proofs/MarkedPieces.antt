-- Each text has a list of pieces with their offsets, and only one.
use Rattle.std.proofs.Common.{◌==◌}
use Rattle.pgn_text.proofs.Common.{◌≡◌, ℕ, ◌+◌, List, [], ◌∷◌, ◌++◌, map, length, refl, sym, ap}
use Rattle.pgn_text.proofs.Common.{ap₂, ◌∙◌, inl, inr, arith, cases_lt, TooLongBlock, MarkedPiece}
use Rattle.pgn_text.proofs.Common.{marked, AreOfBlock, over, within, AreOfBlocks, AreMarkedPieces}
use Rattle.pgn_text.proofs.OneList.{one_list}
use Rattle.pgn_text.proofs.OneBlocks.{one_blocks, blocks_exist}
use Rattle.pgn_text.proofs.Existence.{pieces_exist}

-- ---- one list

pub one_of_block : (limit max_depth offset : ℕ) (block : List ℕ) (xs ys : List MarkedPiece)
    → AreOfBlock limit max_depth offset block xs → AreOfBlock limit max_depth offset block ys
    → xs ≡ ys
one_of_block limit max_depth offset block xs ys (over l e) (over m f) = e ∙ sym f
one_of_block limit max_depth offset block xs ys (over l e) (within m pieces h f) =
    absurd (omega arith)
one_of_block limit max_depth offset block xs ys (within m pieces h f) (over l e) =
    absurd (omega arith)
one_of_block limit max_depth offset block xs ys (within l pieces h e) (within m others k f) =
    e ∙ ap (map (marked offset)) (one_list max_depth (offset == 0) [] pieces others block h k)
    ∙ sym f

pub one_of_blocks : (limit max_depth offset : ℕ) (blocks : List (List ℕ)) (xs ys : List MarkedPiece)
    → AreOfBlocks limit max_depth offset blocks xs → AreOfBlocks limit max_depth offset blocks ys
    → xs ≡ ys
one_of_blocks limit max_depth offset [] xs ys h k = h ∙ sym k
one_of_blocks limit max_depth offset (block ∷ more) xs ys h k =
    h.2 ∙ ap₂ (λ (own rest : List MarkedPiece). own
    ++ rest) (one_of_block limit max_depth offset block h.0 k.0 h.3 k.3)
    (one_of_blocks limit max_depth (offset + length block) more h.1 k.1 h.4 k.4) ∙ sym k.2

-- a text has one list of pieces at most
pub one_marked_pieces : (limit max_depth offset : ℕ) (text : List ℕ) (xs ys : List MarkedPiece)
    → AreMarkedPieces limit max_depth offset text xs
    → AreMarkedPieces limit max_depth offset text ys → xs ≡ ys
one_marked_pieces limit max_depth offset text xs ys h k =
    one_of_blocks limit max_depth offset k.blocks xs ys
    (rw (one_blocks h.blocks k.blocks text h.parted k.parted)
    at h.each) k.each

-- ---- existence

pub of_block_exist : (limit max_depth offset : ℕ) (block : List ℕ)
    → (own : List MarkedPiece) × AreOfBlock limit max_depth offset block own
of_block_exist limit max_depth offset block = elim (cases_lt limit (length block)) [
  | inl long ↦ (record { offset = offset; kind = TooLongBlock } ∷ [], over long refl)
  | inr short ↦ let pieces =
      pieces_exist max_depth (offset == 0) [] block in
      (map (marked offset) pieces.0, within short pieces.0 pieces.1 refl)
]

pub of_blocks_exist : (limit max_depth offset : ℕ) (blocks : List (List ℕ))
    → (marks : List MarkedPiece) × AreOfBlocks limit max_depth offset blocks marks
of_blocks_exist limit max_depth offset [] = ([], refl)
of_blocks_exist limit max_depth offset (block ∷ more) =
    let own = of_block_exist limit max_depth offset block in
    let rest = of_blocks_exist limit max_depth (offset + length block) more in
    (own.0 ++ rest.0, (own.0, rest.0, refl, own.1, rest.1))

-- each text has a list of pieces
pub marked_pieces_exist : (limit max_depth offset : ℕ) (text : List ℕ)
    → (marks : List MarkedPiece) × AreMarkedPieces limit max_depth offset text marks
marked_pieces_exist limit max_depth offset text =
    let blocks = blocks_exist text in
    let marks = of_blocks_exist limit max_depth offset blocks.0 in
    (marks.0, record { blocks = blocks.0; parted = blocks.1; each = marks.1 })
