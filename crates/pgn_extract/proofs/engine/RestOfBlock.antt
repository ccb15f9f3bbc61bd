-- Bytes that are no game are the rest of their block.
use Rattle.std.proofs.Common.{◌≡◌, ℕ, ◌-◌, ◌==◌, Bool, List, [], ◌∷◌, ◌++◌, length, take, drop}
use Rattle.std.proofs.Common.{arith, sym, ap, ◌∙◌, append_assoc, drop_at}
use Rattle.std.proofs.lemmas.List.{length-drop}
use Rattle.pgn_extract.proofs.Common.{take_all, depth_limit, spelled, not_nil, IsPieceOf}
use Rattle.pgn_text.specs.Public.Pieces.{Piece, Game, Unreadable, ArePieces}

rest_after : (max_depth : ℕ) (f : Bool) (before : List ℕ) (earlier : List Piece) (at : ℕ)
    (bytes : List ℕ) (later : List Piece) (text : List ℕ)
    → ArePieces max_depth f before (earlier ++ Unreadable at bytes ∷ later) text
    → drop at (before ++ text) ≡ bytes
rest_after max_depth f before [] at bytes later text h =
    let there = before ++ spelled h.0 in
    let parted : before ++ text ≡ there ++ bytes =
    ap (λ l. before ++ l) h.1 ∙ sym (append_assoc before (spelled h.0) bytes) in
    ap (drop at) parted ∙ drop_at there bytes at (sym h.3)
rest_after max_depth f before (Game place parts ∷ earlier) at bytes later text h =
    let after = (before ++ spelled h.0) ++ spelled parts in
    let regroup : before ++ text ≡ after ++ h.1 =
    ap (λ l. before ++ l) h.2 ∙ sym (append_assoc before (spelled h.0)
    (spelled parts ++ h.1)) ∙ sym (append_assoc (before ++ spelled h.0) (spelled parts) h.1) in
    ap (drop at) regroup ∙ rest_after max_depth f after earlier at bytes later h.1 h.6
rest_after max_depth f before (Unreadable place own ∷ earlier) at bytes later text h =
    absurd (not_nil earlier (Unreadable at bytes) later h.6)

-- what a slice up to the end of the block takes
pub rest_taken : (at : ℕ) (block : List ℕ)
    → take (length block - at) (drop at block) ≡ drop at block
rest_taken at block =
    take_all (length block - at) (drop at block) (omega (arith, length-drop at block))

pub rest_of_block : (offset : ℕ) (block : List ℕ) (at : ℕ) (bytes : List ℕ)
    → IsPieceOf offset block (Unreadable at bytes) → drop at block ≡ bytes
rest_of_block offset block at bytes (earlier, later, are) =
    rest_after depth_limit (offset == 0) [] earlier at bytes later block are
