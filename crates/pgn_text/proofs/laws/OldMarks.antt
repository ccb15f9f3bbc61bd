-- Under larger limits a text without faulty pieces keeps its pieces.
use Rattle.std.proofs.Common.{◌==◌}
use Rattle.pgn_text.proofs.Common.{ℕ, ◌+◌, ◌≤◌, Bool, List, [], ◌∷◌, ◌++◌, map, length, IsTrue, sym}
use Rattle.pgn_text.proofs.Common.{ap, ◌∙◌, arith, list_all, false≢true, and_parts, list_all-append}
use Rattle.pgn_text.proofs.Common.{Part, spelled, EachFrom, depth_after, IsGame, Piece, Game}
use Rattle.pgn_text.proofs.Common.{Unreadable, ArePieces, MarkedPiece, marked, AreOfBlock, over}
use Rattle.pgn_text.proofs.Common.{within, AreOfBlocks, AreMarkedPieces}
use Rattle.pgn_text.specs.Public.Marks.{is_readable}

each_within : (low high : ℕ) (front parts : List Part)
    → low ≤ high
    → EachFrom (λ front part back. depth_after front ≤ low) front parts
    → EachFrom (λ front part back. depth_after front ≤ high) front parts
each_within low high front [] le h = tt
each_within low high front (p ∷ parts) le h =
    (omega (arith, h.0), each_within low high (front ++ p ∷ []) parts le h.1)

-- a game within the old depth is one within the new
pub deeper_game : (low high : ℕ) (file_start : Bool) (before : List ℕ) (parts : List Part)
    (after : List ℕ)
    → low ≤ high → IsGame low file_start before parts after
    → IsGame high file_start before parts after
deeper_game low high file_start before parts after le g = record {
  stand = g.stand;
  begins = g.begins;
  tags_first = g.tags_first;
  result_last = g.result_last;
  meant = g.meant;
  closed_were_open = g.closed_were_open;
  depth = each_within low high [] parts le g.depth;
  all_closed = g.all_closed;
  variations = g.variations;
}

pub same_pieces : (low high : ℕ) (file_start : Bool) (before : List ℕ) (pieces : List Piece)
    (text : List ℕ) (offset : ℕ)
    → low ≤ high → IsTrue (list_all is_readable (map (marked offset) pieces))
    → ArePieces low file_start before pieces text → ArePieces high file_start before pieces text
same_pieces low high file_start before [] text offset le all h = h
same_pieces low high file_start before (Game at parts ∷ more) text offset le all h = (
  h.0,
  h.1,
  h.2,
  h.3,
  h.4,
  deeper_game low high file_start (before ++ spelled h.0) parts h.1 le h.5,
  same_pieces low high file_start ((before ++ spelled h.0)
      ++ spelled parts) more h.1 offset le all h.6,
)
same_pieces low high file_start before (Unreadable at bytes ∷ more) text offset le all h =
    absurd (false≢true all)

pub same_of_block : (limit larger_limit low high offset : ℕ) (block : List ℕ)
    (own : List MarkedPiece)
    → limit ≤ larger_limit → low ≤ high → IsTrue (list_all is_readable own)
    → AreOfBlock limit low offset block own → AreOfBlock larger_limit high offset block own
same_of_block limit larger_limit low high offset block own le deep all (over l e) =
    absurd (false≢true (rw e at all))
same_of_block limit larger_limit low high offset block own le deep all (within l pieces h e) =
    within (omega arith) pieces
    (same_pieces low high (offset == 0) [] pieces block offset deep (rw e at all) h) e

pub same_of_blocks : (limit larger_limit low high offset : ℕ) (blocks : List (List ℕ))
    (pieces : List MarkedPiece)
    → limit ≤ larger_limit → low ≤ high → IsTrue (list_all is_readable pieces)
    → AreOfBlocks limit low offset blocks pieces
    → AreOfBlocks larger_limit high offset blocks pieces
same_of_blocks limit larger_limit low high offset [] pieces le deep all h = h
same_of_blocks limit larger_limit low high offset (block ∷ more) pieces le deep all h =
    let parts = and_parts (list_all is_readable h.0) (list_all is_readable h.1)
    (sym (list_all-append is_readable h.0 h.1) ∙ ap (list_all is_readable) (sym h.2) ∙ all) in (
      h.0,
      h.1,
      h.2,
      same_of_block limit larger_limit low high offset block h.0 le deep parts.0 h.3,
      same_of_blocks limit larger_limit low high (offset
          + length block) more h.1 le deep parts.1 h.4,
    )

pub same_marked_pieces : (limit larger_limit low high offset : ℕ) (text : List ℕ)
    (pieces : List MarkedPiece)
    → limit ≤ larger_limit → low ≤ high → IsTrue (list_all is_readable pieces)
    → AreMarkedPieces limit low offset text pieces
    → AreMarkedPieces larger_limit high offset text pieces
same_marked_pieces limit larger_limit low high offset text pieces le deep all h = record {
  blocks = h.blocks;
  parted = h.parted;
  each = same_of_blocks limit larger_limit low high offset h.blocks pieces le deep
      all h.each;
}
