-- A text read again from one of its pieces on has that piece and those after it, with the same
-- offsets.
use Rattle.std.proofs.Common.{◌≡◌, ◌≢◌, ℕ, ◌+◌, ◌-◌, ◌≤◌, ◌==◌, Bool, false, ◌&&◌, List, [], ◌∷◌}
use Rattle.std.proofs.Common.{◌++◌, map, length, drop, get_or, nat_eq, refl, sym, ap, ap₂, subst}
use Rattle.std.proofs.Common.{◌∙◌, inl, inr, arith, append_assoc, length-append, drop_at, drop-drop}
use Rattle.pgn_text.proofs.Common.{starts_with, ne_eqb, get_or-append-add, nil_from_length, spelled}
use Rattle.pgn_text.proofs.Common.{Piece, Game, Unreadable, ArePieces, event_line, is_event_line}
use Rattle.pgn_text.proofs.Common.{IsFirstBlock, AreBlocks, ReadableGame, UnreadableRest}
use Rattle.pgn_text.proofs.Common.{TooLongBlock, MarkedPiece, marked, AreOfBlock, over, within}
use Rattle.pgn_text.proofs.Common.{AreOfBlocks, AreMarkedPieces}
use Rattle.pgn_text.specs.Public.Marks.{ResumesAt}
use Rattle.pgn_text.proofs.laws.Lines.{cut_append, cut_single}
use Rattle.pgn_text.proofs.MarkedPieces.{one_marked_pieces}
use Rattle.pgn_text.proofs.OneList.{no_bytes, game_has_byte, no_more}
use Rattle.pgn_text.proofs.laws.ReadAgain.{IsClear, Begun, begun_start, begun_clear, begun_more}
use Rattle.pgn_text.proofs.laws.ReadAgain.{gap_spent}
use Rattle.pgn_text.proofs.laws.ResumedPieces.{moved_back, resumed_at_game, resumed_at_unreadable}

-- ---- the blocks of what is left of a text within its first block

pub not_nil : {X : Type 0} (a : List X) (x : X) (b : List X) → a ++ x ∷ b ≡ [] → ⊥
not_nil [] x b e = cc
not_nil (y ∷ a) x b e = cc

-- bytes more in front leave the last byte
last_byte : (x y : List ℕ) → y ≢ [] → get_or (x ++ y) (length (x ++ y) - 1) 0
    ≡ get_or y (length y - 1) 0
last_byte x [] some = absurd (some refl)
last_byte x (b ∷ y) some =
    let e : length (x ++ b ∷ y) - 1 ≡ length x + (length (b ∷ y) - 1) =
    omega (arith, length-append x (b ∷ y)) in
    ap (λ n. get_or (x ++ b ∷ y) n 0) e ∙ get_or-append-add x (b ∷ y) (length (b ∷ y) - 1) 0

-- an event line does not depend on what stands before the byte before it
pub event_line_after : (x y after : List ℕ) → y ≢ []
    → is_event_line (x ++ y) after ≡ is_event_line y after
event_line_after x y after some =
    ap (λ b. (b == 10) && starts_with nat_eq after event_line) (last_byte x y some)

-- the end of a first block is a first block
pub first_block_rest : (x y rest : List ℕ) → y ≢ [] → IsFirstBlock (x ++ y) rest
    → IsFirstBlock y rest
first_block_rest x y rest some h = record {
  ends = λ more. sym (event_line_after x y rest some) ∙ h.ends more;
  whole = λ a b e f g line. h.whole (x ++ a) b (rw e (sym (append_assoc x a b))) (λ n.
      f (no_more x a n)) g
      (event_line_after x a (b ++ rest) f ∙ line);
}

-- and with it the blocks of what is left
pub blocks_rest : (x y : List ℕ) (more : List (List ℕ)) (text : List ℕ) → y ≢ []
    → AreBlocks ((x ++ y) ∷ more) text
    → AreBlocks (y ∷ more) (drop (length x) text)
blocks_rest x y [] text some h =
    (rw h.0 (drop_at x y (length x) refl), first_block_rest x y [] some h.1)
blocks_rest x y (next ∷ more) text some h = (
  h.0,
  rw (h.1, append_assoc x y h.0) (drop_at x (y ++ h.0) (length x) refl),
  h.2,
  first_block_rest x y h.0 some h.3,
  h.4,
)

-- ---- one piece of a block

-- the place of a piece in its block
abbrev pub place_of_piece : Piece → ℕ
place_of_piece (Game at parts) = at
place_of_piece (Unreadable at bytes) = at

same_unreadable : {a b : ℕ} {bytes : List ℕ} {first second : List MarkedPiece} → a ≡ b
    → first ≡ second
    → record { offset = a; kind = UnreadableRest bytes } ∷ first
    ≡ record { offset = b; kind = UnreadableRest bytes } ∷ second
same_unreadable same rest = rw (same, rest) refl

-- moved back and marked from further on, a piece has the same mark
marked_back : (max_depth : ℕ) (file_start : Bool) (before z : List ℕ) (pieces : List Piece)
    (text : List ℕ) (offset : ℕ)
    → ArePieces max_depth file_start (before ++ z) pieces text
    → map (marked (offset + length before)) (map (moved_back (length before)) pieces)
    ≡ map (marked offset) pieces
marked_back max_depth file_start before z [] text offset h = refl
marked_back max_depth file_start before z (Game at parts ∷ more) text offset h =
    let same : (offset + length before) + (at - length before) ≡ offset + at =
    omega (arith, h.4, length-append (before ++ z) (spelled h.0), length-append before z) in
    let rest =
    marked_back max_depth file_start before ((z ++ spelled h.0)
    ++ spelled parts) more h.1 offset
    (rw (
      append_assoc before z (spelled h.0),
      append_assoc before (z ++ spelled h.0) (spelled parts),
    ) at h.6) in
    ap₂ (λ (n : ℕ) (l : List MarkedPiece). record { offset = n; kind = ReadableGame parts }
    ∷ l) same rest
marked_back max_depth file_start before z (Unreadable at bytes ∷ more) text offset h =
    let same : (offset + length before) + (at - length before) ≡ offset + at =
    omega (arith, h.3, length-append (before ++ z) (spelled h.0), length-append before z) in
    let rest : map (marked (offset + length before)) (map (moved_back (length before)) more)
    ≡ map (marked offset)
    more = rw h.6 refl in
    same_unreadable same rest

-- where a piece stands in a block, and the block from there on
record StandsAt (max_depth : ℕ) (file_start : Bool) (before text : List ℕ) (earlier : List Piece)
    (piece : Piece)
    (later : List Piece) : Type 0 where
  there : List ℕ
  rest : List ℕ
  parted : before ++ text ≡ there ++ rest
  place : place_of_piece piece ≡ length there
  begun : Begun file_start there
  from : length before ≤ length there
  first : there ≡ [] → earlier ≡ []
  some : rest ≢ []
  again : IsClear file_start there
      → ArePieces max_depth false [] (map (moved_back (length there)) (piece ∷ later)) rest
  marks : (offset : ℕ)
      → map (marked (offset + length there)) (map (moved_back (length there)) (piece ∷ later))
      ≡ map (marked offset)
      (piece ∷ later)

pieces_from : (max_depth : ℕ) (file_start : Bool) (before : List ℕ) (earlier : List Piece)
    (piece : Piece)
    (later : List Piece) (text : List ℕ)
    → Begun file_start before
    → ArePieces max_depth file_start before (earlier ++ piece ∷ later) text
    → StandsAt max_depth file_start before text earlier piece later
pieces_from max_depth file_start before [] (Game at parts) later text begun h =
    let there = before ++ spelled h.0 in
    let rest = spelled parts ++ h.1 in
    let longest = gap_spent file_start before h.0 rest h.3 in record {
      there = there;
      rest = rest;
      parted = ap (λ l. before ++ l) h.2 ∙ sym (append_assoc before (spelled h.0) rest);
      place = h.4;
      begun = begun_more file_start before h.0 rest begun h.3.is_gap.stand;
      from = omega (arith, length-append before (spelled h.0));
      first = λ e. refl;
      some = λ e. game_has_byte max_depth file_start there parts h.1 h.5
          (no_bytes (spelled parts) h.1 e);
      again = λ clear.
          let here : at - length there ≡ 0 = omega (arith, h.4) in
          let r = resumed_at_game max_depth file_start there parts later h.1 clear longest h.5 h.6
          in
          (r.0, r.1, r.2, r.3, here ∙ r.4, r.5, r.6);
      marks = λ offset.
          let same : (offset + length there) + (at - length there) ≡ offset + at =
          omega (arith, h.4) in
          ap₂ (λ (n : ℕ) (l : List MarkedPiece). record { offset = n; kind = ReadableGame parts }
          ∷ l) same
          (marked_back max_depth file_start there (spelled parts) later h.1 offset h.6);
    }
pieces_from max_depth file_start before [] (Unreadable at bytes) later text begun h =
    let there = before ++ spelled h.0 in
    let longest = gap_spent file_start before h.0 bytes h.2 in record {
      there = there;
      rest = bytes;
      parted = ap (λ l. before ++ l) h.1 ∙ sym (append_assoc before (spelled h.0) bytes);
      place = h.3;
      begun = begun_more file_start before h.0 bytes begun h.2.is_gap.stand;
      from = omega (arith, length-append before (spelled h.0));
      first = λ e. refl;
      some = h.4;
      again = λ clear.
          let here : at - length there ≡ 0 = omega (arith, h.3) in
          let r = resumed_at_unreadable max_depth file_start there bytes clear longest h.4 h.5 in
          (r.0, r.1, r.2, here ∙ r.3, r.4, r.5, rw h.6 refl);
      marks = λ offset.
          let same : (offset + length there) + (at - length there) ≡ offset + at =
          omega (arith, h.3) in
          let none : map (marked (offset + length there)) (map (moved_back (length there)) later)
          ≡ map (marked offset)
          later = rw h.6 refl in
          same_unreadable same none;
    }
pieces_from max_depth file_start before (Game at parts ∷ earlier) piece later text begun h =
    let after = (before ++ spelled h.0) ++ spelled parts in
    let begun_there =
    begun_more file_start (before ++ spelled h.0) parts h.1 (begun_more file_start before h.0
    (spelled parts ++ h.1) begun h.3.is_gap.stand) h.5.stand in
    let r = pieces_from max_depth file_start after earlier piece later h.1 begun_there h.6 in
    let regroup : before ++ text ≡ after ++ h.1 =
    ap (λ l. before ++ l) h.2 ∙ sym (append_assoc before (spelled h.0)
    (spelled parts ++ h.1)) ∙ sym (append_assoc (before ++ spelled h.0) (spelled parts) h.1) in
    let lengths = length-append (before ++ spelled h.0) (spelled parts) in
    let from = r.from in record {
      there = r.there;
      rest = r.rest;
      parted = regroup ∙ r.parted;
      place = r.place;
      begun = r.begun;
      from = omega (arith, lengths, length-append before (spelled h.0));
      first = λ e. absurd (game_has_byte max_depth file_start (before ++ spelled h.0) parts h.1 h.5
          (nil_from_length (spelled parts) (omega (arith, lengths, ap length e))));
      some = r.some;
      again = r.again;
      marks = r.marks;
    }
pieces_from max_depth file_start before (Unreadable at bytes ∷ earlier) piece later text begun h =
    absurd (not_nil earlier piece later h.6)

-- ---- one block

-- a list mapped, cut round one element
pub map_cut : {X Y : Type 0} (f : X → Y) (xs : List X) (a : List Y) (b : Y) (c : List Y)
    → map f xs ≡ a ++ b ∷ c
    → (front : List X) × (x : X) × (back : List X) × (xs ≡ front ++ x ∷ back) × (map f front ≡ a)
    × (f x ≡ b) ×
    (map f back ≡ c)
map_cut f [] a b c e = absurd (not_nil a b c (sym e))
map_cut f (x ∷ xs) [] b c e = ([], x, xs, refl, refl, cc, cc)
map_cut f (x ∷ xs) (d ∷ a) b c e =
    let rest : map f xs ≡ a ++ b ∷ c = cc in
    let r = map_cut f xs a b c rest in
    let same : f x ≡ d = cc in
    (x ∷ r.0, r.1, r.2, ap (λ l. x ∷ l) r.3, ap₂ (λ (y : _) (l : List _). y ∷ l) same r.4, r.5, r.6)

-- a block read again from one of its pieces on
record ResumedBlock (limit max_depth offset : ℕ) (block : List ℕ) (piece : MarkedPiece)
    (later : List MarkedPiece) : Type 0 where
  there : List ℕ
  rest : List ℕ
  parted : block ≡ there ++ rest
  some : rest ≢ []
  place : piece.offset ≡ offset + length there
  each : AreOfBlock limit max_depth piece.offset rest (piece ∷ later)

-- the piece is at the front of the block: that is read again as it is. Or bytes stand before it:
-- what follows them is a block
-- that is not at the start of the file
resumed_within : (limit max_depth offset : ℕ) (block : List ℕ) (earlier : List MarkedPiece)
    (piece : MarkedPiece)
    (later : List MarkedPiece) (pieces : List Piece) (there rest : List ℕ)
    → block ≡ there ++ rest → Begun (offset == 0) there → (there ≡ [] → earlier ≡ []) → rest ≢ []
    → piece.offset ≡ offset + length there
    → (IsClear (offset == 0) there
    → ArePieces max_depth false [] (map (moved_back (length there)) pieces) rest)
    → map (marked (offset + length there)) (map (moved_back (length there)) pieces) ≡ piece ∷ later
    → length block ≤ limit → AreOfBlock limit max_depth offset block (earlier ++ piece ∷ later)
    → ResumedBlock limit max_depth offset block piece later
resumed_within limit max_depth offset block earlier piece later pieces [] rest parted begun first
    some place again marks
    short h =
    let here : offset ≡ piece.offset = omega (arith, place) in
    let h_first : AreOfBlock limit max_depth offset block (piece ∷ later) = rw (first refl) at h in
    record {
      there = [];
      rest = block;
      parted = refl;
      some = λ e. some (sym parted ∙ e);
      place = place;
      each = subst (λ (n : ℕ). AreOfBlock limit max_depth n block (piece ∷ later)) here h_first;
    }
resumed_within limit max_depth offset block earlier piece later pieces (b
    ∷ bs) rest parted begun first some place again
    marks short h =
    let n = length (b ∷ bs) in
    let later_start : (piece.offset == 0) ≡ false =
    ne_eqb piece.offset 0 (λ e. omega (arith, place, e)) in
    let read = again (begun_clear (offset == 0) (b ∷ bs) begun (λ e. cc)) in record {
      there = b ∷ bs;
      rest = rest;
      parted = parted;
      some = some;
      place = place;
      each = within (omega (arith, ap length parted, length-append (b ∷ bs) rest))
          (map (moved_back n) pieces)
          (rw later_start read)
          (sym marks ∙ ap (λ (m : ℕ). map (marked m) (map (moved_back n) pieces)) (sym place));
    }

pub offset_of_marked : (offset : ℕ) (piece : Piece)
    → (marked offset piece).offset ≡ offset + place_of_piece piece
offset_of_marked offset (Game at parts) = refl
offset_of_marked offset (Unreadable at bytes) = refl

resumed_cut : (limit max_depth offset : ℕ) (block : List ℕ) (earlier : List MarkedPiece)
    (piece : MarkedPiece)
    (later : List MarkedPiece) (front : List Piece) (one : Piece) (back : List Piece)
    → map (marked offset) front ≡ earlier → marked offset one ≡ piece
    → map (marked offset) back ≡ later
    → StandsAt max_depth (offset == 0) [] block front one back → length block ≤ limit
    → AreOfBlock limit max_depth offset block (earlier ++ piece ∷ later)
    → ResumedBlock limit max_depth offset block piece later
resumed_cut limit max_depth offset block earlier piece later front one back e f g s short h =
    resumed_within limit max_depth offset block earlier piece later (one
    ∷ back) s.there s.rest s.parted s.begun
    (λ n. sym e ∙ ap (map (marked offset)) (s.first n)) s.some
    (ap (λ (m : MarkedPiece). m.offset) (sym f) ∙ offset_of_marked offset one
    ∙ ap (λ n. offset + n) s.place)
    s.again (s.marks offset ∙ ap₂ (λ (m : MarkedPiece) (l : List MarkedPiece). m ∷ l) f g) short h

resumed_block : (limit max_depth offset : ℕ) (block : List ℕ) (earlier : List MarkedPiece)
    (piece : MarkedPiece)
    (later : List MarkedPiece)
    → AreOfBlock limit max_depth offset block (earlier ++ piece ∷ later)
    → ResumedBlock limit max_depth offset block piece later
resumed_block limit max_depth offset block earlier piece later (over l e) =
    elim (cut_single (record { offset = offset; kind = TooLongBlock }) earlier (piece
    ∷ later) (sym e)) [
      | inl t ↦
          let only : piece ∷ later ≡ record { offset = offset; kind = TooLongBlock } ∷ [] = t.1 in
          let one : piece ≡ record { offset = offset; kind = TooLongBlock } = cc in
          let here : piece.offset ≡ offset = ap (λ (m : MarkedPiece). m.offset) one in record {
            there = [];
            rest = block;
            parted = refl;
            some = λ n. omega (arith, l, ap length n);
            place = omega (arith, here);
            each = over l (only
                ∙ ap (λ (n : ℕ). record { offset = n; kind = TooLongBlock } ∷ []) (sym here));
          }
      | inr t ↦ let none : piece ∷ later ≡ [] = t.1 in cc
    ]
resumed_block limit max_depth offset block earlier piece later (within l pieces h e) =
    let cut = map_cut (marked offset) pieces earlier piece later (sym e) in
    resumed_cut limit max_depth offset block earlier piece later cut.0 cut.1 cut.2 cut.4 cut.5 cut.6
    (pieces_from max_depth (offset == 0) [] cut.0 cut.1 cut.2 block (begun_start (offset == 0))
    (rw cut.3 at h)) l
    (within l pieces h e)

-- ---- a whole text

-- a text read again from one of its pieces on
record ResumedFrom (limit max_depth offset : ℕ) (text : List ℕ) (piece : MarkedPiece)
    (after : List MarkedPiece) : Type
    0 where
  skipped : ℕ
  place : piece.offset ≡ offset + skipped
  blocks : List (List ℕ)
  parted : AreBlocks blocks (drop skipped text)
  each : AreOfBlocks limit max_depth piece.offset blocks (piece ∷ after)

drop_past : {X : Type 0} (a b : List X) (n : ℕ) → drop (length a + n) (a ++ b) ≡ drop n b
drop_past a b n = sym (drop-drop n (length a) (a ++ b)) ∙ ap (drop n) (drop_at a b (length a) refl)

-- the piece stands in a later block
in_later : (limit max_depth offset : ℕ) (block : List ℕ) (more : List (List ℕ)) (text : List ℕ)
    (before rest : List MarkedPiece) (piece : MarkedPiece) (after : List MarkedPiece)
    → AreBlocks (block ∷ more) text → AreOfBlocks limit max_depth (offset + length block) more rest
    → rest ≡ before ++ piece ∷ after
    → ((left : List ℕ) → AreBlocks more left
    → AreOfBlocks limit max_depth (offset + length block) more
    (before ++ piece ∷ after)
    → ResumedFrom limit max_depth (offset + length block) left piece after)
    → ResumedFrom limit max_depth offset text piece after
in_later limit max_depth offset block [] text before rest piece after parted h e again =
    absurd (not_nil before piece after (sym e ∙ h))
in_later limit max_depth offset block (next ∷ more) text before rest piece after parted h e again =
    let r = again parted.0 parted.4 (rw e at h) in record {
      skipped = length block + r.skipped;
      place = omega (arith, r.place);
      blocks = r.blocks;
      parted = rw (parted.1, drop_past block parted.0 r.skipped) r.parted;
      each = r.each;
    }

-- the piece stands in the first block
in_first : (limit max_depth offset : ℕ) (block : List ℕ) (more : List (List ℕ)) (text : List ℕ)
    (before : List MarkedPiece) (piece : MarkedPiece) (later rest after : List MarkedPiece)
    → AreBlocks (block ∷ more) text
    → AreOfBlock limit max_depth offset block (before ++ piece ∷ later)
    → AreOfBlocks limit max_depth (offset + length block) more rest → after ≡ later ++ rest
    → ResumedFrom limit max_depth offset text piece after
in_first limit max_depth offset block more text before piece later rest after parted h k e =
    let r = resumed_block limit max_depth offset block before piece later h in
    let next : offset + length block ≡ piece.offset + length r.rest = omega (
      arith,
      r.place,
      ap length r.parted,
      length-append r.there r.rest,
    ) in record {
      skipped = length r.there;
      place = r.place;
      blocks = r.rest ∷ more;
      parted =
          blocks_rest r.there r.rest more text r.some
          (subst (λ (b : List ℕ). AreBlocks (b ∷ more) text) r.parted
          parted);
      each = (piece ∷ later, rest, ap (λ l. piece ∷ l) e, r.each, rw next at k);
    }

resumed_blocks : (limit max_depth offset : ℕ) (blocks : List (List ℕ)) (text : List ℕ)
    (before : List MarkedPiece)
    (piece : MarkedPiece) (after : List MarkedPiece)
    → AreBlocks blocks text → AreOfBlocks limit max_depth offset blocks (before ++ piece ∷ after)
    → ResumedFrom limit max_depth offset text piece after
resumed_blocks limit max_depth offset [] text before piece after parted h = absurd parted
resumed_blocks limit max_depth offset (block ∷ more) text before piece after parted h =
    let again = λ (there : List MarkedPiece) (left : List ℕ) (blocks : AreBlocks more left)
    (marks : AreOfBlocks limit max_depth (offset + length block) more (there ++ piece ∷ after)).
    resumed_blocks limit max_depth (offset + length block) more left there piece after blocks marks
    in
    elim (cut_append h.0 h.1 before (piece ∷ after) (sym h.2)) [
      | inl t ↦ within_first again t.0 t.1 t.2
      | inr t ↦ in_later limit max_depth offset block more text t.0 h.1 piece after parted h.4 t.2
          (again t.0)
    ]
  where
    within_first : ((there : List MarkedPiece) (left : List ℕ) → AreBlocks more left
        → AreOfBlocks limit max_depth
        (offset + length block) more (there ++ piece ∷ after)
        → ResumedFrom limit max_depth (offset + length block)
        left piece after)
        → (m : List MarkedPiece) → h.0 ≡ before ++ m → piece ∷ after ≡ m ++ h.1
        → ResumedFrom limit max_depth offset text piece after
    within_first again [] e f =
        in_later limit max_depth offset block more text [] h.1 piece after parted h.4 (sym f)
        (again [])
    within_first again (first ∷ m) e f =
        let same : first ≡ piece = cc in
        let left : after ≡ m ++ h.1 = cc in
        in_first limit max_depth offset block more text before piece m h.1 after parted
        (rw (e, same) at h.3) h.4 left

-- a text that begins at any offset, read again from one of its pieces on
pub resumes : (limit max_depth offset : ℕ) (text : List ℕ) (before : List MarkedPiece)
    (piece : MarkedPiece)
    (after : List MarkedPiece)
    → AreMarkedPieces limit max_depth offset text (before ++ piece ∷ after)
    → AreMarkedPieces limit max_depth piece.offset (drop (piece.offset - offset) text) (piece
    ∷ after)
resumes limit max_depth offset text before piece after h =
    let r = resumed_blocks limit max_depth offset h.blocks text before piece after h.parted h.each
    in
    let skipped : piece.offset - offset ≡ r.skipped = omega (arith, r.place) in record {
      blocks = r.blocks;
      parted = subst (λ (n : ℕ). AreBlocks r.blocks (drop n text)) (sym skipped) r.parted;
      each = r.each;
    }

pub resumes_at : (limit max_depth : ℕ) → ResumesAt limit max_depth
resumes_at limit max_depth whole before piece after h =
    let r = resumed_blocks limit max_depth 0 h.blocks whole before piece after h.parted h.each in
    let skipped : piece.offset ≡ r.skipped = omega (arith, r.place) in record {
      blocks = r.blocks;
      parted = subst (λ (n : ℕ). AreBlocks r.blocks (drop n whole)) (sym skipped) r.parted;
      each = r.each;
    }

-- so the list of the rest is the end of the list of the whole
pub resumed_pieces : (limit max_depth : ℕ) (whole : List ℕ) (before : List MarkedPiece)
    (piece : MarkedPiece)
    (after others : List MarkedPiece)
    → AreMarkedPieces limit max_depth 0 whole (before ++ piece ∷ after)
    → AreMarkedPieces limit max_depth piece.offset (drop piece.offset whole) others
    → others ≡ piece ∷ after
resumed_pieces limit max_depth whole before piece after others h k =
    one_marked_pieces limit max_depth piece.offset (drop piece.offset whole) others (piece
    ∷ after) k
    (resumes_at limit max_depth whole before piece after h)
