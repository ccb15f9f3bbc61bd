-- The text in front of one of its pieces has exactly the pieces before that one.
use Rattle.std.proofs.Common.{◌≡◌, ◌≢◌, ℕ, ◌+◌, ◌-◌, ◌≤◌, ◌==◌, Bool, true, List, [], ◌∷◌, ◌++◌}
use Rattle.std.proofs.Common.{map, length, take, get_or, refl, sym, ap, subst, ◌∙◌, inl, inr, arith}
use Rattle.std.proofs.Common.{append_assoc, append-nil, length-append, take_at, IsTrue}
use Rattle.pgn_text.proofs.Common.{and_parts, and_from, spelled, IsGap, Piece, Game, Unreadable}
use Rattle.pgn_text.proofs.Common.{ArePieces, event_line, is_event_line, IsFirstBlock, AreBlocks}
use Rattle.pgn_text.proofs.Common.{TooLongBlock, MarkedPiece, marked, AreOfBlock, over, within}
use Rattle.pgn_text.proofs.Common.{AreOfBlocks, AreMarkedPieces}
use Rattle.pgn_text.specs.Public.Laws.{FrontHasThePiecesBefore}
use Rattle.pgn_text.proofs.laws.LineFronts.{begins_line, starts_more, short_front, gap_line}
use Rattle.pgn_text.proofs.laws.LineFronts.{game_line}
use Rattle.pgn_text.proofs.laws.LineFronts.{block_line}
use Rattle.pgn_text.proofs.laws.Lines.{cut_append, cut_single}
use Rattle.pgn_text.proofs.MarkedPieces.{one_marked_pieces}
use Rattle.pgn_text.proofs.OneList.{no_bytes, game_has_byte}
use Rattle.pgn_text.proofs.ResumedText.{not_nil, map_cut, place_of_piece, offset_of_marked}
use Rattle.pgn_text.proofs.laws.ShorterText.{game_front, gap_front, gap_end}

-- ---- the front of a block

-- the bytes of a block in front of a piece: they have the pieces before it, and are no front of an
-- event line
record PiecesFront (max_depth : ℕ) (file_start : Bool) (before text : List ℕ) (earlier : List Piece)
    (piece : Piece) : Type 0 where
  front : List ℕ
  rest : List ℕ
  parted : text ≡ front ++ rest
  place : place_of_piece piece ≡ length (before ++ front)
  some : rest ≢ []
  pieces : ArePieces max_depth file_start before earlier front
  line : (tail : List ℕ) → front ≢ [] → event_line ≡ front ++ tail → ⊥

pieces_front : (max_depth : ℕ) (file_start : Bool) (before : List ℕ) (earlier : List Piece)
    (piece : Piece) (later : List Piece)
    (text : List ℕ)
    → ArePieces max_depth file_start before (earlier ++ piece ∷ later) text
    → PiecesFront max_depth file_start before text earlier piece
pieces_front max_depth file_start before [] (Game at parts) later text h = record {
  front = spelled h.0;
  rest = spelled parts ++ h.1;
  parted = h.2;
  place = h.4;
  some = λ e. game_has_byte max_depth file_start (before
      ++ spelled h.0) parts h.1 h.5 (no_bytes (spelled parts) h.1 e);
  pieces = (
    h.0,
    refl,
    gap_end file_start before h.0 (spelled parts ++ h.1) h.3.is_gap.stand h.3.is_gap.only,
  );
  line = λ tail. gap_line file_start before h.0 (spelled parts
      ++ h.1) tail h.3.is_gap.stand h.3.is_gap.only;
}
pieces_front max_depth file_start before [] (Unreadable at bytes) later text h = record {
  front = spelled h.0;
  rest = bytes;
  parted = h.1;
  place = h.3;
  some = h.4;
  pieces = (h.0, refl, gap_end file_start before h.0 bytes h.2.is_gap.stand h.2.is_gap.only);
  line = λ tail. gap_line file_start before h.0 bytes tail h.2.is_gap.stand h.2.is_gap.only;
}
pieces_front max_depth file_start before (Game at parts ∷ more) piece later text h =
    let a = spelled h.0 in
    let b = spelled parts in
    let r = pieces_front max_depth file_start ((before ++ a) ++ b) more piece later h.1 h.6 in
    let game =
    game_front max_depth file_start (before ++ a) parts r.front r.rest (rw (← r.parted) h.5) in
    let is_gap : IsGap file_start before h.0 (b ++ (r.front ++ r.rest)) =
    rw (← r.parted) h.3.is_gap in
    let longest = gap_front max_depth file_start before h.0 parts r.front r.rest is_gap game in
    record {
      front = a ++ (b ++ r.front);
      rest = r.rest;
      parted =
          h.2 ∙ ap (λ t. a ++ (b ++ t)) r.parted
          ∙ ap (λ t. a ++ t) (sym (append_assoc b r.front r.rest))
          ∙ sym (append_assoc a (b ++ r.front) r.rest);
      place = r.place
          ∙ ap length (append_assoc (before ++ a) b r.front ∙ append_assoc before a (b ++ r.front));
      some = r.some;
      pieces = (h.0, r.front, refl, longest, h.4, game, r.pieces);
      line = λ tail some e. game_line max_depth file_start (before
          ++ a) parts r.front a r.front tail game e;
    }
pieces_front max_depth file_start before (Unreadable at bytes ∷ more) piece later text h =
    absurd (not_nil more piece later h.6)

-- the same of pieces with their offsets: the front keeps an event line that the block begins with
record BlockFront (limit max_depth offset : ℕ) (block : List ℕ) (earlier : List MarkedPiece)
    (piece : MarkedPiece) : Type 0 where
  front : List ℕ
  rest : List ℕ
  parted : block ≡ front ++ rest
  some : rest ≢ []
  place : piece.offset ≡ offset + length front
  each : AreOfBlock limit max_depth offset front earlier
  line : front ≢ [] → begins_line block ≡ true → begins_line front ≡ true

-- no bytes have no pieces
none_of_block : (limit max_depth offset : ℕ) → AreOfBlock limit max_depth offset [] []
none_of_block limit max_depth offset =
    within (omega arith) [] ([], refl, gap_end (offset == 0) [] [] [] tt refl) refl

block_front_within : (limit max_depth offset : ℕ) (block : List ℕ) (earlier : List MarkedPiece)
    (piece : MarkedPiece)
    (front : List Piece) (one : Piece)
    → map (marked offset) front ≡ earlier → marked offset one ≡ piece → length block ≤ limit
    → PiecesFront max_depth (offset == 0) [] block front one
    → BlockFront limit max_depth offset block earlier piece
block_front_within limit max_depth offset block earlier piece front one e f short r = record {
  front = r.front;
  rest = r.rest;
  parted = r.parted;
  some = r.some;
  place = ap (λ (m : MarkedPiece). m.offset) (sym f) ∙ offset_of_marked offset one
      ∙ ap (λ n. offset + n) r.place;
  each = within (omega (arith, short, ap length r.parted, length-append r.front r.rest)) front
      r.pieces (sym e);
  line = λ some h. elim
      (short_front event_line r.front r.rest (ap begins_line (sym r.parted) ∙ h)) [
        | inl t ↦ t
        | inr t ↦ absurd (r.line t.0 some t.1)
      ];
}

block_front : (limit max_depth offset : ℕ) (block : List ℕ) (earlier : List MarkedPiece)
    (piece : MarkedPiece)
    (later : List MarkedPiece)
    → AreOfBlock limit max_depth offset block (earlier ++ piece ∷ later)
    → BlockFront limit max_depth offset block earlier piece
block_front limit max_depth offset block earlier piece later (over l e) =
    elim (cut_single (record { offset = offset; kind = TooLongBlock }) earlier (piece
    ∷ later) (sym e)) [
      | inl t ↦
          let only : piece ∷ later ≡ record { offset = offset; kind = TooLongBlock } ∷ [] = t.1 in
          let one : piece ≡ record { offset = offset; kind = TooLongBlock } = cc in record {
            front = [];
            rest = block;
            parted = refl;
            some = λ n. omega (arith, l, ap length n);
            place = omega (arith, ap (λ (m : MarkedPiece). m.offset) one);
            each = subst (AreOfBlock limit max_depth offset []) (sym t.0)
                (none_of_block limit max_depth offset);
            line = λ some h. absurd (some refl);
          }
      | inr t ↦ let none : piece ∷ later ≡ [] = t.1 in cc
    ]
block_front limit max_depth offset block earlier piece later (within l pieces h e) =
    let cut = map_cut (marked offset) pieces earlier piece later (sym e) in
    block_front_within limit max_depth offset block earlier piece cut.0 cut.1 cut.4 cut.5 l
    (pieces_front max_depth (offset == 0) [] cut.0 cut.1 cut.2 block (rw cut.3 at h))

-- ---- blocks cut short

pub event_front : (x y v : List ℕ) → IsTrue (is_event_line x y) → IsTrue (is_event_line x (y ++ v))
event_front x y v h =
    let both = and_parts (get_or x (length x - 1) 0 == 10) (begins_line y) h in
    and_from (get_or x (length x - 1) 0 == 10) (begins_line (y ++ v)) both.0
    (starts_more event_line y v both.1)

-- a first block stays one where fewer bytes follow, as long as the event line after it is whole
first_front : (block u v : List ℕ) → IsFirstBlock block (u ++ v)
    → (u ≢ [] → begins_line (u ++ v) ≡ true → begins_line u ≡ true)
    → IsFirstBlock block u
first_front block u v first line = record {
  ends = λ some.
      let feed = get_or block (length block - 1) 0 == 10 in
      let both = and_parts feed (begins_line (u ++ v)) (first.ends (λ e. some (no_bytes u v e))) in
      and_from feed (begins_line u) both.0 (line some both.1);
  whole = λ x y e f g here. first.whole x y e f g
      (rw (← (append_assoc y u v)) (event_front x (y ++ u) v here));
}

-- and the front of one is one where the text ends
first_cut : (x y rest : List ℕ) → IsFirstBlock (x ++ y) rest → IsFirstBlock x []
first_cut x y rest first = record {
  ends = λ some. absurd (some refl);
  whole = λ a b e f g here. first.whole a (b ++ y) (ap (λ t. t ++ y) e
      ∙ append_assoc a b y) f (λ n. g (no_bytes b y n))
      (rw (append_assoc b y rest) (event_front a b (y ++ rest) (rw append-nil at here)));
}

-- ---- the front of a whole text

-- the bytes of a text in front of a piece: they have the pieces before it, and keep an event line
-- that the text begins with
record TextFront (limit max_depth offset : ℕ) (text : List ℕ) (before : List MarkedPiece)
    (piece : MarkedPiece) : Type 0 where
  front : List ℕ
  back : List ℕ
  cut : text ≡ front ++ back
  place : piece.offset ≡ offset + length front
  blocks : List (List ℕ)
  parted : AreBlocks blocks front
  each : AreOfBlocks limit max_depth offset blocks before
  line : front ≢ [] → begins_line text ≡ true → begins_line front ≡ true

none_of_text : (limit max_depth offset : ℕ) → AreMarkedPieces limit max_depth offset [] []
none_of_text limit max_depth offset = record {
  blocks = [] ∷ [];
  parted = (
    refl,
    record {
      ends = λ some. absurd (some refl);
      whole =
          λ x y e f g here. f (no_bytes x y (sym e));
    },
  );
  each = ([], [], refl, none_of_block limit max_depth offset, refl);
}

-- the piece stands in the first block
front_first : (limit max_depth offset : ℕ) (block : List ℕ) (more : List (List ℕ)) (text : List ℕ)
    (before : List MarkedPiece)
    (piece : MarkedPiece)
    → AreBlocks (block ∷ more) text → BlockFront limit max_depth offset block before piece
    → TextFront limit max_depth offset text before piece
front_first limit max_depth offset block more text before piece parted r =
    let found = first_of more parted in record {
      front = r.front;
      back = r.rest ++ found.0;
      cut = found.1 ∙ ap (λ t. t ++ found.0) r.parted ∙ append_assoc r.front r.rest found.0;
      place = r.place;
      blocks = r.front ∷ [];
      parted = (refl, first_cut r.front r.rest found.0 (rw (← r.parted) found.2));
      each = (before, [], sym (append-nil before), r.each, refl);
      line = λ some h. front_line found.0 found.1 found.2 some h;
    }
  where
    front_line : (left : List ℕ) → text ≡ block ++ left → IsFirstBlock block left → r.front ≢ []
        → begins_line text ≡ true → begins_line r.front ≡ true
    front_line [] is first some h =
        r.line some (ap begins_line (sym (append-nil block) ∙ sym is) ∙ h)
    front_line (c ∷ left) is first some h =
        r.line some (block_line block (c ∷ left) first (λ e. cc) (ap begins_line (sym is) ∙ h))

    first_of : (others : List (List ℕ)) → AreBlocks (block ∷ others) text
        → (left : List ℕ) × (text ≡ block ++ left) × IsFirstBlock block left
    first_of [] h = ([], h.0 ∙ sym (append-nil block), h.1)
    first_of (next ∷ others) h = (h.0, h.1, h.3)

-- or in a later one: the first block is whole in front of it
front_later : (limit max_depth offset : ℕ) (block : List ℕ) (next : List ℕ) (more : List (List ℕ))
    (text : List ℕ)
    (own before : List MarkedPiece) (piece : MarkedPiece)
    → (parted : AreBlocks (block ∷ next ∷ more) text) → AreOfBlock limit max_depth offset block own
    → TextFront limit max_depth (offset + length block) parted.0 before piece
    → TextFront limit max_depth offset text (own ++ before) piece
front_later limit max_depth offset block next more text own before piece parted is r =
    go r.front r.blocks refl r.cut r.parted r.each
  where
    whole_line : begins_line text ≡ true → begins_line block ≡ true
    whole_line h = block_line block parted.0 parted.3 parted.2 (ap begins_line (sym parted.1) ∙ h)

    go : (front : List ℕ) (blocks : List (List ℕ)) → r.front ≡ front → parted.0 ≡ front ++ r.back
        → AreBlocks blocks front
        → AreOfBlocks limit max_depth (offset + length block) blocks before
        → TextFront limit max_depth offset text (own ++ before) piece
    go [] blocks same cut first each =
        let none : before ≡ [] =
        one_marked_pieces limit max_depth (offset + length block) [] before []
        (record { blocks = blocks; parted = first; each = each })
        (none_of_text limit max_depth (offset + length block)) in record {
          front = block;
          back = parted.0;
          cut = parted.1;
          place = omega (arith, r.place, ap length same);
          blocks = block ∷ [];
          parted = (refl, first_front block [] parted.0 parted.3 (λ some. absurd (some refl)));
          each = (own, [], ap (λ t. own ++ t) none, is, refl);
          line = λ some h. whole_line h;
        }
    go (c ∷ front) [] same cut first each = absurd first
    go (c ∷ front) (b ∷ blocks) same cut first each =
        let kept : c ∷ front ≢ [] → begins_line (c ∷ front ++ r.back) ≡ true
        → begins_line (c ∷ front) ≡ true =
        λ some h. ap begins_line (sym same)
        ∙ r.line (λ e. some (sym same ∙ e)) (ap begins_line cut ∙ h) in record {
          front = block ++ c ∷ front;
          back = r.back;
          cut = parted.1 ∙ ap (λ t. block ++ t) cut ∙ sym (append_assoc block (c ∷ front) r.back);
          place = omega (arith, r.place, ap length same, length-append block (c ∷ front));
          blocks = block ∷ b ∷ blocks;
          parted = (
            c ∷ front,
            refl,
            (λ e. cc),
            first_front block (c ∷ front) r.back (subst (IsFirstBlock block) cut parted.3) kept,
            first,
          );
          each = (own, before, refl, is, each);
          line = λ some h. starts_more event_line block (c ∷ front) (whole_line h);
        }

-- what is to be shown of the blocks after the first
abbrev FrontsOf : ℕ → ℕ → ℕ → List (List ℕ) → List ℕ → MarkedPiece → List MarkedPiece → Type 0
FrontsOf limit max_depth offset blocks text piece after =
    (there : List MarkedPiece) → AreOfBlocks limit max_depth offset blocks (there ++ piece ∷ after)
    → TextFront limit max_depth offset text there piece

text_front : (limit max_depth offset : ℕ) (blocks : List (List ℕ)) (text : List ℕ)
    (before : List MarkedPiece)
    (piece : MarkedPiece) (after : List MarkedPiece)
    → AreBlocks blocks text → AreOfBlocks limit max_depth offset blocks (before ++ piece ∷ after)
    → TextFront limit max_depth offset text before piece
text_front limit max_depth offset [] text before piece after parted h = absurd parted
text_front limit max_depth offset (block ∷ []) text before piece after parted h =
    let all : before ++ piece ∷ after ≡ h.0 = h.2 ∙ ap (λ t. h.0 ++ t) h.4 ∙ append-nil h.0 in
    front_first limit max_depth offset block [] text before piece parted
    (block_front limit max_depth offset block before piece after
    (subst (AreOfBlock limit max_depth offset block) (sym all) h.3))
text_front limit max_depth offset (block ∷ next ∷ more) text before piece after parted h =
    let again : FrontsOf limit max_depth (offset + length block) (next
    ∷ more) parted.0 piece after =
    λ there marks. text_front limit max_depth (offset + length block) (next
    ∷ more) parted.0 there piece after parted.4 marks in
    elim (cut_append h.0 h.1 before (piece ∷ after) (sym h.2)) [
      | inl t ↦ inside again t.0 t.1 t.2
      | inr t ↦ later again t.0 h.0 t.1 t.2 h.3
    ]
  where
    later : FrontsOf limit max_depth (offset + length block) (next ∷ more) parted.0 piece after
        → (there own : List MarkedPiece) → before ≡ own ++ there → h.1 ≡ there ++ piece ∷ after
        → AreOfBlock limit max_depth offset block own
        → TextFront limit max_depth offset text before piece
    later again there own e f is =
        rw e (front_later limit max_depth offset block next more text own there piece parted is
        (again there (subst (AreOfBlocks limit max_depth (offset + length block) (next ∷ more)) f
        h.4)))

    inside : FrontsOf limit max_depth (offset + length block) (next ∷ more) parted.0 piece after
        → (m : List MarkedPiece) → h.0 ≡ before ++ m → piece ∷ after ≡ m ++ h.1
        → TextFront limit max_depth offset text before piece
    inside again [] e f =
        later again [] before (sym (append-nil before)) (sym f)
        (subst (AreOfBlock limit max_depth offset block) (e ∙ append-nil before) h.3)
    inside again (first ∷ m) e f =
        let same : first ≡ piece = cc in
        let own =
        subst (AreOfBlock limit max_depth offset block) (e ∙ ap (λ p. before ++ p ∷ m) same) h.3
        in
        front_first limit max_depth offset block (next ∷ more) text before piece parted
        (block_front limit max_depth offset block before piece m own)

pub front_of_text : FrontHasThePiecesBefore
front_of_text limit max_depth offset text before piece after h =
    let r = text_front limit max_depth offset h.blocks text before piece after h.parted h.each in
    let bytes = piece.offset - offset in
    let size : length r.front ≡ bytes = omega (arith, r.place) in
    let same : take bytes text ≡ r.front = ap (take bytes) r.cut ∙ take_at r.front r.back bytes size
    in record {
      blocks = r.blocks;
      parted = subst (AreBlocks r.blocks) (sym same) r.parted;
      each = r.each;
    }
