-- A block read again from one of its pieces on, as a block by itself that is not at the file's
-- start: the same pieces follow.
use Rattle.std.proofs.Common.{◌&&◌, ◌==◌, bytes_eq, slice_index}
use Rattle.pgn_text.proofs.Common.{◌≡◌, ◌≢◌, ℕ, ◌+◌, ◌-◌, ◌≤◌, Bool, true, false, List, [], ◌∷◌}
use Rattle.pgn_text.proofs.Common.{◌++◌, length, IsTrue, refl, sym, ap, ap₂, ◌∙◌, ◌⊎◌, inl}
use Rattle.pgn_text.proofs.Common.{inr, arith, append_assoc, append-nil, length-append, list_all}
use Rattle.pgn_text.proofs.Common.{false≢true, and_parts, and_from, not-true, and_right}
use Rattle.pgn_text.proofs.Common.{get_or-append-add, nil_from_length, list_all-append, nat_tests}
use Rattle.pgn_text.proofs.Common.{is_white, is_word_byte, is_mark, is_empty, Part, ByteOrderMark}
use Rattle.pgn_text.proofs.Common.{White, Brace, Line, EscapeLine, Tag, Word, Star, Dot, Glyph}
use Rattle.pgn_text.proofs.Common.{Marks, Open, Close, Standing, standing_of, Stands, AllStand}
use Rattle.pgn_text.proofs.Common.{spelled, spelled_part, is_gap_part, begins_outside_gap, IsGame}
use Rattle.pgn_text.proofs.Common.{IsGap, IsLongestGap}
use Rattle.pgn_text.specs.Public.Parts.{is_column_one}
use Rattle.pgn_text.proofs.laws.PartLemmas.{part_has_byte}
use Rattle.pgn_text.proofs.laws.ShorterText.{game_elsewhere}
use Rattle.pgn_text.proofs.OneList.{no_bytes}
use Rattle.pgn_text.proofs.laws.Halfway.{spelled-append, stands_join}
use Rattle.pgn_text.proofs.laws.Classes.{order_mark-word, order_mark-mark}

-- what stands before the place is no front of a byte order mark at the file's start that bytes
-- after it could complete
pub IsClear : Bool → List ℕ → Type 0
IsClear file_start before =
    (b : ℕ) (bs : List ℕ) → (file_start && bytes_eq (before ++ b ∷ bs) (239 ∷ 187 ∷ 191 ∷ []))
    ≡ false

-- so the place is not at the file's start
pub clear_start : (file_start : Bool) (before : List ℕ) → IsClear file_start before
    → (file_start && is_empty before) ≡ false
unfolding IsClear
clear_start file_start [] clear = clear 239 (187 ∷ 191 ∷ [])
clear_start file_start (x ∷ before) clear = and_right file_start false refl

-- ---- the place after bytes of the piece

is_empty-append : (x : List ℕ) (b : ℕ) (bs : List ℕ) → is_empty (x ++ b ∷ bs) ≡ false
is_empty-append [] b bs = refl
is_empty-append (y ∷ x) b bs = refl

bytes_eq-append : (x : List ℕ) (b : ℕ) (bs : List ℕ) → bytes_eq (x ++ b ∷ bs) [] ≡ false
bytes_eq-append [] b bs = refl
bytes_eq-append (y ∷ x) b bs = refl

last_byte : (x : List ℕ) (b : ℕ) (bs : List ℕ)
    → slice_index (x ++ b ∷ bs) (length (x ++ b ∷ bs) - 1)
    ≡ slice_index (b ∷ bs) (length (b ∷ bs) - 1)
last_byte x b bs =
    let e : length (x ++ b ∷ bs) - 1 ≡ length x + (length (b ∷ bs) - 1) =
    omega (arith, length-append x (b ∷ bs)) in
    ap (slice_index (x ++ b ∷ bs)) e ∙ get_or-append-add x (b ∷ bs) (length (b ∷ bs) - 1) 0

-- after a byte of the piece the place is the same as without what stands before the piece
same_place : (file_start : Bool) (before : List ℕ) (b : ℕ) (bs : List ℕ) → IsClear file_start before
    → standing_of file_start (before ++ b ∷ bs) ≡ standing_of false (b ∷ bs)
unfolding IsClear
same_place file_start before b bs clear =
    let starts : (file_start && is_empty (before ++ b ∷ bs)) ≡ false =
    rw (is_empty-append before b bs)
    (and_right file_start false refl) in
    let column : is_column_one file_start (before ++ b ∷ bs) ≡ is_column_one false (b ∷ bs) = rw (
      last_byte before b bs,
      bytes_eq-append before b bs,
      clear b bs,
    ) refl in
    ap₂ (λ s c. record { file_start = s; column_one = c }) starts column

-- parts that stand after bytes of the piece stand there without what is before it, and the other
-- way round
pub stand_there : (file_start : Bool) (before : List ℕ) (z : List ℕ) (parts : List Part)
    (after : List ℕ)
    → IsClear file_start before → z ≢ [] → AllStand file_start (before ++ z) parts after
    → AllStand false z parts after
stand_there file_start before [] parts after clear some h = absurd (some refl)
stand_there file_start before (b ∷ bs) [] after clear some h = tt
stand_there file_start before (b ∷ bs) (p ∷ back) after clear some h = (
  rw (← (same_place file_start before b bs clear)) h.0,
  stand_there file_start before (b ∷ (bs ++ spelled_part p)) back after clear (λ e. cc)
      (rw (append_assoc before (b ∷ bs) (spelled_part p)) at h.1),
)

pub stand_back : (file_start : Bool) (before : List ℕ) (z : List ℕ) (parts : List Part)
    (after : List ℕ)
    → IsClear file_start before → z ≢ [] → AllStand false z parts after
    → AllStand file_start (before ++ z) parts after
stand_back file_start before [] parts after clear some h = absurd (some refl)
stand_back file_start before (b ∷ bs) [] after clear some h = tt
stand_back file_start before (b ∷ bs) (p ∷ back) after clear some h = (
  rw (same_place file_start before b bs clear) h.0,
  rw (append_assoc before (b ∷ bs) (spelled_part p))
      (stand_back file_start before (b ∷ (bs ++ spelled_part p)) back
      after clear (λ e. cc) h.1),
)

-- ---- at the mark itself

-- a part that is none of a gap stands at any place
pub stands_elsewhere : (here there : Standing) (p : Part) (after : List ℕ) → is_gap_part p ≡ false
    → Stands here p after
    → Stands there p after
stands_elsewhere here there ByteOrderMark after g h = cc
stands_elsewhere here there (White b) after g h = cc
stands_elsewhere here there (Brace text) after g h = cc
stands_elsewhere here there (Line text) after g h = cc
stands_elsewhere here there (EscapeLine text) after g h = cc
stands_elsewhere here there _ after g h = h

-- what stands at the start of a resumed block stands at any place
pub stands_anywhere : (there : Standing) (p : Part) (after : List ℕ)
    → Stands (standing_of false []) p after
    → Stands there p after
stands_anywhere there ByteOrderMark after h = absurd (false≢true h)
stands_anywhere there (EscapeLine text) after h = absurd (false≢true h.0)
stands_anywhere there _ after h = h

first_outside : (p : Part) (back : List Part) → IsTrue (begins_outside_gap (p ∷ back))
    → is_gap_part p ≡ false
first_outside p back b = not-true (is_gap_part p) b

-- a game at the mark is a game of the block that begins there
pub game_there : (max_depth : ℕ) (file_start : Bool) (before : List ℕ) (parts : List Part)
    (after : List ℕ)
    → IsClear file_start before → IsGame max_depth file_start before parts after
    → IsGame max_depth false [] parts after
game_there max_depth file_start before [] after clear g = let b = g.begins in cc
game_there max_depth file_start before (p ∷ back) after clear g =
    game_elsewhere max_depth file_start false before [] (p ∷ back) after after g (
      stands_elsewhere (standing_of file_start before) (standing_of false []) p (spelled back
          ++ after)
          (first_outside p back g.begins) g.stand.0,
      stand_there file_start before (spelled_part p) back after clear
          (part_has_byte (standing_of file_start before) p
          (spelled back ++ after) g.stand.0) g.stand.1,
    )

-- and the other way round
pub game_back : (max_depth : ℕ) (file_start : Bool) (before : List ℕ) (parts : List Part)
    (after : List ℕ)
    → IsClear file_start before → IsGame max_depth false [] parts after
    → IsGame max_depth file_start before parts after
game_back max_depth file_start before [] after clear g = let b = g.begins in cc
game_back max_depth file_start before (p ∷ back) after clear g =
    game_elsewhere max_depth false file_start [] before (p ∷ back) after after g (
      stands_elsewhere (standing_of false []) (standing_of file_start before) p (spelled back
          ++ after)
          (first_outside p back g.begins) g.stand.0,
      stand_back file_start before (spelled_part p) back after clear
          (part_has_byte (standing_of false []) p
          (spelled back ++ after) g.stand.0) g.stand.1,
    )

-- where the longest gap is empty no part of a gap stands
pub no_gap_part : (file_start : Bool) (before text : List ℕ)
    → IsLongestGap file_start before [] text
    → (p : Part) (rest : List ℕ) → text ≡ spelled_part p ++ rest → is_gap_part p ≡ true
    → Stands (standing_of file_start before) p rest → ⊥
no_gap_part file_start before text l p rest e g h =
    part_has_byte (standing_of file_start before) p rest h
    (nil_from_length (spelled_part p) (omega (
      arith,
      l.longest (p ∷ []) rest (rw append-nil (sym e))
          (record { stand = (h, tt); only = rw g refl }),
      ap length (append-nil (spelled_part p)),
    )))

-- and where none stands the longest gap is empty
pub empty_gap : (file_start : Bool) (before text : List ℕ)
    → ((p : Part) (rest : List ℕ) → text ≡ spelled_part p ++ rest → is_gap_part p ≡ true → Stands
    (standing_of file_start before) p rest → ⊥)
    → IsLongestGap file_start before [] text
empty_gap file_start before text none = record {
  is_gap = record { stand = tt; only = refl };
  longest = longest;
}
  where
    longest : (other : List Part) (rest : List ℕ) → spelled other ++ rest ≡ text
        → IsGap file_start before other rest
        → length (spelled other) ≤ 0
    longest [] rest e h = omega arith
    longest (p ∷ other) rest e h =
        absurd (none p (spelled other ++ rest) (sym e
        ∙ append_assoc (spelled_part p) (spelled other) rest)
        (and_parts (is_gap_part p) (list_all is_gap_part other) h.only).0 h.stand.0)

-- at the mark no gap begins in the resumed block either
pub no_gap_there : (file_start : Bool) (before text : List ℕ)
    → IsLongestGap file_start before [] text
    → IsLongestGap false [] [] text
no_gap_there file_start before text l =
    empty_gap false [] text (λ p rest e g h. no_gap_part file_start before text l p rest e g
    (stands_anywhere (standing_of file_start before) p rest h))

-- after a longest gap the longest gap is empty
pub gap_spent : (file_start : Bool) (before : List ℕ) (gap : List Part) (text : List ℕ)
    → IsLongestGap file_start before gap text
    → IsLongestGap file_start (before ++ spelled gap) [] text
gap_spent file_start before gap text l =
    empty_gap file_start (before ++ spelled gap) text (λ p rest e g h.
    let stand =
    stands_join file_start before gap (p ∷ []) rest (rw append-nil (rw e at l.is_gap.stand)) (
      h,
      tt,
    ) in
    let only : list_all is_gap_part (gap ++ p ∷ []) ≡ true =
    rw (list_all-append is_gap_part gap (p ∷ []))
    (and_from (list_all is_gap_part gap) (is_gap_part p && true) l.is_gap.only (rw g refl)) in
    let bytes = spelled-append gap (p ∷ []) in
    let long = l.longest (gap ++ p ∷ []) rest (rw (bytes, append-nil, append_assoc, ← e) refl)
    (record { stand = stand; only = only }) in
    part_has_byte (standing_of file_start (before ++ spelled gap)) p rest h
    (nil_from_length (spelled_part p) (omega (
      arith,
      long,
      ap length bytes,
      length-append (spelled gap)
          (spelled (p ∷ [])),
      ap length (append-nil (spelled_part p)),
    ))))

-- ---- all that follows a byte of the piece

pub some_bytes : (z y : List ℕ) → z ≢ [] → z ++ y ≢ []
some_bytes z y some e = some (no_bytes z y e)

pub gap_there : (file_start : Bool) (before z : List ℕ) (gap : List Part) (after : List ℕ)
    → IsClear file_start before
    → z ≢ [] → IsLongestGap file_start (before ++ z) gap after → IsLongestGap false z gap after
gap_there file_start before z gap after clear some l = record {
  is_gap = record {
    stand = stand_there file_start before z gap after clear some l.is_gap.stand;
    only = l.is_gap.only;
  };
  longest = λ other rest e h. l.longest other rest e (record {
    stand = stand_back file_start before z other rest clear
        some h.stand;
    only = h.only;
  });
}

-- ---- what is before a piece is clear, unless it is nothing

pub clear_longer : (file_start : Bool) (before y : List ℕ) → IsClear file_start before
    → IsClear file_start (before ++ y)
unfolding IsClear
clear_longer file_start before [] clear b bs = rw append-nil (clear b bs)
clear_longer file_start before (c ∷ y) clear b bs = rw append_assoc (clear c (y ++ b ∷ bs))

-- the first byte is another than that of a byte order mark
other_byte : (file_start : Bool) (c : ℕ) (x : List ℕ) → (c == 239) ≡ false
    → IsClear file_start (c ∷ x)
unfolding IsClear
other_byte file_start c x e b bs = rw e (and_right file_start false refl)

-- after a whole byte order mark too
mark_after : (file_start : Bool) (x : List ℕ) → IsClear file_start (239 ∷ 187 ∷ 191 ∷ x)
unfolding IsClear
mark_after file_start x b bs = rw (bytes_eq-append x b bs) (and_right file_start false refl)

white_byte : (c : ℕ) → is_white c ≡ true → (c == 239) ≡ false
white_byte c e = grind (arith, nat_tests)

-- after a first part it is
pub clear_after : (file_start : Bool) (p : Part) (after x : List ℕ)
    → Stands (standing_of file_start []) p after
    → IsClear file_start (spelled_part p ++ x)
clear_after file_start ByteOrderMark after x h = mark_after file_start x
clear_after file_start (White c) after x h = other_byte file_start c x (white_byte c h)
clear_after file_start (Brace text) after x h =
    other_byte file_start 123 ((text ++ 125 ∷ []) ++ x) refl
clear_after file_start (Line text) after x h = other_byte file_start 59 (text ++ x) refl
clear_after file_start (EscapeLine text) after x h = other_byte file_start 37 (text ++ x) refl
clear_after file_start (Tag first name second contents third) after x h =
    other_byte file_start 91 _ refl
clear_after file_start (Word []) after x h = absurd (false≢true h.0)
clear_after file_start (Word (c ∷ text)) after x h =
    other_byte file_start c (text
    ++ x) (order_mark-word c (and_parts (is_word_byte c) (list_all is_word_byte text) h.1).0)
clear_after file_start Star after x h = other_byte file_start 42 x refl
clear_after file_start Dot after x h = other_byte file_start 46 x refl
clear_after file_start (Glyph digits) after x h = other_byte file_start 36 (digits ++ x) refl
clear_after file_start (Marks []) after x h = absurd (false≢true h.0)
clear_after file_start (Marks (c ∷ marks)) after x h =
    other_byte file_start c (marks
    ++ x) (order_mark-mark c (and_parts (is_mark c) (list_all is_mark marks) h.1).0)
clear_after file_start Open after x h = other_byte file_start 40 x refl
clear_after file_start Close after x h = other_byte file_start 41 x refl

-- nothing stands before, or what stands there is clear
pub Begun : Bool → List ℕ → Type 0
Begun file_start before = (before ≡ []) ⊎ IsClear file_start before

pub begun_start : (file_start : Bool) → Begun file_start []
unfolding Begun
begun_start file_start = inl refl

pub begun_clear : (file_start : Bool) (before : List ℕ) → Begun file_start before → before ≢ []
    → IsClear file_start before
unfolding Begun
begun_clear file_start before (inl e) some = absurd (some e)
begun_clear file_start before (inr clear) some = clear

pub begun_more : (file_start : Bool) (before : List ℕ) (parts : List Part) (after : List ℕ)
    → Begun file_start before
    → AllStand file_start before parts after → Begun file_start (before ++ spelled parts)
unfolding Begun
begun_more file_start before parts after (inr clear) h =
    inr (clear_longer file_start before (spelled parts) clear)
begun_more file_start before [] after (inl e) h = inl (append-nil before ∙ e)
begun_more file_start before (p ∷ back) after (inl e) h =
    inr (rw e (clear_after file_start p (spelled back ++ after) (spelled back) (rw e at h.0)))
