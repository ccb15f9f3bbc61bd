-- Which fronts of a text begin with an event line. Neither a gap nor a text with a game in it is a
-- front of that line, so none
-- becomes the line's first bytes where a text is cut.
use Rattle.std.proofs.Common.{◌≡◌, ◌≢◌, ℕ, suc, ◌-◌, ◌==◌, Bool, true, false, not, ◌&&◌, ◌||◌, List}
use Rattle.std.proofs.Common.{[], ◌∷◌, ◌++◌, length, get_or, nat_eq, refl, sym, ap, ap₂, ◌∙◌, ◌⊎◌}
use Rattle.std.proofs.Common.{inl, inr, arith, append_assoc, append-nil, IsTrue, ◌↔◌}
use Rattle.std.specs.Prelude.{codes}
use Rattle.pgn_text.proofs.Common.{bytes_eq, starts_with, list_all, and_parts, and_from, false≢true}
use Rattle.pgn_text.proofs.Common.{or_cases, eqb-true, list_all-append, is_white, ends_in_line_feed}
use Rattle.pgn_text.proofs.Common.{Part, ByteOrderMark, White, Brace, Line, EscapeLine, Word, Star}
use Rattle.pgn_text.proofs.Common.{Standing, standing_of, Stands, AllStand, spelled, spelled_part}
use Rattle.pgn_text.proofs.Common.{is_gap_part, is_result, is_result_word, EachFrom, IsGame}
use Rattle.pgn_text.proofs.Common.{event_line, IsFirstBlock}
use Rattle.pgn_text.proofs.TagLemmas.{bytes_eq-same}

-- the text begins with an event line
abbrev pub begins_line : List ℕ → Bool
begins_line text = starts_with nat_eq text event_line

-- what begins with some bytes still does with more after it
pub starts_more : (line u v : List ℕ) → starts_with nat_eq u line ≡ true
    → starts_with nat_eq (u ++ v) line ≡ true
starts_more [] u v h = refl
starts_more (c ∷ line) [] v h = absurd (false≢true h)
starts_more (c ∷ line) (b ∷ u) v h =
    let both = and_parts (nat_eq c b) (starts_with nat_eq u line) h in
    and_from (nat_eq c b) (starts_with nat_eq (u ++ v) line) both.0 (starts_more line u v both.1)

-- a front of what begins so begins so too, or is itself a front of those bytes
pub short_front : (line u v : List ℕ) → starts_with nat_eq (u ++ v) line ≡ true
    → (starts_with nat_eq u line ≡ true) ⊎ ((rest : List ℕ) × (line ≡ u ++ rest))
short_front [] u v h = inl refl
short_front (c ∷ line) [] v h = inr (c ∷ line, refl)
short_front (c ∷ line) (b ∷ u) v h =
    let both = and_parts (nat_eq c b) (starts_with nat_eq (u ++ v) line) h in
    elim (short_front line u v both.1) [
      | inl t ↦ inl (and_from (nat_eq c b) (starts_with nat_eq u line) both.0 t)
      | inr t ↦ inr (t.0, ap₂ (λ (x : ℕ) (xs : List ℕ). x ∷ xs) (eqb-true c b both.0) t.1)
    ]

-- ---- bytes that end neither a line nor a game, as all bytes of the event line are

abbrev is_plain_byte : ℕ → Bool
is_plain_byte b = not (b == 10)
    && (not (b == 42) && (not (b == 48) && (not (b == 49) && not (b == 50))))

abbrev is_plain : List ℕ → Bool
is_plain u = list_all is_plain_byte u

plain_both : (a b : List ℕ) → is_plain (a ++ b) ≡ true → (is_plain a ≡ true) × (is_plain b ≡ true)
plain_both a b all =
    and_parts (is_plain a) (is_plain b) (sym (list_all-append is_plain_byte a b) ∙ all)

plain_front : (u rest : List ℕ) → event_line ≡ u ++ rest → is_plain u ≡ true
plain_front u rest e =
    let all : is_plain event_line ≡ true = refl in
    (plain_both u rest (ap is_plain (sym e) ∙ all)).0

-- so no front of the line ends in a line feed
last_plain : (b : ℕ) (u : List ℕ) → is_plain (b ∷ u) ≡ true
    → (get_or (b ∷ u) (length (b ∷ u) - 1) 0 == 10) ≡ true → ⊥
last_plain b [] all line =
    let both = and_parts (is_plain_byte b) true all in
    let none : not (b == 10) ≡ true = (and_parts _ _ both.0).0 in
    cc
last_plain b (c ∷ u) all line =
    let both = and_parts (is_plain_byte b) (is_plain (c ∷ u)) all in
    let place : length (b ∷ c ∷ u) - 1 ≡ suc (length (c ∷ u) - 1) = omega arith in
    last_plain c u both.1 (ap (λ k. get_or (b ∷ c ∷ u) k 0 == 10) (sym place) ∙ line)

-- the last part of a game is a result, which has a byte that is not plain
plain_word : (w : List ℕ) → is_result_word w ≡ true → is_plain w ≡ true → ⊥
plain_word w e all =
    elim (or_cases (bytes_eq w (codes "1-0")
    || bytes_eq w (codes "0-1")) (bytes_eq w (codes "1/2-1/2")) e) [
      | inl f ↦ elim (or_cases (bytes_eq w (codes "1-0")) (bytes_eq w (codes "0-1")) f) [
        | inl g ↦ let k : is_plain (codes "1-0") ≡ true =
            rw (bytes_eq-same w (codes "1-0") g) at all in false≢true k
        | inr g ↦ let k : is_plain (codes "0-1") ≡ true =
            rw (bytes_eq-same w (codes "0-1") g) at all in false≢true k
      ]
      | inr f ↦ let k : is_plain (codes "1/2-1/2") ≡ true =
          rw (bytes_eq-same w (codes "1/2-1/2") f) at all in false≢true k
    ]

plain_result : (p : Part) → is_result p ≡ true → is_plain (spelled_part p) ≡ true → ⊥
plain_result (Word text) e all = plain_word text e all
plain_result Star e all = let k : false ≡ true = all in cc
plain_result p e all = cc

plain_parts : (front parts : List Part) → parts ≢ []
    → EachFrom (λ front part back. IsTrue (is_result part) ↔ (back ≡ [])) front parts
    → is_plain (spelled parts) ≡ true → ⊥
plain_parts front [] some each all = some refl
plain_parts front (p ∷ []) some each all =
    plain_result p (each.0.1 refl) (ap is_plain (sym (append-nil (spelled_part p))) ∙ all)
plain_parts front (p ∷ q ∷ more) some each all =
    plain_parts (front ++ p ∷ []) (q ∷ more) (λ e.
    cc) each.1 (plain_both (spelled_part p) (spelled (q ∷ more)) all).1

plain_game : (max_depth : ℕ) (file_start : Bool) (before : List ℕ) (parts : List Part)
    (after : List ℕ)
    → IsGame max_depth file_start before parts after → is_plain (spelled parts) ≡ true → ⊥
plain_game max_depth file_start before [] after g all = false≢true g.begins
plain_game max_depth file_start before (p ∷ back) after g all =
    plain_parts [] (p ∷ back) (λ e. cc) g.result_last all

-- ---- what is no front of the line

abbrev first_byte : List ℕ → ℕ
first_byte [] = 0
first_byte (b ∷ u) = b

-- no part of a gap begins with a bracket, as the line does
gap_byte : (place : Standing) (p : Part) (after x y : List ℕ) → is_gap_part p ≡ true
    → Stands place p after
    → spelled_part p ++ x ≡ 91 ∷ y → ⊥
gap_byte place ByteOrderMark after x y g h e = omega (arith, ap first_byte e)
gap_byte place (White b) after x y g h e =
    let same : b ≡ 91 = ap first_byte e in
    let seen : is_white 91 ≡ true = ap is_white (sym same) ∙ h in
    false≢true seen
gap_byte place (Brace text) after x y g h e = omega (arith, ap first_byte e)
gap_byte place (Line text) after x y g h e = omega (arith, ap first_byte e)
gap_byte place (EscapeLine text) after x y g h e = omega (arith, ap first_byte e)
gap_byte place p after x y g h e = false≢true g

-- no gap is a front of the line
pub gap_line : (file_start : Bool) (before : List ℕ) (gap : List Part) (after tail : List ℕ)
    → AllStand file_start before gap after
    → IsTrue (list_all is_gap_part gap) → spelled gap ≢ [] → event_line ≡ spelled gap ++ tail → ⊥
gap_line file_start before [] after tail stand only some e = some refl
gap_line file_start before (p ∷ back) after tail stand only some e =
    let first = (and_parts (is_gap_part p) (list_all is_gap_part back) only).0 in
    gap_byte (standing_of file_start before) p (spelled back ++ after) (spelled back
    ++ tail) _ first stand.0
    (sym (append_assoc (spelled_part p) (spelled back) tail) ∙ sym e)

-- no text with a game in it is one
pub game_line : (max_depth : ℕ) (file_start : Bool) (before : List ℕ) (parts : List Part)
    (after a b tail : List ℕ)
    → IsGame max_depth file_start before parts after
    → event_line ≡ (a ++ (spelled parts ++ b)) ++ tail → ⊥
game_line max_depth file_start before parts after a b tail g e =
    let rest =
    (plain_both a (spelled parts ++ b) (plain_front (a ++ (spelled parts ++ b)) tail e)).1 in
    plain_game max_depth file_start before parts after g (plain_both (spelled parts) b rest).0

-- and no bytes that end in a line feed: so where a text begins with the line, each front of it that
-- ends so has all of that line
pub line_front : (front left : List ℕ) → ends_in_line_feed front ≡ true
    → begins_line (front ++ left) ≡ true → begins_line front ≡ true
line_front [] left feed h = absurd (false≢true feed)
line_front (b ∷ u) left feed h = elim (short_front event_line (b ∷ u) left h) [
  | inl t ↦ t
  | inr t ↦ absurd (last_plain b u (plain_front (b ∷ u) t.0 t.1) feed)
]

-- as the first block has that more bytes follow
pub block_line : (block left : List ℕ) → IsFirstBlock block left → left ≢ []
    → begins_line (block ++ left) ≡ true → begins_line block ≡ true
block_line block left first some h =
    line_front block left
    (and_parts (ends_in_line_feed block) (begins_line left) (first.ends some)).0 h
