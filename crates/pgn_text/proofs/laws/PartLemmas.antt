-- The part at the front of a text is the one that may stand there, and no other.
use Rattle.std.specs.Prelude.{Option, Some, None, option_map, IsTrue, ◌==◌, ◌&&◌, not, flat_map}
use Rattle.pgn_text.proofs.Common.{◌≡◌, ◌≢◌, ℕ, true, false, List, [], ◌∷◌, ◌++◌, refl, sym, ap}
use Rattle.pgn_text.proofs.Common.{◌∙◌, append_assoc, option_or, list_all, and_parts, not-true}
use Rattle.pgn_text.proofs.Common.{not_from_false, is_white, is_digit, is_name_byte, is_word_byte}
use Rattle.pgn_text.proofs.Common.{is_mark, is_plain, is_not_line_feed, is_not_brace, is_empty}
use Rattle.pgn_text.proofs.Common.{stops, Sign, Single, Escaped, spelled_sign, is_sign, IsContents}
use Rattle.pgn_text.proofs.Common.{Part, ByteOrderMark, White, Brace, Line, EscapeLine, Tag, Word}
use Rattle.pgn_text.proofs.Common.{Glyph, Marks, Standing, Stands, spelled_part, gap_front, tag_end}
use Rattle.pgn_text.proofs.Common.{tag_string, tag_front, game_front, part_front, kept_found}
use Rattle.pgn_text.proofs.Common.{with_byte, contents_front}
use Rattle.pgn_text.proofs.LongestRuns.{run_of-append, after_run-append}
use Rattle.pgn_text.proofs.laws.Classes.{is_white-word, brace-word, semicolon-word, percent-word}
use Rattle.pgn_text.proofs.laws.Classes.{order_mark-word, is_white-mark, brace-mark, semicolon-mark}
use Rattle.pgn_text.proofs.laws.Classes.{percent-mark, order_mark-mark, is_word_byte-mark, dot-mark}
use Rattle.pgn_text.proofs.laws.Classes.{dollar-mark, is_name_byte-white, is_white-name}

pub kept-or : (a b : Option (Part × List ℕ))
    → option_map kept_found (option_or a b)
    ≡ option_or (option_map kept_found a) (option_map kept_found b)
kept-or None b = refl
kept-or (Some found) b = refl

-- after a word's byte, or a mark, no gap part stands
pub no_gap-word : (place : Standing) (b : ℕ) (rest : List ℕ) → is_word_byte b ≡ true
    → gap_front place (b ∷ rest) ≡ None
no_gap-word place b rest word =
    rw (
      is_white-word b word,
      brace-word b word,
      semicolon-word b word,
      percent-word b word,
      order_mark-word b word,
    ) refl

pub no_gap-mark : (place : Standing) (b : ℕ) (rest : List ℕ) → is_mark b ≡ true
    → gap_front place (b ∷ rest) ≡ None
no_gap-mark place b rest mark =
    rw (
      is_white-mark b mark,
      brace-mark b mark,
      semicolon-mark b mark,
      percent-mark b mark,
      order_mark-mark b mark,
    ) refl

-- the contents of a string, read up to the quote after them
signs-read : (signs : List Sign) (after : List ℕ) → IsTrue (list_all is_sign signs)
    → contents_front false (flat_map spelled_sign signs ++ (34 ∷ after))
    ≡ Some (flat_map spelled_sign signs, 34 ∷ after)
signs-read [] after all = refl
signs-read (Single b ∷ signs) after all =
    let parts : (is_sign (Single b) ≡ true) × (list_all is_sign signs ≡ true) = and_parts _ _ all in
    let plain : (is_plain b ≡ true) × ((not (b == 34) && not (b == 92)) ≡ true) =
    and_parts _ _ parts.0 in
    let others : (not (b == 34) ≡ true) × (not (b == 92) ≡ true) = and_parts _ _ plain.1 in
    rw (
      not-true _ others.0,
      not-true _ others.1,
      plain.0,
    ) (ap (option_map (with_byte b)) (signs-read signs after parts.1))
signs-read (Escaped b ∷ signs) after all =
    let parts : (is_plain b ≡ true) × (list_all is_sign signs ≡ true) = and_parts _ _ all in
    rw parts.0
    (ap (λ found. option_map (with_byte 92) (option_map (with_byte b) found))
    (signs-read signs after parts.1))

contents-read : (contents after : List ℕ) → IsContents contents
    → contents_front false (contents ++ (34 ∷ after)) ≡ Some (contents, 34 ∷ after)
contents-read contents after (signs, spells, all) = rw spells (signs-read signs after all)

-- white space that more white space, and then a byte that is no name byte, follow
white_stops-name : (second after : List ℕ) → IsTrue (list_all is_white second)
    → IsTrue (stops is_name_byte (second ++ (34 ∷ after)))
white_stops-name [] after all = refl
white_stops-name (b ∷ second) after all =
    let parts : (is_white b ≡ true) × (list_all is_white second ≡ true) = and_parts _ _ all in
    not_from_false _ (is_name_byte-white b parts.0)

-- a name begins with a byte that is no white space
name_stops-white : (name after : List ℕ) → IsTrue (not (is_empty name))
    → IsTrue (list_all is_name_byte name) → IsTrue (stops is_white (name ++ after))
name_stops-white [] after some all = absurd (cc)
name_stops-white (b ∷ name) after some all =
    let parts : (is_name_byte b ≡ true) × (list_all is_name_byte name ≡ true) = and_parts _ _ all in
    not_from_false _ (is_white-name b parts.0)

-- a tag, with its lists joined from the right
tag_end-read : (first name second contents third after : List ℕ) → IsTrue (list_all is_white third)
    → tag_end first name second contents (third ++ (93 ∷ after))
    ≡ Some (Tag first name second contents third, after)
tag_end-read first name second contents third after whites =
    rw (
      run_of-append is_white third (93 ∷ after) whites refl,
      after_run-append is_white third (93 ∷ after) whites refl,
    ) refl

tag_string-read : (first name second contents third after : List ℕ) → IsContents contents
    → IsTrue (list_all is_white third)
    → tag_string first name second (34 ∷ (contents ++ (34 ∷ (third ++ (93 ∷ after)))))
    ≡ Some (Tag first name second contents third, after)
tag_string-read first name second contents third after spelt whites =
    rw (contents-read contents (third ++ (93 ∷ after)) spelt)
    (tag_end-read first name second contents third after whites)

tag_front-read : (first name second contents third after : List ℕ)
    → IsTrue (list_all is_white first) → IsTrue (not (is_empty name))
    → IsTrue (list_all is_name_byte name) → IsTrue (list_all is_white second) → IsContents contents
    → IsTrue (list_all is_white third)
    → tag_front (first ++ (name ++ (second ++ (34 ∷ (contents ++ (34 ∷ (third ++ (93 ∷ after))))))))
    ≡ Some (Tag first name second contents third, after)
tag_front-read first name second contents third after whites some names more_whites spelt
    last_whites =
    let string : List ℕ = 34 ∷ (contents ++ (34 ∷ (third ++ (93 ∷ after)))) in
    let after_name : List ℕ = second ++ string in
    let name_ends : IsTrue (stops is_name_byte after_name) =
    white_stops-name second (contents ++ (34 ∷ (third ++ (93 ∷ after)))) more_whites in
    let white_ends : IsTrue (stops is_white (name ++ after_name)) =
    name_stops-white name after_name some names in
    rw (
      run_of-append is_white first (name ++ after_name) whites white_ends,
      after_run-append is_white first (name ++ after_name) whites white_ends,
      run_of-append is_name_byte name after_name names name_ends,
      after_run-append is_name_byte name after_name names name_ends,
      run_of-append is_white second string more_whites refl,
      after_run-append is_white second string more_whites refl,
      not-true _ some,
    ) (tag_string-read first name second contents third after spelt last_whites)

-- the bytes of a tag and what follows them, joined from the right
pub tag_regroup : (first name second contents third after : List ℕ)
    → (first ++ (name ++ (second ++ (34 ∷ (contents ++ (34 ∷ (third ++ 93 ∷ []))))))) ++ after
    ≡ first ++ (name ++ (second ++ (34 ∷ (contents ++ (34 ∷ (third ++ (93 ∷ after)))))))
tag_regroup first name second contents third after = simp append_assoc

-- a part that may stand at the place is the one that is read there
pub stands-read : (place : Standing) (p : Part) (after : List ℕ) → Stands place p after
    → part_front place (spelled_part p ++ after) ≡ Some (p, after)
stands-read place ByteOrderMark after at_start = rw at_start refl
stands-read place (White b) after white = rw white refl
stands-read place (Brace text) after inside =
    rw (
      append_assoc text (125 ∷ []) after,
      run_of-append is_not_brace text (125 ∷ after) inside refl,
      after_run-append is_not_brace text (125 ∷ after) inside refl,
    ) refl
stands-read place (Line text) after (inside, ends) =
    rw (
      run_of-append is_not_line_feed text after inside ends,
      after_run-append is_not_line_feed text after inside ends,
    ) refl
stands-read place (EscapeLine text) after (column_one, inside, ends) =
    rw (
      column_one,
      run_of-append is_not_line_feed text after inside ends,
      after_run-append is_not_line_feed text after inside ends,
    ) refl
stands-read place (Tag first name second contents third) after (
  whites,
  some,
  names,
  more_whites,
  spelt,
  last_whites,
) =
    ap tag_front (tag_regroup first name second contents third after)
    ∙ tag_front-read first name second contents third after whites some names more_whites spelt
    last_whites
stands-read place (Word []) after (some, words, ends) = absurd (cc)
stands-read place (Word (b ∷ text)) after (some, words, ends) =
    let parts : (is_word_byte b ≡ true) × (list_all is_word_byte text ≡ true) =
    and_parts _ _ words in
    ap (λ found. option_or found (game_front (b ∷ (text ++ after))))
    (no_gap-word place b (text ++ after) parts.0)
    ∙ rw (
      parts.0,
      run_of-append is_word_byte text after parts.1 ends,
      after_run-append is_word_byte text after parts.1 ends,
    ) refl
stands-read place (Glyph digits) after (some, all, few, small, ends) =
    rw (
      run_of-append is_digit digits after all ends,
      after_run-append is_digit digits after all ends,
      some,
      few,
      small,
    ) refl
stands-read place (Marks []) after (some, all, ends) = absurd (cc)
stands-read place (Marks (b ∷ marks)) after (some, all, ends) =
    let parts : (is_mark b ≡ true) × (list_all is_mark marks ≡ true) = and_parts _ _ all in
    ap (λ found. option_or found (game_front (b ∷ (marks ++ after))))
    (no_gap-mark place b (marks ++ after) parts.0)
    ∙ rw (
      is_word_byte-mark b parts.0,
      dot-mark b parts.0,
      dollar-mark b parts.0,
      parts.0,
      run_of-append is_mark marks after parts.1 ends,
      after_run-append is_mark marks after parts.1 ends,
    ) refl
stands-read place _ after _ = refl

-- the found part and the text after it
some_pair : (p q : Part) (after rest : List ℕ)
    → ◌≡◌ {A = Option (Part × List ℕ)} (Some (p, after)) (Some (q, rest)) → (p ≡ q) × (after ≡ rest)
some_pair p q after rest same =
    let found : Option (Part × List ℕ) → Part × List ℕ =
    λ o. elim o [ None ↦ (p, after) | Some f ↦ f ] in
    (ap (λ o. (found o).0) same, ap (λ o. (found o).1) same)

-- at one place at most one part stands
pub one_part : (place : Standing) (p q : Part) (after rest : List ℕ) → Stands place p after
    → Stands place q rest → spelled_part p ++ after ≡ spelled_part q ++ rest
    → (p ≡ q) × (after ≡ rest)
one_part place p q after rest stands others same =
    some_pair p q after rest (sym (stands-read place p after stands) ∙ ap (part_front place) same
    ∙ stands-read place q rest others)

-- each part has a byte
pub part_has_byte : (place : Standing) (p : Part) (after : List ℕ) → Stands place p after
    → spelled_part p ≢ []
part_has_byte place (Word text) after (some, words, ends) e = let no : not (is_empty text) ≡ false =
    ap (λ xs. not (is_empty xs)) e in cc
part_has_byte place (Marks marks) after (some, all, ends) e =
    let no : not (is_empty marks) ≡ false = ap (λ xs. not (is_empty xs)) e in cc
part_has_byte place _ after stands e = cc
