-- A part that is read may stand where it was read.
use Rattle.std.specs.Prelude.{None, IsTrue, ◌||◌, not, ◌⊎◌}
use Rattle.std.proofs.lemmas.Bool.{not-false}
use Rattle.pgn_text.proofs.Common.{◌≡◌, ℕ, Bool, true, false, List, [], ◌∷◌, ◌++◌, length, drop}
use Rattle.pgn_text.proofs.Common.{refl, sym, ap, ◌∙◌, subst, append_assoc, inl, inr, Option, Some}
use Rattle.pgn_text.proofs.Common.{option_map, option_and_then, if◌then◌else◌, ◌==◌, ◌&&◌, flat_map}
use Rattle.pgn_text.proofs.Common.{nat_le, nat_eq, option_or, list_all, starts_with, and_parts}
use Rattle.pgn_text.proofs.Common.{and_from, or_parts, eqb-true, cond_both, not_from_false}
use Rattle.pgn_text.proofs.Common.{is_white, is_digit, is_name_byte, is_word_byte, is_mark}
use Rattle.pgn_text.proofs.Common.{is_plain, is_not_line_feed, is_not_brace, is_empty, run_of}
use Rattle.pgn_text.proofs.Common.{after_run, Sign, Single, Escaped, spelled_sign, is_sign}
use Rattle.pgn_text.proofs.Common.{IsContents, Part, ByteOrderMark, Brace, Line, EscapeLine, Tag}
use Rattle.pgn_text.proofs.Common.{Word, Star, Dot, Glyph, Marks, Open, Close, Standing, Stands}
use Rattle.pgn_text.proofs.Common.{spelled_part, number_of, rest_after, brace_front, gap_front}
use Rattle.pgn_text.proofs.Common.{tag_end, tag_string, tag_name, tag_front, is_glyph, glyph_front}
use Rattle.pgn_text.proofs.Common.{game_front, part_front, with_byte, contents_front}
use Rattle.pgn_text.specs.Private.Reading.{mark_front}
use Rattle.pgn_text.proofs.LongestRuns.{run-append-after, list_all-run, stops-after_run}
use Rattle.pgn_text.proofs.laws.PartLemmas.{tag_regroup, stands-read}

-- what is found at the front of the text, if anything is, may stand there
abbrev pub IsFound : Standing → List ℕ → Option (Part × List ℕ) → Type 0
IsFound place text None = Unit {0}
IsFound place text (Some found) = (text ≡ spelled_part found.0 ++ found.1)
    × Stands place found.0 found.1

-- a choice of Some that was made
some_if : (v : Bool) (t rest : List ℕ) → (if v then Some t else None) ≡ Some rest
    → (v ≡ true) × (t ≡ rest)
some_if true t rest is = (refl, cc)
some_if false t rest is = absurd (cc)

pub rest_after-is : (w : ℕ) (xs rest : List ℕ) → rest_after w xs ≡ Some rest → xs ≡ w ∷ rest
rest_after-is w [] rest is = absurd (cc)
rest_after-is w (b ∷ t) rest is =
    let both : ((b == w) ≡ true) × (t ≡ rest) = some_if (b == w) t rest is in
    ap (λ x. x ∷ t) (eqb-true b w both.0) ∙ ap (λ xs. w ∷ xs) both.1

brace_go : (place : Standing) (text : List ℕ) (o : Option (List ℕ))
    → rest_after 125 (after_run is_not_brace text) ≡ o
    → IsFound place (123 ∷ text) (option_map (λ rest. (Brace (run_of is_not_brace text), rest)) o)
brace_go place text None is = tt
brace_go place text (Some rest) is = (
  ap (λ (xs : List ℕ). 123 ∷ xs) (run-append-after is_not_brace text
      ∙ ap (λ xs. run_of is_not_brace text
      ++ xs) (rest_after-is 125 (after_run is_not_brace text) rest is)
      ∙ sym (append_assoc (run_of is_not_brace text) (125 ∷ []) rest)),
  list_all-run is_not_brace text,
)

begins_mark : (text : List ℕ) → starts_with nat_eq text (187 ∷ 191 ∷ []) ≡ true
    → text ≡ 187 ∷ 191 ∷ drop 2 text
begins_mark [] is = absurd (cc)
begins_mark (a ∷ []) is = let parts : (nat_eq 187 a ≡ true) × (false ≡ true) = and_parts _ _ is in
    absurd (cc)
begins_mark (a ∷ b ∷ t) is =
    let parts : (nat_eq 187 a ≡ true) × ((nat_eq 191 b && true) ≡ true) = and_parts _ _ is in
    let more : (nat_eq 191 b ≡ true) × (true ≡ true) = and_parts _ _ parts.1 in
    ap (λ x. x ∷ b ∷ t) (sym (eqb-true 187 a parts.0))
    ∙ ap (λ x. 187 ∷ x ∷ t) (sym (eqb-true 191 b more.0))

mark-found : (place : Standing) (text : List ℕ) → place.file_start ≡ true
    → IsFound place (239 ∷ text) (mark_front text)
mark-found place text at_start =
    cond_both (starts_with nat_eq text (187 ∷ 191 ∷ [])) (Some (ByteOrderMark, drop 2 text)) None
    (IsFound place (239 ∷ text))
    (λ is. (ap (λ (xs : List ℕ). 239 ∷ xs) (begins_mark text is), at_start))
    (λ _. tt)

-- what was found after a byte that is the given one
at_byte : (place : Standing) (b w : ℕ) (rest : List ℕ) (o : Option (Part × List ℕ))
    → (b == w) ≡ true → IsFound place (w ∷ rest) o → IsFound place (b ∷ rest) o
at_byte place b w rest o is found =
    subst (λ x. IsFound place (x ∷ rest) o) (sym (eqb-true b w is)) found

line_found : (place : Standing) (text : List ℕ)
    → IsFound place (59
    ∷ text) (Some (Line (run_of is_not_line_feed text), after_run is_not_line_feed text))
line_found place text = (
  ap (λ (xs : List ℕ). 59 ∷ xs) (run-append-after is_not_line_feed text),
  (list_all-run is_not_line_feed text, stops-after_run is_not_line_feed text),
)

escape_found : (place : Standing) (text : List ℕ) → place.column_one ≡ true
    → IsFound place (37
    ∷ text) (Some (EscapeLine (run_of is_not_line_feed text), after_run is_not_line_feed text))
escape_found place text column_one = (
  ap (λ (xs : List ℕ). 37 ∷ xs) (run-append-after is_not_line_feed text),
  (column_one, list_all-run is_not_line_feed text, stops-after_run is_not_line_feed text),
)

pub gap-found : (place : Standing) (text : List ℕ) → IsFound place text (gap_front place text)
gap-found place [] = tt
gap-found place (b ∷ rest) =
    cond_both (is_white b) _ _ (IsFound place (b ∷ rest)) (λ e. (refl, e)) (λ _.
    cond_both (b == 123) _ _ (IsFound place (b ∷ rest)) (λ e.
    at_byte place b 123 rest (brace_front rest) e
    (brace_go place rest (rest_after 125 (after_run is_not_brace rest)) refl)) (λ _.
    cond_both (b == 59) _ _ (IsFound place (b ∷ rest)) (λ e.
    at_byte place b 59 rest
    (Some (Line (run_of is_not_line_feed rest), after_run is_not_line_feed rest)) e
    (line_found place rest)) (λ _.
    cond_both (b == 37) _ _ (IsFound place (b ∷ rest)) (λ e.
    cond_both place.column_one
    (Some (EscapeLine (run_of is_not_line_feed rest), after_run is_not_line_feed rest)) None
    (IsFound place (b ∷ rest))
    (λ one. at_byte place b 37 rest
    (Some (EscapeLine (run_of is_not_line_feed rest), after_run is_not_line_feed rest)) e
    (escape_found place rest one)) (λ _. tt)) (λ _.
    cond_both (b == 239) _ _ (IsFound place (b ∷ rest)) (λ e.
    cond_both place.file_start (mark_front rest) None (IsFound place (b ∷ rest))
    (λ at_start. at_byte place b 239 rest (mark_front rest) e (mark-found place rest at_start))
    (λ _. tt)) (λ _.
    tt)))))

-- contents, after a backslash if the first is true
abbrev pub IsSpelled : Bool → List ℕ → Type 0
IsSpelled false contents = IsContents contents
IsSpelled true contents = (signs : List Sign) × (92 ∷ contents ≡ flat_map spelled_sign signs)
    × IsTrue (list_all is_sign signs)

-- what was read, if anything was, is contents and the rest
abbrev pub IsRead : Bool → List ℕ → Option (List ℕ × List ℕ) → Type 0
IsRead escaped text None = Unit {0}
IsRead escaped text (Some found) = IsSpelled escaped found.0 × (text ≡ found.0 ++ found.1)

read_with : (b : ℕ) (rest : List ℕ) (escaped next : Bool)
    → ((tail : List ℕ) → IsSpelled next tail → IsSpelled escaped (b ∷ tail))
    → (o : Option (List ℕ × List ℕ)) → IsRead next rest o
    → IsRead escaped (b ∷ rest) (option_map (with_byte b) o)
read_with b rest escaped next more None read = tt
read_with b rest escaped next more (Some found) (spelt, parted) =
    (more found.0 spelt, ap (λ (xs : List ℕ). b ∷ xs) parted)

pub contents-sound : (escaped : Bool) (text : List ℕ)
    → IsRead escaped text (contents_front escaped text)
contents-sound true [] = tt
contents-sound false [] = (([], refl, refl), refl)
contents-sound true (b ∷ rest) =
    cond_both (is_plain b) _ _ (IsRead true (b ∷ rest))
    (λ plain. read_with b rest true false
    (λ tail spelt.
    (Escaped b ∷ spelt.0, ap (λ xs. 92 ∷ b ∷ xs) spelt.1, and_from _ _ plain spelt.2))
    (contents_front false rest) (contents-sound false rest))
    (λ _. tt)
contents-sound false (b ∷ rest) =
    cond_both (b == 92) _ _ (IsRead false (b ∷ rest))
    (λ is. read_with b rest false true
    (λ tail spelt. (spelt.0, ap (λ x. x ∷ tail) (eqb-true b 92 is) ∙ spelt.1, spelt.2))
    (contents_front true rest) (contents-sound true rest))
    (λ no_backslash. cond_both (b == 34 || not (is_plain b)) _ _ (IsRead false (b ∷ rest))
    (λ _. (([], refl, refl), refl))
    (λ fails. let parts : ((b == 34) ≡ false) × (not (is_plain b) ≡ false) = or_parts _ _ fails in
    read_with b rest false false
    (λ tail spelt. (
      Single b ∷ spelt.0,
      ap (λ xs. b ∷ xs) spelt.1,
      and_from _ _
          (and_from _ _ (not-false _ parts.1)
          (and_from _ _ (not_from_false _ parts.0) (not_from_false _ no_backslash))) spelt.2,
    ))
    (contents_front false rest) (contents-sound false rest)))

-- what is known of a tag up to its string
record Begun (place : Standing) (first name second : List ℕ) : Type 0 where
  whites : IsTrue (list_all is_white first)
  some : IsTrue (not (is_empty name))
  names : IsTrue (list_all is_name_byte name)
  more_whites : IsTrue (list_all is_white second)

tag_end-found : (place : Standing) (first name second contents : List ℕ)
    → Begun place first name second → IsContents contents → (text : List ℕ) (o : Option (List ℕ))
    → rest_after 93 (after_run is_white text) ≡ o
    → IsFound place (91 ∷ (first ++ (name ++ (second ++ (34 ∷ (contents ++ (34 ∷ text)))))))
    (option_map (λ rest. (Tag first name second contents (run_of is_white text), rest)) o)
tag_end-found place first name second contents begun spelt text None is = tt
tag_end-found place first name second contents begun spelt text (Some rest) is =
    let parted : text ≡ run_of is_white text ++ (93 ∷ rest) =
    run-append-after is_white text
    ∙ ap (λ xs. run_of is_white text ++ xs) (rest_after-is 93 (after_run is_white text) rest is)
    in (
      ap (λ (xs : List ℕ). 91 ∷ (first ++ (name ++ (second ++ (34 ∷ (contents ++ (34 ∷ xs)))))))
          parted
          ∙ ap (λ (xs : List ℕ). 91
          ∷ xs) (sym (tag_regroup first name second contents (run_of is_white text) rest)),
      (begun.whites, begun.some, begun.names, begun.more_whites, spelt, list_all-run is_white text),
    )

tag_close-found : (place : Standing) (first name second contents : List ℕ)
    → Begun place first name second → IsContents contents → (text : List ℕ) (o : Option (List ℕ))
    → rest_after 34 text ≡ o
    → IsFound place (91 ∷ (first ++ (name ++ (second ++ (34 ∷ (contents ++ text))))))
    (option_and_then (λ rest. tag_end first name second contents rest) o)
tag_close-found place first name second contents begun spelt text None is = tt
tag_close-found place first name second contents begun spelt text (Some rest) is =
    rw (rest_after-is 34 text rest is) (tag_end-found place first name second contents begun spelt
    rest (rest_after 93 (after_run is_white rest)) refl)

tag_contents-found : (place : Standing) (first name second : List ℕ) → Begun place first name second
    → (text : List ℕ) (o : Option (List ℕ × List ℕ)) → IsRead false text o
    → IsFound place (91 ∷ (first ++ (name ++ (second ++ (34 ∷ text)))))
    (option_and_then (λ found.
    option_and_then (λ rest. tag_end first name second found.0 rest) (rest_after 34 found.1)) o)
tag_contents-found place first name second begun text None read = tt
tag_contents-found place first name second begun text (Some found) (spelt, parted) =
    rw parted (tag_close-found place first name second found.0 begun spelt found.1 (rest_after 34
    found.1) refl)

tag_string-found : (place : Standing) (first name second : List ℕ) → Begun place first name second
    → (text : List ℕ) (o : Option (List ℕ)) → rest_after 34 text ≡ o
    → IsFound place (91 ∷ (first ++ (name ++ (second ++ text))))
    (option_and_then (λ after.
    option_and_then (λ found.
    option_and_then (λ rest. tag_end first name second found.0 rest) (rest_after 34 found.1))
    (contents_front false after)) o)
tag_string-found place first name second begun text None is = tt
tag_string-found place first name second begun text (Some after) is =
    rw (rest_after-is 34 text after is) (tag_contents-found place first name second begun after
    (contents_front false after) (contents-sound false after))

tag_name-found : (place : Standing) (first text : List ℕ) → IsTrue (list_all is_white first)
    → IsFound place (91 ∷ (first ++ text)) (tag_name first text)
tag_name-found place first text whites =
    let name : List ℕ = run_of is_name_byte text in
    let rest : List ℕ = after_run is_name_byte text in
    let second : List ℕ = run_of is_white rest in
    let string : List ℕ = after_run is_white rest in
    cond_both (is_empty name) None (tag_string first name second string)
    (IsFound place (91 ∷ (first ++ text)))
    (λ _. tt)
    (λ some. subst (λ xs. IsFound place (91 ∷ (first ++ xs)) (tag_string first name second string))
    (sym (run-append-after is_name_byte text
    ∙ ap (λ xs. name ++ xs) (run-append-after is_white rest)))
    (tag_string-found place first name second
    (record {
      whites = whites;
      some = not_from_false _ some;
      names =
          list_all-run is_name_byte text;
      more_whites = list_all-run is_white rest;
    })
    string (rest_after 34 string) refl))

pub tag-found : (place : Standing) (text : List ℕ) → IsFound place (91 ∷ text) (tag_front text)
tag-found place text =
    rw (← (run-append-after is_white text)) at (tag_name-found place (run_of is_white text)
    (after_run is_white text) (list_all-run is_white text))

glyph-found : (place : Standing) (text : List ℕ) → IsFound place (36 ∷ text) (glyph_front text)
glyph-found place text =
    cond_both (is_glyph (run_of is_digit text))
    (Some (Glyph (run_of is_digit text), after_run is_digit text)) None
    (IsFound place (36 ∷ text))
    (λ is.
    let parts : (not (is_empty (run_of is_digit text)) ≡ true)
    × ((nat_le (length (run_of is_digit text)) 3
    && nat_le (number_of (run_of is_digit text)) 255) ≡ true) = and_parts _ _ is in
    let limits : (nat_le (length (run_of is_digit text)) 3 ≡ true)
    × (nat_le (number_of (run_of is_digit text)) 255 ≡ true) = and_parts _ _ parts.1 in (
      ap (λ (xs : List ℕ). 36 ∷ xs) (run-append-after is_digit text),
      (parts.0, list_all-run is_digit text, limits.0, limits.1, stops-after_run is_digit text),
    ))
    (λ _. tt)

word_found : (place : Standing) (b : ℕ) (rest : List ℕ) → is_word_byte b ≡ true
    → IsFound place (b
    ∷ rest) (Some (Word (run_of is_word_byte (b ∷ rest)), after_run is_word_byte (b ∷ rest)))
word_found place b rest is =
    let some : IsTrue (not (is_empty (run_of is_word_byte (b ∷ rest)))) = rw is refl in (
      run-append-after is_word_byte (b ∷ rest),
      (some, list_all-run is_word_byte (b ∷ rest), stops-after_run is_word_byte (b ∷ rest)),
    )

marks_found : (place : Standing) (b : ℕ) (rest : List ℕ) → is_mark b ≡ true
    → IsFound place (b
    ∷ rest) (Some (Marks (run_of is_mark (b ∷ rest)), after_run is_mark (b ∷ rest)))
marks_found place b rest is =
    let some : IsTrue (not (is_empty (run_of is_mark (b ∷ rest)))) = rw is refl in (
      run-append-after is_mark (b ∷ rest),
      (some, list_all-run is_mark (b ∷ rest), stops-after_run is_mark (b ∷ rest)),
    )

pub game-found : (place : Standing) (text : List ℕ) → IsFound place text (game_front text)
game-found place [] = tt
game-found place (b ∷ rest) =
    cond_both (is_word_byte b) _ _ (IsFound place (b ∷ rest)) (λ e. word_found place b rest e) (λ _.
    cond_both (b == 46) _ _ (IsFound place (b ∷ rest)) (λ e.
    at_byte place b 46 rest (Some (Dot, rest)) e (refl, tt)) (λ _.
    cond_both (b == 36) _ _ (IsFound place (b ∷ rest)) (λ e.
    at_byte place b 36 rest (glyph_front rest) e (glyph-found place rest)) (λ _.
    cond_both (is_mark b) _ _ (IsFound place (b ∷ rest)) (λ e. marks_found place b rest e) (λ _.
    cond_both (b == 40) _ _ (IsFound place (b ∷ rest)) (λ e.
    at_byte place b 40 rest (Some (Open, rest)) e (refl, tt)) (λ _.
    cond_both (b == 41) _ _ (IsFound place (b ∷ rest)) (λ e.
    at_byte place b 41 rest (Some (Close, rest)) e (refl, tt)) (λ _.
    cond_both (b == 42) _ _ (IsFound place (b ∷ rest)) (λ e.
    at_byte place b 42 rest (Some (Star, rest)) e (refl, tt)) (λ _.
    cond_both (b == 91) _ _ (IsFound place (b ∷ rest)) (λ e.
    at_byte place b 91 rest (tag_front rest) e (tag-found place rest)) (λ _.
    tt))))))))

found_either : (place : Standing) (text : List ℕ) (o p : Option (Part × List ℕ))
    → IsFound place text o → IsFound place text p → IsFound place text (option_or o p)
found_either place text None p first second = second
found_either place text (Some found) p first second = first

-- what is read at the front of a text may stand there
pub part-found : (place : Standing) (text : List ℕ) → IsFound place text (part_front place text)
part-found place text =
    found_either place text (gap_front place text) (game_front text) (gap-found place text)
    (game-found place text)

-- a part that is read may stand there
pub read-stands : (place : Standing) (text : List ℕ) (p : Part) (rest : List ℕ)
    → part_front place text ≡ Some (p, rest) → (text ≡ spelled_part p ++ rest) × Stands place p rest
read-stands place text p rest is = subst (IsFound place text) is (part-found place text)

-- at the front of a text a part stands, or none does
or_none : (place : Standing) (text : List ℕ) (o : Option (Part × List ℕ))
    → part_front place text ≡ o
    → ((p : Part) × (rest : List ℕ) × (text ≡ spelled_part p ++ rest) × Stands place p rest)
    ⊎ ((p : Part) (rest : List ℕ) → text ≡ spelled_part p ++ rest → Stands place p rest → ⊥)
or_none place text (Some found) is =
    let stands : (text ≡ spelled_part found.0 ++ found.1) × Stands place found.0 found.1 =
    read-stands place text found.0 found.1 is in
    inl (found.0, found.1, stands.0, stands.1)
or_none place text None is =
    inr (λ p rest parted stands. let read : part_front place text ≡ Some (p, rest) =
    ap (part_front place) parted ∙ stands-read place p rest stands in cc)

pub part_or_none : (place : Standing) (text : List ℕ)
    → ((p : Part) × (rest : List ℕ) × (text ≡ spelled_part p ++ rest) × Stands place p rest)
    ⊎ ((p : Part) (rest : List ℕ) → text ≡ spelled_part p ++ rest → Stands place p rest → ⊥)
part_or_none place text = or_none place text (part_front place text) refl
