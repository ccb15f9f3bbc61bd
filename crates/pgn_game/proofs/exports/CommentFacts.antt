-- Where a comment is cut at white space.
use Rattle.std.proofs.lemmas.Bool.{ne_eqb, both_ways}
use Rattle.pgn_game.proofs.Common.{◌≡◌, ℕ, ◌+◌, ◌-◌, ◌<◌, ◌≤◌, true, false, List, [], ◌∷◌, ◌++◌}
use Rattle.pgn_game.proofs.Common.{length, take, drop, get_or, refl, sym, ap, subst, ◌∙◌, arith}
use Rattle.pgn_game.proofs.Common.{append_assoc, length-append, if◌then◌else◌, ◌==◌, not, filter}
use Rattle.pgn_game.proofs.Common.{take-append_seam, nat_tests, is_white, is_empty, in_first}
use Rattle.pgn_game.proofs.Common.{cut_at_white, words_in, unbraced, later_word, word_front}
use Rattle.pgn_game.proofs.Common.{after_front, after_white, IsAfterBare}
use Rattle.chess.specs.Shared.SetFacts.{false_of}
use Rattle.pgn_game.specs.Private.CommentWords.{IsBare, IsAfterKept}

-- a text is its first run and what follows it
pub front_whole : (text : List ℕ) → word_front text ++ after_front text ≡ text
front_whole [] = refl
front_whole (b ∷ text) =
    elim (is_white b) as (λ t. (if t then [] else b ∷ word_front text)
    ++ (if t then b ∷ text else after_front text) ≡ b ∷ text) [
      | true ↦ refl
      | false ↦ ap (λ rest. b ∷ rest) (front_whole text)
    ]

pub front_length : (text : List ℕ) → length text
    ≡ length (word_front text) + length (after_front text)
front_length text = ap length (sym (front_whole text))
    ∙ length-append (word_front text) (after_front text)

abbrev pub full_ones : List (List ℕ) → List (List ℕ)
full_ones pieces = filter (λ piece. not (is_empty piece)) pieces

-- what a text is cut into after its first run
abbrev pub cut_after : List ℕ → List (List ℕ)
cut_after [] = []
cut_after (b ∷ text) = cut_at_white text

pub cut_by_front : (text : List ℕ)
    → cut_at_white text ≡ word_front text ∷ cut_after (after_front text)
cut_by_front [] = refl
cut_by_front (b ∷ text) =
    elim (is_white b) as (λ t.
    (if t then [] ∷ cut_at_white text else in_first b (cut_at_white text))
    ≡ (if t then [] else b ∷ word_front text)
    ∷ cut_after (if t then b ∷ text else after_front text)) [
      | true ↦ refl
      | false ↦ ap (in_first b) (cut_by_front text)
    ]

words_after : (text : List ℕ) → full_ones (cut_after (after_front text))
    ≡ words_in (after_front text)
words_after [] = refl
words_after (b ∷ text) =
    elim (is_white b) as (λ t. is_white b ≡ t
    → full_ones (cut_after (if t then b ∷ text else after_front text))
    ≡ words_in (if t then b ∷ text else after_front text)) [
      | true ↦ λ e. sym
          (ap (λ t. full_ones (if t then [] ∷ cut_at_white text
          else in_first b (cut_at_white text))) e)
      | false ↦ λ e. words_after text
    ] refl

-- a text that begins with a byte of a word: the first word, and the words of what follows it
pub words_of_front : (b : ℕ) (text : List ℕ) → is_white b ≡ false
    → words_in (b ∷ text) ≡ word_front (b ∷ text) ∷ words_in (after_front (b ∷ text))
words_of_front b text other =
    let first : word_front (b ∷ text) ≡ b ∷ word_front text =
    ap (λ t. if t then [] else b ∷ word_front text) other in
    ap full_ones (cut_by_front (b ∷ text))
    ∙ ap (λ front. full_ones (front ∷ cut_after (after_front (b ∷ text)))) first
    ∙ ap (λ rest. (b ∷ word_front text) ∷ rest) (words_after (b ∷ text))
    ∙ ap (λ front. front ∷ words_in (after_front (b ∷ text))) (sym first)

shorter_after : (b : ℕ) (text : List ℕ) → is_white b ≡ false
    → length (after_front (b ∷ text)) < length (b ∷ text)
shorter_after b text other =
    let first : length (word_front (b ∷ text)) ≡ length (b ∷ word_front text) =
    ap (λ t. length (if t then [] else b ∷ word_front text)) other in
    let whole = front_length (b ∷ text) in
    let long : length (b ∷ word_front text) ≡ length (word_front text) + 1 = omega arith in
    omega arith

-- white space before the first word changes nothing
pub words_after_white : (text : List ℕ) → words_in text ≡ words_in (after_white text)
words_after_white [] = refl
words_after_white (b ∷ text) =
    elim (is_white b) as (λ t. is_white b ≡ t
    → words_in (b ∷ text) ≡ words_in (if t then after_white text else b ∷ text)) [
      | true ↦ λ e. ap (λ t.
          full_ones (if t then [] ∷ cut_at_white text else in_first b (cut_at_white text))) e
          ∙ words_after_white text
      | false ↦ λ e. refl
    ] refl

no_longer : (text : List ℕ) → length (after_white text) ≤ length text
no_longer [] = omega arith
no_longer (b ∷ text) =
    let long : length (b ∷ text) ≡ length text + 1 = omega arith in
    let less = no_longer text in
    elim (is_white b) as (λ t. length (if t then after_white text else b ∷ text)
    ≤ length (b ∷ text)) [
      | true ↦ omega arith
      | false ↦ omega arith
    ]

-- what is left after white space begins with none
begins_word : (text : List ℕ) (b : ℕ) (rest : List ℕ) → after_white text ≡ b ∷ rest
    → is_white b ≡ false
begins_word [] b rest e = let none : [] ≡ b ∷ rest = e in cc
begins_word (a ∷ text) b rest e =
    elim (is_white a) as (λ t. is_white a ≡ t
    → (if t then after_white text else a ∷ text) ≡ b ∷ rest → is_white b ≡ false) [
      | true ↦ λ same f. begins_word text b rest f
      | false ↦ λ other f. let head : a ≡ b = cc in ap is_white (sym head) ∙ other
    ] refl e

-- a text whose white space at its front was taken off: without words, or the first word and what
-- follows it
pub full : (text : List ℕ) → (length text == 0) ≡ false → text ≡ [] → ⊥
full text some none = both_ways (length text == 0) some (ap (λ t. length t == 0) none)

pub no_word : (text : List ℕ) → after_white text ≡ [] → [] ≡ words_in text
no_word text none = sym (words_after_white text ∙ ap words_in none)

pub some_word : (text rest : List ℕ) → rest ≡ after_white text → (rest ≡ [] → ⊥)
    → (word_front rest ∷ words_in (after_front rest) ≡ words_in text)
    × (length (after_front rest) < length text)
some_word text [] e full = absurd (full refl)
some_word text (b ∷ rest) e full =
    let other = begins_word text b rest (sym e) in
    let short = shorter_after b rest other in
    let size : length (b ∷ rest) ≡ length (after_white text) = ap length e in
    let less = no_longer text in
    (sym (words_after_white text ∙ ap words_in (sym e) ∙ words_of_front b rest other), omega arith)

-- texts without closing braces, one after another
pub bare_both : (x y : List ℕ) → IsBare x → IsBare y → IsBare (x ++ y)
bare_both [] y first second = second
bare_both (b ∷ x) y first second =
    let here : (if b == 125 then 41 else b) ≡ b = ap (λ text. get_or text 0 0) first in
    ap (λ a. a ∷ unbraced (x ++ y)) here
    ∙ ap (λ rest. b ∷ rest) (bare_both x y (ap (drop 1) first) second)

bare_byte : (b : ℕ) → (b ≡ 125 → ⊥) → IsBare (b ∷ [])
bare_byte b other = ap (λ t. (if t then 41 else b) ∷ []) (ne_eqb b 125 other)

no_white : (b : ℕ) → 32 < b → is_white b ≡ false
no_white b high = grind (arith, nat_tests)

pub bare_next : (text rest : List ℕ) (b : ℕ) (after : List ℕ) → rest ≡ b ∷ after → 32 < b
    → (b ≡ 125 → ⊥) → IsAfterBare text rest → IsAfterBare text after
bare_next text rest b after cut high other kept = record {
  front = kept.front ++ b ∷ [];
  whole = kept.whole ∙ ap (λ x. kept.front ++ x) cut ∙ sym (append_assoc kept.front (b ∷ []) after);
  bare = bare_both kept.front (b ∷ []) kept.bare (bare_byte b other);
  same = sym (ap (λ t. if t then b ∷ after else after_front after) (no_white b high))
      ∙ sym (ap after_front cut) ∙ kept.same;
}

-- what stands before it
pub bare_word : (text left : List ℕ) (size : ℕ) → IsAfterBare text left → size ≡ length left
    → IsBare (take (length text - size) text)
bare_word text left size kept same =
    let whole : length text ≡ length (kept.front ++ left) = ap length kept.whole in
    let at : length text - size ≡ length kept.front =
    omega (arith, whole, length-append kept.front left, same) in
    let word : take (length text - size) text ≡ kept.front =
    ap (λ n. take n text) at ∙ ap (take (length kept.front)) kept.whole
    ∙ take-append_seam kept.front left in
    subst IsBare (sym word) kept.bare

-- a text that begins with a word which is written as it is
words_at : (text : List ℕ) → (word_front text ≡ [] → ⊥)
    → words_in text ≡ word_front text ∷ words_in (after_front text)
words_at [] full = absurd (full refl)
words_at (b ∷ text) full =
    words_of_front b text
    (false_of (is_white b) (λ white. full (ap (λ t. if t then [] else b ∷ word_front text) white)))

pub kept_word : (text word rest : List ℕ) → word ≡ word_front text → rest ≡ after_front text
    → (word ≡ [] → ⊥) → IsBare word → later_word word ≡ unbraced word → IsAfterKept text rest
kept_word text word rest front after full bare later = record {
  word = word;
  whole = sym (front_whole text) ∙ ap (λ w. w ++ after_front text) (sym front)
      ∙ ap (λ r. word ++ r) (sym after);
  words = words_at text (λ none. full (front ∙ none))
      ∙ ap (λ w. w ∷ words_in (after_front text)) (sym front)
      ∙ ap (λ r. word ∷ words_in r) (sym after);
  bare = bare;
  later = later ∙ bare;
}
