-- The words of a condition on the moves, one after the other, and the word of one on the move about
-- a position.
use Rattle.std.proofs.Common.{◌≡◌, ◌≢◌, ◌<◌, ℕ, true, false, List, [], ◌∷◌, ◌++◌, length, refl, sym}
use Rattle.std.proofs.Common.{ap, ◌∙◌, subst, inl, inr, append-nil, arith, length-append}
use Rattle.std.specs.Prelude.{◌⊎◌, ◌≤◌, ◌+◌}
use Rattle.pgn_criteria.proofs.Common.{codes, ◌||◌, ◌==◌, if◌then◌else◌, list_all, nat_tests}
use Rattle.pgn_criteria.proofs.Common.{is_blank, run_of, after_run, after_blanks, after_word}
use Rattle.pgn_criteria.proofs.Common.{is_move_byte, IsMoveWord, IsMoveLike, AreMoveWords, a_word}
use Rattle.pgn_criteria.proofs.Common.{and_words, SpellsGame, SpellsMove, Moves, Next, Played}
use Rattle.pgn_criteria.proofs.WordFacts.{run_whole}
use Rattle.pgn_criteria.proofs.SolidFacts.{is_solid, AreSolid, BeginsSolid, EndsSolid, all_solid}
use Rattle.pgn_criteria.proofs.SolidFacts.{solid_begins, solid_ends, begins_front, begins_some}
use Rattle.pgn_criteria.proofs.SolidFacts.{ends_after, word_alone, word_read, word_spelled}

move_byte_solid : (b : ℕ) → is_move_byte b ≡ true → is_solid b ≡ true
move_byte_solid b is = grind (arith, nat_tests)

pub word_solid : (word : List ℕ) → IsMoveWord word → AreSolid word
word_solid word (inl star) = ap (list_all is_solid) star
word_solid word (inr (long, short, each)) = all_solid is_move_byte move_byte_solid word each

pub word_some : (word : List ℕ) → IsMoveWord word → word ≢ []
word_some word (inl star) none = let clash : codes "*" ≡ [] = sym star ∙ none in cc
word_some word (inr (long, short, each)) none = let clash : 2 ≤ 0 =
    subst (λ x. 2 ≤ length x) none long in absurd (omega arith)

pub words_begin : (words : List ℕ) → AreMoveWords words → BeginsSolid words
words_begin words (a_word word is) = solid_begins word (word_some word is) (word_solid word is)
words_begin words (and_words word gap more is g are) =
    begins_front word (gap ++ more) (solid_begins word (word_some word is) (word_solid word is))

pub words_end : (words : List ℕ) → AreMoveWords words → EndsSolid words
words_end words (a_word word is) = solid_ends word (word_some word is) (word_solid word is)
words_end words (and_words word gap more is g are) =
    ends_after word (gap ++ more) (ends_after gap more (words_end more are))

-- the first word, and the words after it
pub words_read : (x : List ℕ) → AreMoveWords x
    → IsMoveWord (run_of x) × ((after_run x ≡ []) ⊎ AreMoveWords (after_word x))
words_read x (a_word word is) =
    let alone = word_alone word (word_solid word is) in
    (subst IsMoveWord (sym alone.0) is, inl alone.1)
words_read x (and_words word gap more is g are) =
    let read = word_read (word ++ (gap ++ more)) word gap more refl (word_solid word is) g
    (words_begin more are) in
    (subst IsMoveWord (sym read.0) is, inr (subst AreMoveWords (sym read.1) are))

pub last_word : (x : List ℕ) → IsMoveWord (run_of x) → after_run x ≡ [] → AreMoveWords x
last_word x is none =
    subst AreMoveWords (sym (append-nil (run_of x)) ∙ ap (λ rest. run_of x ++ rest) (sym none)
    ∙ run_whole x) (a_word (run_of x) is)

pub first_word : (x : List ℕ) → IsMoveWord (run_of x) → AreMoveWords (after_word x) → AreMoveWords x
first_word x is are =
    let spelled = word_spelled x (run_of x) (after_word x) refl refl
    (begins_some (after_word x) (words_begin (after_word x) are)) in
    subst AreMoveWords (sym spelled.1)
    (and_words (run_of x) spelled.0 (after_word x) is spelled.2 are)

-- no words follow blanks at the end
pub words_left : (x : List ℕ) → AreMoveWords x → after_run x ≢ [] → AreMoveWords (after_word x)
words_left x are some =
    elim ((words_read x are).1) [ inl none ↦ absurd (some none) | inr more ↦ more ]

after_shorter : (x : List ℕ) → length (after_blanks x) ≤ length x
after_shorter [] = omega arith
after_shorter (b ∷ x) =
    elim (is_blank b) as (λ t. length (if t then after_blanks x else b ∷ x) ≤ length (b ∷ x)) [
      | true ↦ let less : length (after_blanks x) ≤ length x = after_shorter x in
          let size : length (b ∷ x) ≡ length x + 1 = omega arith in omega arith
      | false ↦ omega arith
    ]

some_length : (x : List ℕ) → x ≢ [] → 1 ≤ length x
some_length [] some = absurd (some refl)
some_length (b ∷ x) some = omega arith

pub words_shorter : (x : List ℕ) → IsMoveWord (run_of x) → length (after_word x) < length x
words_shorter x is =
    let less : length (after_word x) ≤ length (after_run x) = after_shorter (after_run x) in
    let some : 1 ≤ length (run_of x) = some_length (run_of x) (word_some (run_of x) is) in
    let whole : length x ≡ length (run_of x) + length (after_run x) =
    ap length (sym (run_whole x)) ∙ length-append (run_of x) (after_run x) in
    omega arith

-- the condition: what spells it is read as it, and the other way round
pub moves_read : (text words : List ℕ) → SpellsGame text (Moves words)
    → (run_of text ≡ codes "moves") × (after_word text ≡ words)
moves_read text words ((gap, is, g), are) =
    word_read text (codes "moves") gap words is refl g (words_begin words are)

pub moves_spelled : (text words : List ℕ) → run_of text ≡ codes "moves" → words ≡ after_word text
    → AreMoveWords words → SpellsGame text (Moves words)
moves_spelled text words run after are =
    let spelled = word_spelled text (codes "moves") words run (sym after)
    (begins_some words (words_begin words are)) in
    (spelled, are)

-- a word for moves that are alike
like_byte_solid : (b : ℕ) → (is_move_byte b || b == 42) ≡ true → is_solid b ≡ true
like_byte_solid b is = grind (arith, nat_tests)

like_solid : (word : List ℕ) → IsMoveLike word → AreSolid word
like_solid word (long, short, each) =
    all_solid (λ b. is_move_byte b || b == 42) like_byte_solid word each

like_some : (word : List ℕ) → IsMoveLike word → word ≢ []
like_some word (long, short, each) none = let clash : 1 ≤ 0 = subst (λ x. 1 ≤ length x) none long in
    absurd (omega arith)

like_begins : (word : List ℕ) → IsMoveLike word → BeginsSolid word
like_begins word is = solid_begins word (like_some word is) (like_solid word is)

pub like_ends : (word : List ℕ) → IsMoveLike word → EndsSolid word
like_ends word is = solid_ends word (like_some word is) (like_solid word is)

-- the conditions with such a word: what spells one is read as it, and the other way round
pub next_read : (text word : List ℕ) → SpellsMove text (Next word)
    → (run_of text ≡ codes "next") × (after_word text ≡ word)
next_read text word ((gap, is, g), like) =
    word_read text (codes "next") gap word is refl g (like_begins word like)

pub next_spelled : (text word : List ℕ) → run_of text ≡ codes "next" → word ≡ after_word text
    → IsMoveLike word → SpellsMove text (Next word)
next_spelled text word run after like =
    let spelled = word_spelled text (codes "next") word run (sym after) (like_some word like) in
    (spelled, like)

pub played_read : (text word : List ℕ) → SpellsMove text (Played word)
    → (run_of text ≡ codes "played") × (after_word text ≡ word)
played_read text word ((gap, is, g), like) =
    word_read text (codes "played") gap word is refl g (like_begins word like)

pub played_spelled : (text word : List ℕ) → run_of text ≡ codes "played" → word ≡ after_word text
    → IsMoveLike word → SpellsMove text (Played word)
played_spelled text word run after like =
    let spelled = word_spelled text (codes "played") word run (sym after) (like_some word like) in
    (spelled, like)
