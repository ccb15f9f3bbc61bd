-- Commands of comments: how their words are one token.
use Rattle.std.specs.Prelude.{◌&&◌, Option, Some, None}
use Rattle.pgn_game.proofs.Common.{◌≡◌, ℕ, ◌<◌, ◌≤◌, Bool, true, false, List, [], ◌∷◌, ◌++◌, length}
use Rattle.pgn_game.proofs.Common.{map, refl, sym, ap, ◌∙◌, append_assoc, append-nil, arith}
use Rattle.pgn_game.proofs.Common.{if◌then◌else◌, ◌==◌, ◌||◌, not, is_some, IfSome, nat_tests}
use Rattle.pgn_game.proofs.Common.{is_white, is_empty, begins, in_first, words_in, has_bracket}
use Rattle.pgn_game.proofs.Common.{leaves_open, in_command, cut_at_white, later_word}
use Rattle.pgn_game.proofs.Common.{begins_command, comment_tokens, unbraced, closed, braced, closes}
use Rattle.pgn_game.proofs.Common.{ties, in_front, tied, joined, word_front, after_front}
use Rattle.pgn_game.proofs.Common.{found_words, found_size, closing, tied_words}
use Rattle.pgn_game.specs.declared.exports.comment.Found.{Found}
use Rattle.pgn_game.proofs.exports.CommentFacts.{words_of_front, full_ones}

-- ---- tokens that are tied

-- tokens as one text are the same, tied or not
joined_before : (tie : Bool) (token : List ℕ) (tokens : List (List ℕ))
    → joined (in_front tie token tokens) ≡ joined (token ∷ tokens)
joined_before tie token [] = refl
joined_before true token (next ∷ []) = refl
joined_before true token (next ∷ other ∷ more) =
    append_assoc token (32 ∷ next) (32 ∷ joined (other ∷ more))
joined_before false token (next ∷ more) = refl

joined_between : (first : List ℕ) (tie : Bool) (token : List ℕ) (tokens : List (List ℕ))
    → joined (first ∷ in_front tie token tokens) ≡ joined (first ∷ token ∷ tokens)
joined_between first tie token [] = refl
joined_between first true token (next ∷ more) =
    ap (λ rest. first ++ 32 ∷ rest) (joined_before true token (next ∷ more))
joined_between first false token (next ∷ more) = refl

joined_after : (first : List ℕ) (flags : List Bool) (tokens : List (List ℕ))
    → joined (first ∷ tied flags tokens) ≡ joined (first ∷ tokens)
joined_after first [] tokens = refl
joined_after first (tie ∷ flags) [] = refl
joined_after first (tie ∷ flags) (token ∷ tokens) =
    joined_between first tie token (tied flags tokens)
    ∙ ap (λ rest. first ++ 32 ∷ rest) (joined_after token flags tokens)

joined_tied : (flags : List Bool) (tokens : List (List ℕ))
    → joined (tied flags tokens) ≡ joined tokens
joined_tied [] tokens = refl
joined_tied (tie ∷ flags) [] = refl
joined_tied (tie ∷ flags) (token ∷ tokens) =
    joined_before tie token (tied flags tokens) ∙ joined_after token flags tokens

-- a comment as one text is the same, whether commands are kept whole or not
pub joined_comment : (commands : Bool) (text : List ℕ)
    → joined (comment_tokens commands text) ≡ joined (comment_tokens false text)
joined_comment commands text =
    joined_tied (if commands then ties false (words_in text) else []) (comment_tokens false text)

-- a token before tokens, of which the first is tied to it
before_both : (token : List ℕ) (tie : Bool) (next : List ℕ) (more : List (List ℕ))
    → in_front true token (in_front tie next more) ≡ in_front tie (token ++ 32 ∷ next) more
before_both token tie next [] = refl
before_both token true next (other ∷ more) =
    ap (λ whole. whole ∷ more) (sym (append_assoc token (32 ∷ next) (32 ∷ other)))
before_both token false next (other ∷ more) = refl

-- the first token and the words after it
pub tied_head : (token : List ℕ) (tie : Bool) (words : List (List ℕ))
    → tied (tie ∷ ties tie words) (closed (token ∷ map later_word words))
    ≡ in_front tie (token ++ closing (is_empty words)) (tied_words tie words)
tied_head token tie [] = refl
tied_head token tie (word ∷ more) =
    ap (λ first. in_front tie first (tied_words tie (word ∷ more))) (sym (append-nil token))

pub tied_step : (token word : List ℕ) (words : List (List ℕ)) (tie : Bool)
    → tie ≡ in_command true word (joined words)
    → in_front true token (tied_words true (word ∷ words))
    ≡ in_front tie (token ++ 32 ∷ (later_word word ++ closing (is_empty words)))
    (tied_words tie words)
tied_step token word words tie is =
    ap (λ t.
    in_front true token
    (tied (t ∷ ties t words) (closed (later_word word ∷ map later_word words)))) (sym is)
    ∙ ap (in_front true token) (tied_head (later_word word) tie words)
    ∙ before_both token tie (later_word word ++ closing (is_empty words)) (tied_words tie words)

none_left : (next : Option Found) (is_last : Bool) → is_some next ≡ not is_last
    → is_last ≡ is_empty (found_words next)
none_left None true is = refl
none_left None false is = absurd (cc)
none_left (Some found) true is = absurd (cc)
none_left (Some found) false is = refl

-- what a word is written as, and the words tied to a token after one more of them
pub word_end : (word front bare : List ℕ) (next : Option Found) (words : List (List ℕ))
    (is_last : Bool) → later_word word ≡ front ++ bare → is_some next ≡ not is_last
    → found_words next ≡ words → front ++ bare ++ closing is_last
    ≡ later_word word ++ closing (is_empty words)
word_end word front bare next words is_last later last found =
    ap (λ text. text ++ closing is_last) (sym later)
    ∙ ap (λ b. later_word word ++ closing b) (none_left next is_last last ∙ ap is_empty found)

pub tied_on : (token some word text : List ℕ) (words left : List (List ℕ)) (tie : Bool)
    → tie ≡ in_command true word (joined words)
    → text ≡ later_word word ++ closing (is_empty words) → left ≡ words
    → in_front true (token ++ some) (tied_words true (word ∷ words))
    ≡ in_front tie (token ++ (some ++ 32 ∷ text)) (tied_words tie left)
tied_on token some word text words left tie is written found =
    tied_step (token ++ some) word words tie is
    ∙ ap (λ t. in_front tie ((token ++ some) ++ 32 ∷ t) (tied_words tie words)) (sym written)
    ∙ ap (λ t. in_front tie t (tied_words tie words)) (append_assoc token some (32 ∷ text))
    ∙ ap (λ ws. in_front tie (token ++ (some ++ 32 ∷ text)) (tied_words tie ws)) (sym found)

pub size_after : (next : Option Found) (n : ℕ) → IfSome next (λ found. length found.rest.now < n)
    → found_size next ≤ n
size_after None n short = omega arith
size_after (Some found) n short = omega (arith, short)

-- the token that a word begins, where the words after it were found
pub tied_all : (inside is_last : Bool) (word : List ℕ) (next : Option Found)
    (words all : List (List ℕ)) → is_some next ≡ not is_last → found_words next ≡ words
    → in_front inside (word ++ closing is_last) (tied_words inside (found_words next)) ≡ all
    → in_front inside (word ++ closing (is_empty words)) (tied_words inside words) ≡ all
tied_all inside is_last word next words all last found is =
    ap (λ b. in_front inside (word ++ closing b) (tied_words inside words))
    (sym (none_left next is_last last ∙ ap is_empty found))
    ∙ ap (λ ws. in_front inside (word ++ closing is_last) (tied_words inside ws)) (sym found) ∙ is

-- words after the first one, and all of a comment: a token, and those that are left
pub words_left : (word front bare : List ℕ) (words : List (List ℕ)) (inside : Bool)
    (all : List (List ℕ)) → inside ≡ in_command false word (joined words)
    → later_word word ≡ front ++ bare
    → in_front inside (front ++ bare ++ closing (is_empty words)) (tied_words inside words) ≡ all
    → tied_words false (word ∷ words) ≡ all
words_left word front bare words inside all is later first =
    ap (λ t. tied (t ∷ ties t words) (closed (later_word word ∷ map later_word words))) (sym is)
    ∙ tied_head (later_word word) inside words
    ∙ ap (λ t. in_front inside (t ++ closing (is_empty words)) (tied_words inside words)) later
    ∙ first

pub whole_comment : (text word : List ℕ) (words : List (List ℕ)) (inside : Bool)
    (all : List (List ℕ)) → word ∷ words ≡ words_in text
    → inside ≡ in_command false word (joined words)
    → in_front inside ((123 ∷ []) ++ unbraced word
    ++ closing (is_empty words)) (tied_words inside words) ≡ all → comment_tokens true text ≡ all
whole_comment text word words inside all found is first =
    ap (λ ws. tied (ties false ws) (braced ws)) (sym found)
    ∙ ap (λ t. tied (t ∷ ties t words) (closed ((123 ∷ unbraced word) ∷ map later_word words)))
    (sym is) ∙ tied_head (123 ∷ unbraced word) inside words ∙ first

-- ---- where a command is closed

other_byte : (b n : ℕ) → is_white b ≡ true → 32 < n → (b == n) ≡ false
other_byte b n white above = grind (arith, nat_tests)

closes_white : (b : ℕ) (text : List ℕ) → is_white b ≡ true → closes (b ∷ text) ≡ closes text
closes_white b text white =
    ap (λ t. t || (not (b == 91 && begins (λ c. c == 37) text) && closes text))
    (other_byte b 93 white (omega arith))
    ∙ ap (λ t. not (t && begins (λ c. c == 37) text)
    && closes text) (other_byte b 91 white (omega arith))

-- words after a first one, as text
abbrev more_text : List (List ℕ) → List ℕ
more_text [] = []
more_text (word ∷ words) = 32 ∷ joined (word ∷ words)

joined_more : (word : List ℕ) (words : List (List ℕ))
    → joined (word ∷ words) ≡ word ++ more_text words
joined_more word [] = sym (append-nil word)
joined_more word (next ∷ more) = refl

closes_more : (words : List (List ℕ)) → closes (more_text words) ≡ closes (joined words)
closes_more [] = refl
closes_more (word ∷ words) = refl

begins_more : (words : List (List ℕ)) → begins (λ c. c == 37) (more_text words) ≡ false
begins_more [] = refl
begins_more (word ∷ words) = refl

-- a text with its words parted by one space each
abbrev front_text : List ℕ → List ℕ
front_text text = word_front text ++ more_text (words_in (after_front text))

begins_front : (text : List ℕ) → begins (λ c. c == 37) (front_text text)
    ≡ begins (λ c. c == 37) text
begins_front [] = refl
begins_front (b ∷ text) =
    elim (is_white b) as (λ t. is_white b ≡ t
    → begins (λ c. c == 37) ((if t then [] else b ∷ word_front text)
    ++ more_text (words_in (if t then b ∷ text else after_front text))) ≡ (b == 37)) [
      | true ↦ λ white. begins_more (words_in (b ∷ text))
          ∙ sym (other_byte b 37 white (omega arith))
      | false ↦ λ other. refl
    ] refl

white_words : (b : ℕ) (text : List ℕ) → is_white b ≡ true → words_in (b ∷ text) ≡ words_in text
white_words b text white =
    ap (λ t. full_ones (if t then [] ∷ cut_at_white text else in_first b (cut_at_white text))) white

closes_both : (text : List ℕ) → (closes (joined (words_in text)) ≡ closes text)
    × (closes (front_text text) ≡ closes text)
closes_both [] = (refl, refl)
closes_both (b ∷ text) = by (is_white b) refl (closes_both text)
  where
    by : (t : Bool) → is_white b ≡ t → (closes (joined (words_in text)) ≡ closes text)
        × (closes (front_text text) ≡ closes text)
        → (closes (joined (words_in (b ∷ text))) ≡ closes (b ∷ text))
        × (closes (front_text (b ∷ text)) ≡ closes (b ∷ text))
    by true white more =
        let words : closes (joined (words_in (b ∷ text))) ≡ closes (b ∷ text) =
        ap (λ ws. closes (joined ws)) (white_words b text white) ∙ more.0
        ∙ sym (closes_white b text white) in (
          words,
          ap (λ t. closes ((if t then [] else b ∷ word_front text)
              ++ more_text (words_in (if t then b ∷ text else after_front text)))) white
              ∙ closes_more (words_in (b ∷ text)) ∙ words,
        )
    by false other more =
        let front : closes (front_text (b ∷ text)) ≡ closes (b ∷ text) =
        ap (λ t. closes ((if t then [] else b ∷ word_front text)
        ++ more_text (words_in (if t then b ∷ text else after_front text)))) other
        ∙ ap (λ t. b == 93 || (not (b == 91 && t) && closes (front_text text))) (begins_front text)
        ∙ ap (λ t. b == 93 || (not (b == 91 && begins (λ c. c == 37) text) && t)) more.1 in (
          ap (λ ws. closes (joined ws)) (words_of_front b text other)
              ∙ ap closes (joined_more (word_front (b ∷ text)) (words_in (after_front (b ∷ text))))
              ∙ front,
          front,
        )

pub closes_words : (text : List ℕ) → closes (joined (words_in text)) ≡ closes text
closes_words text = (closes_both text).0

-- ---- where a word leaves a command open

-- one more byte: whether it begins a command, whether one is open in front of it, whether it is a
-- bracket, whether one stands after it, and
-- whether what follows leaves one open
pub open_step : (begun held bracket later left : Bool)
    → (left || ((begun || (held && not bracket)) && not later))
    ≡ (((begun && not later) || left) || (held && not (bracket || later)))
open_step true true true true left = refl
open_step begun held bracket later left = grind arith

pub open_next : (text rest : List ℕ) (b : ℕ) (after : List ℕ) (held begun : Bool) → rest ≡ b ∷ after
    → begun ≡ begins_command rest
    → (leaves_open rest || (held && not (has_bracket rest))) ≡ leaves_open text
    → (leaves_open after || ((begun || (held && not (b == 93))) && not (has_bracket after)))
    ≡ leaves_open text
open_next text rest b after held begun cut is kept =
    ap (λ t. leaves_open after || ((t || (held && not (b == 93))) && not (has_bracket after))) (is
    ∙ ap begins_command cut)
    ∙ open_step (begins_command (b ∷ after)) held (b == 93) (has_bracket after) (leaves_open after)
    ∙ ap (λ x. leaves_open x || (held && not (has_bracket x))) (sym cut) ∙ kept
