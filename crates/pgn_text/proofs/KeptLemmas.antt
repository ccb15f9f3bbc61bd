-- What a game keeps of a part says what the part does.
use Rattle.std.specs.Prelude.{Some, None, codes, bytes_eq, nat_eq, ◌&&◌, if◌then◌else◌, IsTrue}
use Rattle.std.proofs.lemmas.Bool.{or_cases, or_left, or_from, and_parts, and_left, and_right}
use Rattle.pgn_text.proofs.Common.{◌≡◌, ℕ, Bool, true, false, List, [], ◌∷◌, ◌++◌, refl, sym, ap}
use Rattle.pgn_text.proofs.Common.{◌∙◌, inl, inr, append-nil, arith, nat_tests, list_all}
use Rattle.pgn_text.proofs.Common.{starts_with, flat_map-append, is_digit, is_letter, begins, Part}
use Rattle.pgn_text.proofs.Common.{Word, is_move_text, is_number, is_result_word, is_result}
use Rattle.pgn_text.proofs.Common.{MoveText, items_of_part, items_of, Kept, kept, kept_word}
use Rattle.pgn_text.proofs.Common.{step_kept, KeptMove, KeptStray, is_kept_result, items_of_kept}
use Rattle.pgn_text.proofs.Common.{KeptNumber, KeptResult, State, step, in_movetext}
use Rattle.pgn_text.proofs.TagLemmas.{bytes_eq-same}

-- a word that begins with a letter is move text
letter_moves : (word : List ℕ) → begins is_letter word ≡ true → is_move_text word ≡ true
letter_moves word letter = or_left _ _ (or_left _ _ letter)

-- a digit is no dash
digit_no_dash : (b : ℕ) → is_digit b ≡ true → nat_eq 45 b ≡ false
digit_no_dash b digit = grind (arith, nat_tests)

dash_no_digit : (b : ℕ) → is_digit b ≡ true → nat_eq b 45 ≡ false
dash_no_digit b digit = grind (arith, nat_tests)

-- digits are no castling: its second byte is a dash
short_no_castling : (word : List ℕ) → IsTrue (list_all is_digit word)
    → starts_with nat_eq word (codes "0-0") ≡ false
short_no_castling [] digits = refl
short_no_castling (a ∷ []) digits = and_right _ _ refl
short_no_castling (a ∷ b ∷ more) digits =
    let parts : (is_digit a ≡ true) × ((is_digit b && list_all is_digit more) ≡ true) =
    and_parts _ _ digits in
    let second : (is_digit b ≡ true) × (list_all is_digit more ≡ true) = and_parts _ _ parts.1 in
    and_right _ _ (and_left _ _ (digit_no_dash b second.0))

long_no_castling : (word : List ℕ) → IsTrue (list_all is_digit word)
    → starts_with nat_eq word (codes "0-0-0") ≡ false
long_no_castling [] digits = refl
long_no_castling (a ∷ []) digits = and_right _ _ refl
long_no_castling (a ∷ b ∷ more) digits =
    let parts : (is_digit a ≡ true) × ((is_digit b && list_all is_digit more) ≡ true) =
    and_parts _ _ digits in
    let second : (is_digit b ≡ true) × (list_all is_digit more ≡ true) = and_parts _ _ parts.1 in
    and_right _ _ (and_left _ _ (digit_no_dash b second.0))

no_dashes : (word : List ℕ) → IsTrue (list_all is_digit word) → bytes_eq word (codes "--") ≡ false
no_dashes [] digits = refl
no_dashes (a ∷ more) digits =
    let parts : (is_digit a ≡ true) × (list_all is_digit more ≡ true) = and_parts _ _ digits in
    and_left _ _ (dash_no_digit a parts.0)

-- a number is no move text, if it does not begin with a letter
number_stays : (word : List ℕ) → begins is_letter word ≡ false → is_number word ≡ true
    → is_move_text word ≡ false
number_stays word no_letter number =
    let digits : list_all is_digit word ≡ true = (and_parts _ _ number).1 in
    or_from _ _
    (or_from _ _ no_letter
    (or_from _ _ (and_left _ _ (long_no_castling word digits))
    (and_left _ _ (short_no_castling word digits)))) (no_dashes word digits)

word_go : (word : List ℕ) (P : Bool → Bool → Kept → Type 0)
    → ((v : Bool) → P true v (KeptMove word)) → P false true KeptNumber
    → (is_result_word word ≡ true → P false false KeptResult)
    → (is_result_word word ≡ false → P false false KeptStray)
    → (letter number moves result : Bool) → begins is_letter word ≡ letter → is_number word ≡ number
    → is_move_text word ≡ moves → is_result_word word ≡ result
    → P moves number (if letter then KeptMove word
    else (if number then KeptNumber
    else (if moves then KeptMove word else (if result then KeptResult else KeptStray))))
word_go word P move number result stray true n true r e f g h = move n
word_go word P move number result stray true n false r e f g h =
    let yes : is_move_text word ≡ true = letter_moves word e in absurd (cc)
word_go word P move number result stray false true true r e f g h =
    let no : is_move_text word ≡ false = number_stays word e f in absurd (cc)
word_go word P move number result stray false true false r e f g h = number
word_go word P move number result stray false false true r e f g h = move false
word_go word P move number result stray false false false true e f g h = result h
word_go word P move number result stray false false false false e f g h = stray h

-- what holds of each of the four kinds of words holds of a word
word_kind : (word : List ℕ) (P : Bool → Bool → Kept → Type 0)
    → ((v : Bool) → P true v (KeptMove word)) → P false true KeptNumber
    → (is_result_word word ≡ true → P false false KeptResult)
    → (is_result_word word ≡ false → P false false KeptStray)
    → P (is_move_text word) (is_number word) (kept_word word)
word_kind word P move number result stray =
    word_go word P move number result stray (begins is_letter word) (is_number word)
    (is_move_text word) (is_result_word word) refl refl refl refl

-- a result is neither move text nor a number
result_kind : (word : List ℕ) → is_result_word word ≡ true → kept_word word ≡ KeptResult
result_kind word is =
    elim (or_cases _ _ is) [
      | inl either ↦ elim (or_cases _ _ either) [
        | inl first ↦ rw (bytes_eq-same word (codes "1-0") first) refl
        | inr second ↦ rw (bytes_eq-same word (codes "0-1") second) refl
      ]
      | inr third ↦ rw (bytes_eq-same word (codes "1/2-1/2") third) refl
    ]

result-word : (word : List ℕ) (v : Bool) → is_result_word word ≡ v
    → is_kept_result (kept_word word) ≡ v
result-word word true is = ap is_kept_result (result_kind word is)
result-word word false is =
    word_kind word (λ a b k. is_kept_result k
    ≡ false) (λ _. refl) refl (λ yes. absurd (cc)) (λ _. refl)

pub is_result-kept : (p : Part) → is_result p ≡ is_kept_result (kept p)
is_result-kept (Word word) = sym (result-word word (is_result_word word) refl)
is_result-kept _ = refl

pub step-kept : (max_depth : ℕ) (s : State) (p : Part)
    → step max_depth s p ≡ step_kept max_depth s (kept p)
step-kept max_depth s (Word word) =
    word_kind word (λ moves numbers k.
    (if moves then Some (record { in_tags = false; depth = s.depth; has_move = true })
    else (if numbers then Some (in_movetext s) else None)) ≡ step_kept max_depth s k)
    (λ _. refl) refl (λ _. refl) (λ _. refl)
step-kept max_depth s _ = refl

pub items-kept : (p : Part) → items_of_part p ≡ items_of_kept (kept p)
items-kept (Word word) =
    word_kind word (λ moves numbers k. (if moves then MoveText word ∷ [] else [])
    ≡ items_of_kept k) (λ _. refl) refl (λ _. refl) (λ _. refl)
items-kept _ = refl

-- the elements of a list with one part more at its end
pub items-push : (xs : List Part) (p : Part)
    → items_of (xs ++ p ∷ []) ≡ items_of xs ++ items_of_kept (kept p)
items-push xs p =
    flat_map-append items_of_part xs (p ∷ [])
    ∙ ap (λ ys. items_of xs ++ ys) (append-nil (items_of_part p) ∙ items-kept p)

-- a token that is a result
pub kept_result : (k : Kept) → is_kept_result k ≡ true → k ≡ KeptResult
kept_result KeptResult is = refl
kept_result _ is = absurd (cc)
