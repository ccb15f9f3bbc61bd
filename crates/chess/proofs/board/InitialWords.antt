-- The words of the board on which the men stand where they stand at first.
use Rattle.chess.proofs.Common.{◌≡◌, ◌<◌, ◌∙◌, ℕ, zero, suc, Bool, true, nat_eq, ap, refl, sym}
use Rattle.chess.proofs.Common.{arith, List, [], ◌∷◌, Option, Some, None, agree_below}
use Rattle.chess.proofs.Common.{agree_below_at, eqb-true, eq-eqb, ne_eqb, square_at, with_man}
use Rattle.chess.proofs.Common.{has_bit, AreApart, bitboard_at, row_of, man_in, words_men}
use Rattle.chess.proofs.Common.{initial_man, initial_men, Man}
use Rattle.chess.specs.Public.Placements.{first_men}
use Rattle.chess.proofs.BitFacts.{has_man, no_man, row_of-below, man_of_row-row_of}

abbrev first_words : List ℕ
first_words =
    16 ∷ 8 ∷ 129 ∷ 36 ∷ 66 ∷ 65280 ∷ 1152921504606846976 ∷ 576460752303423488 ∷ 9295429630892703744
    ∷ 2594073385365405696
    ∷ 4755801206503243776 ∷ 71776119061217280 ∷ []

-- the number of a man's bitboard, and of no bitboard
abbrev row_there : Option Man → ℕ
row_there None = 12
row_there (Some man) = row_of man

abbrev has_square : ℕ → ℕ → Bool
has_square i j = has_bit (bitboard_at first_words j) i

abbrev is_there : ℕ → ℕ → Bool
is_there i j = nat_eq j (row_there (initial_man (square_at i)))

abbrev words_agree : ℕ → Bool
words_agree i = agree_below (has_square i) (is_there i) 12

all_agree : agree_below words_agree (λ _. true) 64 ≡ true
all_agree = refl

-- a bitboard has the squares of its man
bit_is : (i j : ℕ) → i < 64 → j < 12 → has_square i j ≡ is_there i j
bit_is i j less in_row =
    agree_below_at (has_square i) (is_there i) 12 j
    (agree_below_at words_agree (λ _. true) 64 i all_agree less) in_row

row_is : (i j : ℕ) → i < 64 → j < 12 → has_square i j ≡ true
    → j ≡ row_there (initial_man (square_at i))
row_is i j less in_row bit = eqb-true _ _ (sym (bit_is i j less in_row) ∙ bit)

pub initial_words_apart : AreApart first_words
initial_words_apart j k i in_j in_k less a b = row_is i j less in_j a ∙ sym (row_is i k less in_k b)

man_there : (i : ℕ) → i < 64 → (o : Option Man) → initial_man (square_at i) ≡ o
    → man_in first_words i ≡ o
man_there i less None e =
    no_man first_words 12 i (λ k in_k. bit_is i k less in_k ∙ ap (λ o. nat_eq k (row_there o)) e
    ∙ ne_eqb k 12 (λ same. omega arith))
man_there i less (Some man) e =
    has_man first_words 12 (row_of man) i initial_words_apart (omega arith) (row_of-below man) less
    (bit_is i (row_of man) less (row_of-below man) ∙ ap (λ o. nat_eq (row_of man) (row_there o)) e
    ∙ eq-eqb (row_of man) (row_of man) refl)
    ∙ ap Some (man_of_row-row_of man)

-- squares that hold the same men, one by one
same_first : (f g : ℕ → Option Man) (n : ℕ) → ((k : ℕ) → k < n → f k ≡ g k)
    → first_men f n ≡ first_men g n
unfolding first_men
same_first f g zero same = refl
same_first f g (suc n) same =
    ap (λ p. with_man p (square_at n) (f n)) (same_first f g n (λ k less. same k (omega arith)))
    ∙ ap (with_man (first_men g n) (square_at n)) (same n (omega arith))

pub initial_words_men : words_men first_words ≡ initial_men
initial_words_men =
    same_first (man_in first_words) (λ n. initial_man (square_at n)) 64 (λ k less.
    man_there k less (initial_man (square_at k)) refl)
