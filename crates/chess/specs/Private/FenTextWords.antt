-- The text of a rank as the program writes it, square by square.
use Rattle.std.specs.Prelude.{◌≡◌, ℕ, zero, suc, ◌+◌, ◌-◌, ◌*◌, ltb, Bool, List, [], ◌∷◌, ◌++◌}
use Rattle.std.specs.Prelude.{get_or, map, codes, ◌==◌, Option, Some, None}
use Rattle.std.specs.Prelude.{if◌then◌else◌}
use Rattle.std.specs.Simd.Lanes.{chunk, mask_l}
use Rattle.chess.specs.Public.Squares.{Place, IsOnBoard, index_of}
use Rattle.chess.specs.Public.Placements.{Placement, man_at, row_of}
use Rattle.chess.specs.Public.Letters.{man_letter}
use Rattle.chess.specs.Public.Fen.{row}
use Rattle.chess.specs.declared.board.man.Man.{Man}

-- the digit of a run of empty squares, or nothing
abbrev pub digit_of : ℕ → List ℕ
digit_of zero = []
digit_of (suc n) = (48 + suc n) ∷ []

-- the text of squares after a run of so many empty ones
abbrev pub spelled_from : ℕ → List (Option Man) → List ℕ
spelled_from n [] = digit_of n
spelled_from n (None ∷ squares) = spelled_from (n + 1) squares
spelled_from n (Some man ∷ squares) = digit_of n ++ man_letter man ∷ spelled_from 0 squares

-- the text of a rank, and the texts of the ranks from that one down
abbrev pub rank_text : Placement → ℕ → List ℕ
rank_text p rank = spelled_from 0 (row p rank)

abbrev pub rank_texts : Placement → ℕ → List (List ℕ)
rank_texts p zero = []
rank_texts p (suc n) = rank_text p (suc n) ∷ rank_texts p n

-- the signs of a rank: the letters that a table has of its squares, and then the digits
abbrev pub rank_signs : List ℕ → ℕ → List ℕ
rank_signs letters rank = chunk (8 * (rank - 1)) 8 letters ++ codes "12345678"

-- the set of the empty squares, as bits, and the signs in an order
abbrev pub empty_set : List ℕ → ℕ
empty_set signs = mask_l (map (λ sign. sign == 0) signs)

abbrev pub in_order : List ℕ → List ℕ → List ℕ
in_order signs order = map (λ place. get_or signs place 0) order

-- the letter of the man on a square, or 0; and the letter for the square in a table in the order
-- a1, b1 to h1, a2 and so on
abbrev pub letter_on : Option Man → ℕ
letter_on None = 0
letter_on (Some man) = man_letter man

abbrev pub letter_at : List ℕ → Place → ℕ
letter_at letters s = get_or letters (index_of s) 0

-- the table has the letter of the man on each square
abbrev pub AreLetters : Placement → List ℕ → Type 0
AreLetters p letters = (s : Place) → IsOnBoard s → letter_at letters s ≡ letter_on (man_at p s)

-- the table has those of the men of the first n words, and 0 on all other squares
abbrev pub letter_below : ℕ → Option Man → ℕ
letter_below n None = 0
letter_below n (Some man) = if ltb (row_of man) n then man_letter man else 0

abbrev pub AreLettersBelow : Placement → List ℕ → ℕ → Type 0
AreLettersBelow p letters n = (s : Place) → IsOnBoard s
    → letter_at letters s ≡ letter_below n (man_at p s)

-- texts with a separator before each
abbrev pub each_after : ℕ → List (List ℕ) → List ℕ
each_after separator [] = []
each_after separator (x ∷ more) = separator ∷ x ++ each_after separator more

-- the letter of a right, if it is held
abbrev pub letter_if : Bool → ℕ → List ℕ
letter_if held letter = if held then letter ∷ [] else []
