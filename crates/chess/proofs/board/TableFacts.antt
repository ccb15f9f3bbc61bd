-- Tables of words are held against tests of squares by computing.
use Rattle.chess.proofs.Common.{◌≡◌, ℕ, Bool, true, get_or, List, ◌∙◌, agree_below, agree_below_at}
use Rattle.chess.proofs.Common.{Place, IsOnBoard, square_at, index_of, has_bit, square_at-index_of}
use Rattle.chess.proofs.Common.{index_of-below}
use Rattle.chess.proofs.board.LeaperFacts.{fits_bitboard}

-- each of 64 words of a table has the squares that pass the test with its own square
abbrev pub fits_table : List ℕ → (Place → Place → Bool) → Bool
fits_table table test =
    agree_below (λ t. fits_bitboard (get_or table t 0) (λ s. test s (square_at t))) (λ _. true) 64

pub table_bit : (table : List ℕ) (test : Place → Place → Bool) → fits_table table test ≡ true
    → (s t : Place) → IsOnBoard s → IsOnBoard t
    → has_bit (get_or table (index_of t) 0) (index_of s) ≡ test s t
table_bit table test fits s t on_s on_t =
    let row =
    agree_below_at (λ t. fits_bitboard (get_or table t 0) (λ s. test s (square_at t))) (λ _.
    true) 64 (index_of t) fits (index_of-below t on_t) in
    agree_below_at (has_bit (get_or table (index_of t) 0)) (λ n.
    test (square_at n) (square_at (index_of t))) 64 (index_of s) row (index_of-below s on_s)
    ∙ (λ i. test (square_at-index_of s on_s i) (square_at-index_of t on_t i))
