-- The text of the initial position in FEN.
use Rattle.std.specs.Prelude.{codes, Option}
use Rattle.chess.proofs.Common.{◌≡◌, ℕ, ◌≤◌, List, [], ◌∷◌, sym, ap, ◌∙◌, arith, decimal_digit}
use Rattle.chess.proofs.Common.{decimal, man_at, initial, initial_man, initial_men, row, side_text}
use Rattle.chess.proofs.Common.{joined, or_dash, rights_letters, en_passant_text, IsFen}
use Rattle.chess.proofs.Common.{spelled_from, rank_texts, Man}
use Rattle.chess.proofs.FenTextFacts.{spell_ranks, shortest_ranks}
use Rattle.chess.proofs.StartFacts.{initial_at}

-- the text of the initial position
abbrev pub initial_fen : List ℕ
initial_fen = codes "rnbqkbnr/pppppppp/8/8/8/8/PPPPPPPP/RNBQKBNR w KQkq - 0 1"

-- the men of a rank, square by square
abbrev initial_row : ℕ → List (Option Man)
initial_row r =
    initial_man (record { file = 1; rank = r }) ∷ initial_man (record { file = 2; rank = r })
    ∷ initial_man (record { file = 3; rank = r })
    ∷ initial_man (record { file = 4; rank = r }) ∷ initial_man (record { file = 5; rank = r })
    ∷ initial_man (record { file = 6; rank = r })
    ∷ initial_man (record { file = 7; rank = r }) ∷ initial_man (record { file = 8; rank = r }) ∷ []

here : (file r : ℕ) → 1 ≤ file → file ≤ 8 → 1 ≤ r → r ≤ 8
    → man_at initial_men (record { file = file; rank = r })
    ≡ initial_man (record { file = file; rank = r })
here file r a b c d =
    initial_at (record { file = file; rank = r })
    (record { file_low = a; file_high = b; rank_low = c; rank_high = d })

same_row : (r : ℕ) → 1 ≤ r → r ≤ 8 → row initial_men r ≡ initial_row r
same_row r low high =
    λ i. here 1 r (omega arith) (omega arith) low high i
    ∷ here 2 r (omega arith) (omega arith) low high i
    ∷ here 3 r (omega arith) (omega arith) low high i
    ∷ here 4 r (omega arith) (omega arith) low high i
    ∷ here 5 r (omega arith) (omega arith) low high i
    ∷ here 6 r (omega arith) (omega arith) low high i
    ∷ here 7 r (omega arith) (omega arith) low high i
    ∷ here 8 r (omega arith) (omega arith) low high i ∷ []

abbrev initial_rank : ℕ → List ℕ
initial_rank r = spelled_from 0 (initial_row r)

same_rank : (r : ℕ) → 1 ≤ r → r ≤ 8 → spelled_from 0 (row initial_men r) ≡ initial_rank r
same_rank r low high = ap (spelled_from 0) (same_row r low high)

same_ranks : rank_texts initial_men 8
    ≡ initial_rank 8 ∷ initial_rank 7 ∷ initial_rank 6 ∷ initial_rank 5 ∷ initial_rank 4
    ∷ initial_rank 3 ∷ initial_rank 2 ∷ initial_rank 1 ∷ []
same_ranks =
    λ i. same_rank 8 (omega arith) (omega arith) i ∷ same_rank 7 (omega arith) (omega arith) i
    ∷ same_rank 6 (omega arith) (omega arith) i
    ∷ same_rank 5 (omega arith) (omega arith) i ∷ same_rank 4 (omega arith) (omega arith) i
    ∷ same_rank 3 (omega arith) (omega arith) i
    ∷ same_rank 2 (omega arith) (omega arith) i ∷ same_rank 1 (omega arith) (omega arith) i ∷ []

abbrev with_counts : List (List ℕ) → List ℕ → List ℕ → List ℕ
with_counts ranks clock number =
    joined 32 (joined 47 ranks ∷ side_text initial.turn ∷ or_dash (rights_letters initial.rights)
    ∷ en_passant_text initial.en_passant ∷ clock ∷ number ∷ [])

pub initial_has_fen : IsFen initial initial_fen
initial_has_fen = record {
  ranks = rank_texts initial_men 8;
  spelled = spell_ranks initial_men 8;
  shortest = shortest_ranks initial_men 8;
  text = sym (ap (λ ranks. with_counts ranks (decimal 0) (decimal 1)) same_ranks
      ∙ ap (λ clock.
      with_counts (initial_rank 8 ∷ initial_rank 7 ∷ initial_rank 6 ∷ initial_rank 5
      ∷ initial_rank 4 ∷ initial_rank 3 ∷ initial_rank 2 ∷ initial_rank 1
      ∷ []) clock (decimal 1)) (decimal_digit 0 (omega arith))
      ∙ ap (λ number.
      with_counts (initial_rank 8 ∷ initial_rank 7 ∷ initial_rank 6 ∷ initial_rank 5
      ∷ initial_rank 4 ∷ initial_rank 3 ∷ initial_rank 2 ∷ initial_rank 1 ∷ []) (48
      ∷ []) number) (decimal_digit 1 (omega arith)));
}
