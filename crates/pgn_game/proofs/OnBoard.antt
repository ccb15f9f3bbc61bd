-- In each position of a main line men stand on the board alone, and the move that is played in it
-- is legal.
use Rattle.pgn_game.proofs.Common.{◌≡◌, ℕ, zero, suc, List, [], ◌∷◌, Some, None, sym, ap, ◌∙◌}
use Rattle.pgn_game.proofs.Common.{subst, same_Some, slice_get, AreOnBoard, State, after, IsLegal}
use Rattle.pgn_game.proofs.Common.{Move, men_stay_on_board, IsMainLine}
use Rattle.pgn_game.proofs.OneReplay.{move_at}

-- each position
pub line_on_board : (words : List (List ℕ)) (now : State) (positions : List State)
    (played : List Move) → AreOnBoard now.men
    → IsMainLine now words positions played → (i : ℕ) (P : State) → slice_get positions i ≡ Some P
    → AreOnBoard P.men
line_on_board [] now positions played on_board line zero P here =
    subst (λ (Q : State). AreOnBoard Q.men)
    (same_Some now P (sym (ap (λ ps. slice_get ps 0) line.0) ∙ here)) on_board
line_on_board [] now positions played on_board line (suc i) P here =
    let none : None ≡ Some P = sym (ap (λ ps. slice_get ps (suc i)) line.0) ∙ here in absurd (cc)
line_on_board (word ∷ words) now positions played on_board (
  m,
  later,
  more,
  is,
  moves,
  named,
  rest,
) zero P here =
    subst (λ (Q : State). AreOnBoard Q.men)
    (same_Some now P (sym (ap (λ ps. slice_get ps 0) is) ∙ here)) on_board
line_on_board (word ∷ words) now positions played on_board (
  m,
  later,
  more,
  is,
  moves,
  named,
  rest,
) (suc i) P here =
    line_on_board words (after now m) later more
    (men_stay_on_board now m on_board named.named.legal) rest i P
    (sym (ap (λ ps. slice_get ps (suc i)) is) ∙ here)

-- each move
pub line_legal : (words : List (List ℕ)) (start : State) (positions : List State)
    (played : List Move) → IsMainLine start words positions played
    → (i : ℕ) (P : State) (m : Move) → slice_get positions i ≡ Some P → slice_get played i ≡ Some m
    → IsLegal P m
line_legal words start positions played line i P m here at =
    let found = move_at start words positions played line i m at in
    rw (← (same_Some found.1 P (sym found.3 ∙ here))) found.4.named.legal
