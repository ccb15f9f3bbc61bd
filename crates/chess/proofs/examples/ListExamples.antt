-- Worked rows of lists of moves, and what these definitions refuse.
use Rattle.chess.proofs.Common.{◌≡◌, [], ◌∷◌, refl, arith, State, IsLegal, Move}
use Rattle.chess.specs.Public.MoveLists.{appended, AreLegal, HasEachLegal, AreDistinct}

one_appended : (m n : Move) → appended (m ∷ []) (m ∷ n ∷ []) ≡ n ∷ []
one_appended m n = refl

-- a list with an illegal move does not count as one of legal moves
none_illegal : (P : State) (m : Move) → (IsLegal P m → ⊥) → AreLegal P (m ∷ []) → ⊥
none_illegal P m illegal all = illegal (all 0 m (omega arith))

-- nor one that lacks a legal move as one of all
none_left_out : (P : State) (m : Move) → IsLegal P m → HasEachLegal P [] → ⊥
none_left_out P m legal each = let found = (each m legal).1 in omega arith

-- nor one that has a move twice
none_twice : (m n : Move) → AreDistinct (m ∷ n ∷ m ∷ []) → ⊥
none_twice m n apart = apart 0 2 m (omega arith) (omega arith) refl
