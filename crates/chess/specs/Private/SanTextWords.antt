-- What the writer of move texts knows on its way.
use Rattle.std.specs.Prelude.{◌≡◌, ℕ, true, List, ◌++◌, Some}
use Rattle.chess.specs.Public.Squares.{Place, IsOnBoard}
use Rattle.chess.specs.Public.Placements.{Placement, man_at}
use Rattle.chess.specs.Public.Positions.{State}
use Rattle.chess.specs.Public.San.{IsRival}
use Rattle.chess.specs.Public.Sets.{Places, is_in}
use Rattle.chess.specs.Private.MoveWords.{IsSifted, IsLeft}
use Rattle.chess.specs.declared.board.man.Man.{Man}
use Rattle.chess.specs.declared.moves.Move.{Move}

-- a text that has the fact was appended
abbrev pub Appends : (List ℕ → Type 0) → List ℕ → List ℕ → Type 0
Appends fact old new = (text : List ℕ) × fact text × (new ≡ old ++ text)

-- the set has a square that has the fact
abbrev pub HasSquare : Places → (Place → Type 0) → Type 0
HasSquare set fact = (s : Place) × IsOnBoard s × (is_in set s ≡ true) × fact s

-- that man stands on each square of the set
abbrev pub AreOf : Placement → Man → Places → Type 0
AreOf p man set = (s : Place) → IsOnBoard s → is_in set s ≡ true → man_at p s ≡ Some man

-- the rivals are those found and some of those left, which are squares of that man
pub record AreRivalsSifted (P : State) (m : Move) (man : Man) (left found : Places) : Type 0 where
  pub sifted : IsSifted (IsRival P m) left found
  pub alike : IsLeft (λ s. man_at P.men s ≡ Some man) (λ s. ⊥) left
