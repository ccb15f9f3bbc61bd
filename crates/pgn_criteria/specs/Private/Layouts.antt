-- What patterns ask of squares that they name, as it is laid out.
use Rattle.std.specs.Prelude.{◌≡◌, ◌↔◌, ◌<◌, ◌≤◌, ◌+◌, ℕ, Bool, true, List, [], ◌∷◌, Option, Some}
use Rattle.std.specs.Prelude.{None, IsTrue}
use Rattle.chess.specs.Public.Squares.{Place, IsOnBoard}
use Rattle.chess.specs.Public.Placements.{Placement, man_at}
use Rattle.chess.specs.Public.Sets.{Places, is_in}
use Rattle.chess.specs.declared.board.man.Side.{Side}
use Rattle.chess.specs.declared.board.man.Kind.{Kind}
use Rattle.chess.specs.declared.board.man.Man.{Man}
use Rattle.pgn_criteria.specs.Private.Items.{IsOf, has_kind}
use Rattle.pgn_criteria.specs.declared.rank.SquareTest.{SquareTest}
use Rattle.pgn_criteria.specs.declared.rank.Kinds.{Kinds}
use Rattle.pgn_criteria.specs.declared.layout.Asked.{Asked}
use Rattle.pgn_criteria.specs.declared.layout.Layout.{Layout}

-- on each of the squares stands what must stand there
abbrev pub AllStand : Placement → List Asked → Type 0
AllStand men [] = Unit {0}
AllStand men (asked ∷ more) = IsOf asked.class (man_at men asked.square) × AllStand men more

-- no man stands on the squares
abbrev pub AreEmpty : Placement → Places → Type 0
AreEmpty men empty = (s : Place) → is_in empty s ≡ true → man_at men s ≡ None

-- the men stand as is laid out
abbrev pub Laid : Placement → Layout → Type 0
Laid men layout = AllStand men layout.asked.items × AllStand men layout.barred.items
    × AreEmpty men layout.empty

-- no man of the side that is of one of the kinds stands on the square
abbrev pub NoneOf : Side → Kinds → Option Man → Type 0
NoneOf side kinds square = (kind : Kind) → IsTrue (has_kind kinds kind)
    → square ≡ Some (record { side = side; kind = kind }) → ⊥

-- the second set is that of the other squares of the board
abbrev pub IsRest : Places → Places → Type 0
IsRest empty free = (s : Place) → IsOnBoard s → (is_in free s ≡ true) ↔ (is_in empty s ≡ true → ⊥)

-- of so many squares of a rank, after so many, those from this number on are of the class
abbrev pub EachFrom : Placement → SquareTest → ℕ → ℕ → ℕ → ℕ → Type 0
EachFrom men class rank before step count =
    (k : ℕ) → step ≤ k → k < count
    → IsOf class (man_at men (record { file = before + k + 1; rank = rank }))

-- what is new in what is laid out follows from a fact, of which the rest stays. Where it is all,
-- what is laid out and the rest give the fact
pub record Extends {T : Type 0} (Sound : T → Type 0) (Stands : Placement → T
    → Type 0) (whole rest : Placement → Type 0) (old new : T) (all : Bool) : Type 0 where
  pub sound : Sound old → Sound new
  pub needed : (p : Placement) → Stands p old → whole p → Stands p new × rest p
  pub enough : IsTrue all → (p : Placement) → Stands p new → rest p → Stands p old × whole p

abbrev pub Lays : (Placement → Type 0) → (Placement → Type 0) → Layout → Layout → Bool → Type 0
Lays = Extends (λ layout. Unit {0}) Laid

-- the man of that kind stands on squares of the set alone
unfoldable pub KindWithin : Placement → Places → Side → Kind → Type 0
KindWithin men free side kind = (s : Place)
    → man_at men s ≡ Some (record { side = side; kind = kind }) → is_in free s ≡ true
