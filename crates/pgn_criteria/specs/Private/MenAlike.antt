-- The same men on the same squares, man by man.
use Rattle.std.specs.Prelude.{◌≡◌, ◌↔◌, Some}
use Rattle.chess.specs.Public.Squares.{Place, IsOnBoard}
use Rattle.chess.specs.Public.Placements.{Placement, man_at}
use Rattle.chess.specs.declared.board.man.Man.{Man}
use Rattle.chess.specs.declared.board.man.Kind.{Kind}
use Rattle.chess.specs.declared.board.man.Side.{Side}

-- the man stands on the same squares of both
abbrev pub StandsAlike : Placement → Placement → Man → Type 0
StandsAlike p q man = (s : Place) → IsOnBoard s → (man_at p s ≡ Some man) ↔ (man_at q s ≡ Some man)

-- the men of the kind do
abbrev pub KindAlike : Placement → Placement → Kind → Type 0
KindAlike p q kind = (side : Side) → StandsAlike p q (record { side = side; kind = kind })
