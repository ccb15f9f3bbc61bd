-- What is asked of each kind of men, one by one.
use Rattle.chess.specs.Public.Placements.{Placement}
use Rattle.chess.specs.declared.board.man.Side.{Side}
use Rattle.chess.specs.declared.board.man.Kind.{Kind}
use Rattle.pgn_criteria.specs.Public.Materials.{Allows, count_of, limit_of}
use Rattle.pgn_criteria.specs.declared.material.Limits.{Limits}

-- the side has as many men of the kind as its limit allows
unfoldable pub FitsKind : Placement → Side → Limits → Kind → Type 0
FitsKind men side limits kind =
    Allows (limit_of limits kind) (count_of men (record { side = side; kind = kind }))
