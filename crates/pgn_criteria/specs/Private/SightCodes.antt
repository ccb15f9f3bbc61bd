-- What is seen of a position, as one number.
use Rattle.std.specs.Prelude.{Bool, refl}
use Rattle.std.specs.Coded.{Coded, coded_bool, coded×, code_by}
use Rattle.chess.specs.Shared.Codes.{coded_placement, coded_side}
use Rattle.chess.specs.Public.Placements.{Placement}
use Rattle.chess.specs.declared.board.man.Side.{Side}
use Rattle.pgn_criteria.specs.Public.Walks.{Sight}

-- a sight has a code by those of its parts
abbrev pub coded_sight : Coded Sight
coded_sight =
    code_by (Placement × (Side × (Bool × Bool)))
    (coded× coded_placement (coded× coded_side (coded× coded_bool coded_bool)))
    (λ s. (s.men, (s.turn, (s.check, s.stuck)))) (λ p.
    record { men = p.0; turn = p.1.0; check = p.1.1.0; stuck = p.1.1.1 }) (λ _. refl)
