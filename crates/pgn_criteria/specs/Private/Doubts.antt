-- What a line says that is so at no position.
use Rattle.std.specs.Prelude.{◌≡◌, ℕ, List}
use Rattle.chess.specs.Public.Positions.{State, king_of}
use Rattle.chess.specs.declared.board.man.Side.{Side}
use Rattle.pgn_criteria.specs.Public.Materials.{count_of}
use Rattle.pgn_criteria.specs.Public.Meeting.{IsSoAt}
use Rattle.pgn_criteria.specs.declared.condition.PositionClaim.{PositionClaim}

-- the claim is so at no position in which each side has one king
abbrev pub IsNever : PositionClaim (List ℕ) → Type 0
IsNever claim =
    (P : State) → ((side : Side) → count_of P.men (king_of side) ≡ 1) → IsSoAt P claim → ⊥
