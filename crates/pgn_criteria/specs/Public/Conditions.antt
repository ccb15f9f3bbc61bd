-- The conditions of an alternative, by what they are on.
use Rattle.std.specs.Prelude.{ℕ, List, [], ◌∷◌}
use Rattle.pgn_criteria.specs.declared.condition.Condition.{Condition}
use Rattle.pgn_criteria.specs.declared.condition.Condition.TheVariants.{Game, Position, Move, Span}
use Rattle.pgn_criteria.specs.declared.condition.Stated.{Stated}
use Rattle.pgn_criteria.specs.declared.condition.PositionCondition.{PositionCondition}
use Rattle.pgn_criteria.specs.declared.condition.GameClaim.{GameClaim}
use Rattle.pgn_criteria.specs.declared.condition.MoveClaim.{MoveClaim}
use Rattle.pgn_criteria.specs.declared.condition.SpanClaim.{SpanClaim}

-- those on the game, those on a position, those on the moves before and after it, and those on the
-- plies at which all of these hold
pub record Conditions : Type 0 where
  pub games : List (Stated (GameClaim (List ℕ)))
  pub positions : List (PositionCondition (List ℕ))
  pub moves : List (Stated (MoveClaim (List ℕ)))
  pub spans : List SpanClaim

-- there are none
abbrev pub no_conditions : Conditions
no_conditions = record { games = []; positions = []; moves = []; spans = [] }

-- one more before the others of its kind
abbrev pub with_condition : Condition (List ℕ) → Conditions → Conditions
with_condition (Game own) c =
    record { games = own ∷ c.games; positions = c.positions; moves = c.moves; spans = c.spans }
with_condition (Position own) c =
    record { games = c.games; positions = own ∷ c.positions; moves = c.moves; spans = c.spans }
with_condition (Move own) c =
    record { games = c.games; positions = c.positions; moves = own ∷ c.moves; spans = c.spans }
with_condition (Span own) c =
    record { games = c.games; positions = c.positions; moves = c.moves; spans = own ∷ c.spans }
