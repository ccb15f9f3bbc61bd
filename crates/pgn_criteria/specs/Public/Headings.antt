-- Which games can meet criteria by what stands about their moves: by their tags and their results.
use Rattle.std.specs.Prelude.{◌≡◌, ℕ, Bool, true, false, List}
use Rattle.std.specs.List.{Contains}
use Rattle.pgn_game.specs.Public.Replays.{Replay}
use Rattle.pgn_criteria.specs.Public.Conditions.{Conditions}
use Rattle.pgn_criteria.specs.Public.Meeting.{Heading, Taken, IsSoOfGame}
use Rattle.pgn_criteria.specs.declared.condition.Stated.{Stated}
use Rattle.pgn_criteria.specs.declared.condition.GameClaim.{GameClaim}
use Rattle.pgn_criteria.specs.declared.condition.GameClaim.TheVariants.{Tag, Moves, Plies, Result}

-- the claim is on a tag or on the result, and not on moves
abbrev pub is_on_heading : GameClaim (List ℕ) → Bool
is_on_heading (Tag names value) = true
is_on_heading (Moves words) = false
is_on_heading (Plies comparison count) = false
is_on_heading (Result result) = true

-- each condition of the alternative on a tag or on the result holds of a game with this heading,
-- whatever its moves are
abbrev pub FitsHeading : Heading → Conditions → Type 0
FitsHeading heading asked =
    (one : Stated (GameClaim (List ℕ))) → Contains asked.games one → is_on_heading one.claim ≡ true
    → (replay : Replay) → Taken one.is_denied (IsSoOfGame heading replay one.claim)

-- of some alternative they do: where they do of none, no position of the game meets the criteria
abbrev pub MayMeet : Heading → List Conditions → Type 0
MayMeet heading alternatives =
    (asked : Conditions) × Contains alternatives asked × FitsHeading heading asked
