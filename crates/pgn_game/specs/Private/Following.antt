-- The line of the opening of a game while the game is played. Nothing but the proofs of the export
-- that finds it cites these.
use Rattle.std.specs.Prelude.{◌≡◌, ℕ, true, false, List, [], ◌∷◌, ◌++◌, Option}
use Rattle.chess.specs.Public.Positions.{State}
use Rattle.pgn_game.specs.Public.AllLines.{after_turn}
use Rattle.pgn_game.specs.Public.Openings.{HasLine, ends_of}
use Rattle.pgn_game.specs.Private.Steps.{Step, Turned, Beside}
use Rattle.pgn_game.specs.declared.exports.following.Follower.{Follower}

-- the line where the game comes to one more position
abbrev pub FindsLine : List State → Option ℕ → State → Option ℕ → Type 0
FindsLine ends old P new = (seen : List State) → HasLine ends seen old
    → HasLine ends (seen ++ P ∷ []) new

-- the line after a step: that of a turn of the main line, and the same after each other one
abbrev pub FollowsStep : List State → Option ℕ → Step → Option ℕ → Type 0
FollowsStep ends old (Turned true before turn) new = new ≡ old
FollowsStep ends old (Turned false before turn) new =
    FindsLine ends old (after_turn before turn) new
FollowsStep ends old (Beside item) new = new ≡ old

-- what a follower does: what its visitor does, and the line is found
pub record Follows {V : Type 0} (does : V → Step → V → Type 0) (old : Follower V) (step : Step)
    (new : Follower V) : Type 0 where
  pub inner : does old.inner step new.inner
  pub place : FollowsStep (ends_of old.openings.now) old.place step new.place
  pub same : new.openings.now ≡ old.openings.now
