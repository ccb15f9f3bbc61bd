-- What stands at a ply of a main line: its position, and the moves before and after it.
use Rattle.std.specs.Prelude.{◌≡◌, ◌+◌, ℕ, Option, None, Some}
use Rattle.std.specs.List.{slice_get}
use Rattle.chess.specs.Public.Positions.{State}
use Rattle.chess.specs.declared.moves.Move.{Move}
use Rattle.pgn_game.specs.Public.Replays.{Replay}

-- the move led to the ply from this position; none did to the first
abbrev pub HasLed : Replay → ℕ → State → Option Move → Type 0
HasLed replay ply before None = ply ≡ 0
HasLed replay ply before (Some m) = (n : ℕ) × (ply ≡ n + 1)
    × (slice_get replay.positions n ≡ Some before) × (slice_get replay.played n ≡ Some m)

-- this move led to the ply from this position, and there this position stands, from which this move
-- is played
pub record IsTurn (replay : Replay) (ply : ℕ) (before : State) (last : Option Move) (P : State)
    (next : Option Move) : Type 0 where
  pub led : HasLed replay ply before last
  pub here : slice_get replay.positions ply ≡ Some P
  pub goes : slice_get replay.played ply ≡ next
