-- The answers to a search for the only move that has a fact.
use Rattle.std.specs.Prelude.{◌≡◌, ◌≢◌, Result, Ok, Err}
use Rattle.chess.specs.Public.Positions.{State}
use Rattle.chess.specs.Public.Moves.{after}
use Rattle.chess.specs.declared.moves.Move.{Move}
use Rattle.chess.specs.declared.move_text.SanError.{SanError}
use Rattle.chess.specs.declared.move_text.SanError.TheVariants.{None, Several}

-- the only move that has the fact; or none has it; or two have it
abbrev pub IsAnswer : (Move → Type 0) → Result Move SanError → Type 0
IsAnswer fact (Ok m) = fact m × ((n : Move) → fact n → n ≡ m)
IsAnswer fact (Err None) = (m : Move) → fact m → ⊥
IsAnswer fact (Err Several) = (m n : Move) × fact m × fact n × (m ≢ n)

-- the move that was found was played; or the position is as it was
abbrev pub IsPlayed : State → State → Result Move SanError → Type 0
IsPlayed old new (Ok m) = new ≡ after old m
IsPlayed old new (Err e) = new ≡ old
