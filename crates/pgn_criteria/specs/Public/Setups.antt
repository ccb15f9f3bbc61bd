-- A position that is asked for by the first fields of a FEN.
use Rattle.std.specs.Prelude.{◌≡◌, ◌≤◌, ◌↔◌, ℕ, Some}
use Rattle.std.specs.List.{slice_get}
use Rattle.chess.specs.Public.Positions.{State, has_right}
use Rattle.chess.specs.Public.Moves.{TakesEnPassant}
use Rattle.chess.specs.declared.board.man.Side.{Side}
use Rattle.chess.specs.declared.board.man.Wing.{Wing}
use Rattle.chess.specs.declared.moves.Move.{Move}
use Rattle.pgn_game.specs.Public.Replays.{Replay}
use Rattle.pgn_criteria.specs.declared.setup.Setup.{Setup}

-- the position is that one in so many of the first four fields of its FEN
pub record IsAlike (given : ℕ) (P Q : State) : Type 0 where
  -- the same men stand on the same squares
  pub men : P.men ≡ Q.men
  -- the same side is to move
  pub turn : 2 ≤ given → P.turn ≡ Q.turn
  -- the same rights to castle are held
  pub rights : 3 ≤ given → (side : Side) (wing : Wing)
      → has_right P.rights side wing ≡ has_right Q.rights side wing
  -- the same moves take a pawn en passant (Laws 9.2): where none does, it is the same whether there
  -- is an en passant square
  pub en_passant : 4 ≤ given → (m : Move) → TakesEnPassant P m ↔ TakesEnPassant Q m

-- the main line has a position after so many plies, and it is that one in the fields that are given
abbrev pub IsSetUp : Replay → ℕ → Setup → Type 0
IsSetUp replay ply setup = (P : State) × (slice_get replay.positions ply ≡ Some P)
    × IsAlike setup.given P setup.position
