-- Packed games of which no position meets criteria, as what is seen of their positions shows.
use Rattle.std.specs.Prelude.{ℕ, List, [], ◌∷◌, IsTrue}
use Rattle.chess.specs.Public.Positions.{State}
use Rattle.chess.specs.Public.Placements.{Placement, opposite}
use Rattle.chess.specs.declared.board.man.Side.{Side}
use Rattle.pgn_game.specs.Public.CodeLines.{IsLegalLine}
use Rattle.pgn_game.specs.Public.PlyCodes.{PlyCode, AreCodes, code_of, moved}
use Rattle.pgn_game.specs.Public.Replays.{Replay}
use Rattle.pgn_criteria.specs.Public.Meeting.{Heading, SomeHold}
use Rattle.pgn_criteria.specs.Public.Walks.{IsSeenOf}
use Rattle.pgn_criteria.specs.Public.Conditions.{Conditions}

-- the codes that stand one after the other in bytes
abbrev pub codes_in : List ℕ → List PlyCode
codes_in (a ∷ b ∷ d ∷ rest) = code_of a b d ∷ codes_in rest
codes_in _ = []

-- neither what is seen before the codes nor what is seen after any of them has the fact: the men,
-- the side to move, that it is in check, and that it has no move
abbrev pub NowhereSeen : (Placement → Side → Type 0 → Type 0 → Type 0) → Placement → Side → Type 0
    → Type 0 → List PlyCode → Type 0
NowhereSeen fact men turn Checked Stuck [] = ¬ fact men turn Checked Stuck
NowhereSeen fact men turn Checked Stuck (code ∷ codes) =
    (¬ fact men turn Checked Stuck)
    × NowhereSeen fact (moved men code) (opposite turn) (IsTrue code.check) (IsTrue code.stuck)
    codes

-- this is seen of a position that meets criteria
abbrev pub MeetsSeen : List Conditions → Placement → Side → Type 0 → Type 0 → Type 0
MeetsSeen criteria men turn Checked Stuck =
    (P : State) × IsSeenOf P men turn Checked Stuck × (heading : Heading) × (replay : Replay)
    × (ply : ℕ) × SomeHold heading replay ply P criteria

-- the line is played from this position by legal moves, of which these are the codes
pub record IsPlayedBy (P : State) (codes : List PlyCode) (replay : Replay) : Type 0 where
  pub line : IsLegalLine P replay
  pub told : AreCodes P replay.played codes
