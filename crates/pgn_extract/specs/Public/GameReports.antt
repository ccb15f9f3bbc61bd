-- What is reported of a game that can be read: the entries that it lists where it is sound, and
-- else its first fault.
use Rattle.std.specs.Prelude.{ℕ, ◌+◌, List, [], ◌∷◌, ◌++◌, codes, decimal}
use Rattle.chess.specs.Public.Positions.{State}
use Rattle.pgn_text.specs.Public.GameTexts.{GameText, tag_in}
use Rattle.pgn_game.specs.Public.Faults.{Fault, BadStart, IllegalMove, AmbiguousMove, IsFault}
use Rattle.pgn_game.specs.Public.Replays.{Replay, IsReplay}
use Rattle.pgn_game.specs.declared.replays.replayer.Lines.{Lines}
use Rattle.pgn_game.specs.Public.Starts.{fen_tag}
use Rattle.pgn_criteria.specs.Public.Meeting.{heading_of}
use Rattle.pgn_extract.specs.Public.Aims.{Aim, GameId, IsEntry}
use Rattle.pgn_extract.specs.Public.Listing.{Entry, Shown, IsShownOf}

-- the game is sound in these lines, and this is their replay
abbrev pub IsReplayOf : Lines → GameText → Replay → Type 0
IsReplayOf lines game replay = IsReplay lines (tag_in fen_tag game.tags) game.elements replay

-- the game is faulty in these lines, and this is their first fault
abbrev pub IsFaultOf : Lines → GameText → Fault → Type 0
IsFaultOf lines game fault = IsFault lines (tag_in fen_tag game.tags) game.elements fault

-- why a game is faulty, in the words of its line
abbrev pub cause_text : Fault → List ℕ
cause_text BadStart = codes "bad position"
cause_text (IllegalMove word ply) = codes "illegal move " ++ word ++ codes " at ply " ++ decimal ply
cause_text (AmbiguousMove word ply) = codes "ambiguous move " ++ word ++ codes " at ply "
    ++ decimal ply

-- the plies of positions in a row, of which the first stands at the ply
abbrev pub plies_of : ℕ → List State → List ℕ
plies_of ply [] = []
plies_of ply (position ∷ more) = ply ∷ plies_of (ply + 1) more

-- of a game with this mark these are the entries at those of the plies that have the fact, in their
-- order, each with what is shown of its ply
pub data AreChosen (id : GameId) (P : ℕ → Type 0) (S : ℕ → Shown → Type 0) : List ℕ → List Entry
    → Type 0 where
  none : AreChosen id P S [] []
  keep : (ply : ℕ) (shown : Shown) (all : List ℕ) (chosen : List Entry) → P ply → S ply shown
      → AreChosen id P S all chosen
      → AreChosen id P S (ply ∷ all) (record { id = id; ply = ply; shown = shown } ∷ chosen)
  leave : (ply : ℕ) (all : List ℕ) (chosen : List Entry) → (P ply → ⊥) → AreChosen id P S all chosen
      → AreChosen id P S (ply ∷ all) chosen

-- the entries that a sound game lists, of its positions from ply 0 on
abbrev pub AreListed : Aim → GameId → GameText → Replay → List Entry → Type 0
AreListed aim id game replay entries =
    AreChosen id (IsEntry aim (heading_of game) replay) (IsShownOf aim id game replay)
    (plies_of 0 replay.positions) entries
