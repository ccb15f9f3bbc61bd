-- Each position of each sound game meets the criteria or does not, whatever they are.
use Rattle.pgn_extract.proofs.Common.{◌⊎◌, ℕ, ◌<◌, List, length, Option, Some, None, inl, GameText}
use Rattle.pgn_extract.proofs.Common.{tag_in, Replay, fen_tag, Lines, Conditions, Aim, IsMet}
use Rattle.pgn_extract.proofs.Common.{heading_of, IsReplayOf}
use Rattle.pgn_criteria.proofs.MeetSettled.{each_position_meets}

-- the position is decided
abbrev pub IsDecidedAt : Option (List Conditions) → GameText → Replay → ℕ → Type 0
IsDecidedAt criteria game replay ply =
    IsMet criteria (heading_of game) replay ply ⊎ (IsMet criteria (heading_of game) replay ply → ⊥)

abbrev pub IsDecided : Aim → Type 0
IsDecided aim =
    (lines : Lines) (game : GameText) (replay : Replay) → IsReplayOf lines game replay
    → (ply : ℕ) → ply < length replay.positions → IsDecidedAt aim.criteria game replay ply

decided_at : (criteria : Option (List Conditions)) (lines : Lines) (game : GameText)
    (replay : Replay) → IsReplayOf lines game replay → (ply : ℕ)
    → IsDecidedAt criteria game replay ply
decided_at None lines game replay is ply = inl tt
decided_at (Some criteria) lines game replay is ply =
    each_position_meets lines (tag_in fen_tag game.tags) game.elements replay is
    (heading_of game) criteria ply

pub all_decided : (aim : Aim) → IsDecided aim
all_decided aim lines game replay is ply less = decided_at aim.criteria lines game replay is ply
