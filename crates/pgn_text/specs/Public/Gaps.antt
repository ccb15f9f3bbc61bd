-- Gaps: what stands between the games of a block.
use Rattle.std.specs.Prelude.{◌≡◌, ℕ, Bool, ◌≤◌, List, ◌++◌, length, IsTrue}
use Rattle.std.specs.List.{list_all}
use Rattle.pgn_text.specs.Public.Parts.{Part, spelled, AllStand}
use Rattle.pgn_text.specs.Public.Games.{is_gap_part}

-- the parts are a gap: each may stand where it does, and is white space, a comment, an escape line
-- or a byte order mark
pub record IsGap (file_start : Bool) (before : List ℕ) (gap : List Part) (after : List ℕ) : Type 0
  where
    pub stand : AllStand file_start before gap after
    pub only : IsTrue (list_all is_gap_part gap)

-- no gap at this place is longer
pub record IsLongestGap (file_start : Bool) (before : List ℕ) (gap : List Part)
    (after : List ℕ) : Type 0 where
  pub is_gap : IsGap file_start before gap after
  pub longest : (other : List Part) (rest : List ℕ) → spelled other ++ rest ≡ spelled gap ++ after
      → IsGap file_start before other rest → length (spelled other) ≤ length (spelled gap)
