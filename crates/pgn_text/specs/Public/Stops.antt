-- The place where a text stops agreeing with games.
use Rattle.std.specs.Prelude.{◌≡◌, ℕ, ◌+◌, ◌≤◌, Bool, List, [], ◌++◌, length, take, drop, IsTrue}
use Rattle.std.specs.List.{list_all}
use Rattle.pgn_text.specs.Public.Bytes.{is_byte}
use Rattle.pgn_text.specs.Public.Parts.{Part, spelled}
use Rattle.pgn_text.specs.Public.Games.{IsGame}
use Rattle.pgn_text.specs.Public.Gaps.{IsGap}

-- the bytes are the front of a game, or of a gap and a game: with some more bytes after them they
-- are one
pub record IsGameFront (max_depth : ℕ) (file_start : Bool) (before front : List ℕ) : Type 0 where
  pub more : List ℕ
  pub bytes : IsTrue (list_all is_byte more)
  pub gap : List Part
  pub parts : List Part
  pub parted : front ++ more ≡ spelled gap ++ spelled parts
  pub is_gap : IsGap file_start before gap (spelled parts)
  pub is_game : IsGame max_depth file_start (before ++ spelled gap) parts []

-- the text that follows `before` in a block agrees with some game up to this place, and no further
pub record IsLongestViablePrefix (max_depth : ℕ) (file_start : Bool) (before text : List ℕ)
    (place : ℕ) : Type 0 where
  pub within : place ≤ length text
  pub agrees : IsGameFront max_depth file_start before (take place text)
  pub furthest : (other : ℕ) → other ≤ length text
      → IsGameFront max_depth file_start before (take other text) → other ≤ place

-- the place of the block where its bytes from the place `begin` on stop agreeing with games
abbrev pub IsErrorPosition : ℕ → Bool → List ℕ → ℕ → ℕ → Type 0
IsErrorPosition max_depth file_start block begin place =
    (n : ℕ) × (place ≡ begin + n)
    × IsLongestViablePrefix max_depth file_start (take begin block) (drop begin block) n
