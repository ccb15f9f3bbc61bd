-- How far a search of a pack has come, segment by segment.
use Rattle.std.specs.Prelude.{◌≡◌, ℕ, ◌+◌, ◌≤◌, List, length, Option}
use Rattle.std.specs.Io.KnownBytes.{Consumes}
use Rattle.std.specs.List.{AllByRecursion}
use Rattle.pgn_text.specs.Public.Limits.{largest_offset}
use Rattle.pgn_game.specs.Public.Segments.{Segment, FitsSegment, pack_text}
use Rattle.pgn_game.specs.Public.SegmentStreams.{SegmentWindow}
use Rattle.pgn_game.specs.Public.SegmentWriting.{all_records}
use Rattle.pgn_extract.specs.Public.Aims.{Aim}
use Rattle.pgn_extract.specs.Public.Searching.{Searches}

-- these segments are read and searched, the last of them the one that is held
pub record HasSearchedSegments (aim : Aim) (window : SegmentWindow)
    (left left' out out' : Option (List ℕ)) (count : ℕ) : Type 0 where
  pub before : List Segment
  pub fit : AllByRecursion FitsSegment before
  pub bytes : Consumes left left' (pack_text before)
  pub found : Searches aim (all_records before) out out' (record { records = count })
  pub place : window.place + window.size ≡ length (pack_text before)
  pub small : window.place + window.size ≤ largest_offset
  pub few : count ≤ window.place + window.size
