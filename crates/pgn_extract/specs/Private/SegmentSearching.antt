-- The search of a pack of segments: of each segment in its order, as of all records together.
use Rattle.std.specs.Prelude.{◌≡◌, ◌≢◌, ℕ, List, [], ◌++◌, length, Option, Result, Err, IfSome}
use Rattle.std.specs.Prelude.{IfOk, IfErr}
use Rattle.std.specs.List.{AllByRecursion}
use Rattle.pgn_game.specs.Public.Segments.{Segment, FitsSegment, pack_text, records_in, segment_at}
use Rattle.pgn_game.specs.Public.Segments.{segment_text}
use Rattle.pgn_game.specs.Public.SegmentWriting.{ArePackOf, all_records}
use Rattle.pgn_game.specs.declared.pack.segments.SegmentsError.{SegmentsError}
use Rattle.pgn_game.specs.declared.pack.segments.SegmentsError.TheVariants.{Bad}
use Rattle.pgn_game.specs.declared.pack.segments.SegmentsError.TheVariants as unread
use Rattle.pgn_extract.specs.Public.Aims.{Aim}
use Rattle.pgn_extract.specs.Public.Searching.{Searches, ListsWhatWasPacked, IndexesWhatWasPacked}
use Rattle.pgn_extract.specs.Public.Searching.{StopsSearch}
use Rattle.pgn_extract.specs.declared.packed.pack_search.PackCause.{PackCause}
use Rattle.pgn_extract.specs.declared.packed.pack_search.PackCause.TheVariants.{Segments, Records}
use Rattle.pgn_extract.specs.declared.packed.pack_search.PackStop.{PackStop}
use Rattle.pgn_extract.specs.declared.packed.searching.SearchError.{SearchError}
use Rattle.pgn_extract.specs.declared.packed.searching.Searched.{Searched}

-- at `Ok`: the bytes are a pack, and so its records were searched
pub record SearchesPack (aim : Aim) (whole : List ℕ) (out out' : Option (List ℕ))
    (searched : Searched) : Type 0 where
  pub segments : List Segment
  pub are : ArePackOf segments whole
  pub found : Searches aim (all_records segments) out out' searched
  pub lists : ListsWhatWasPacked aim (all_records segments) out out'
  pub indexes : IndexesWhatWasPacked aim (all_records segments) out out'

-- the bytes begin with these segments, which were searched as one pack
pub record BeginsWithSegments (aim : Aim) (whole : List ℕ) (before : List Segment)
    (rest : List ℕ) (out there : Option (List ℕ)) : Type 0 where
  pub fit : AllByRecursion FitsSegment before
  pub parted : whole ≡ pack_text before ++ rest
  pub searched : Searched
  pub found : Searches aim (all_records before) out there searched

-- where no further segment is read: at bytes of which this is the first fault; or for another
-- reason
abbrev pub StopsUnread : SegmentsError → List ℕ → Type 0
StopsUnread (Bad fault) rest = (rest ≢ []) × (segment_at rest ≡ Err fault)
StopsUnread unread.Read rest = Unit {0}
StopsUnread unread.OutOfMemory rest = Unit {0}
StopsUnread unread.InputTooLong rest = Unit {0}

-- where a search stops in front of a segment: those before it were searched, and nothing else was
-- written
pub record StopsBetween (aim : Aim) (whole : List ℕ) (stop : PackStop) (error : SegmentsError)
    (out out' : Option (List ℕ)) : Type 0 where
  pub before : List Segment
  pub rest : List ℕ
  pub read : BeginsWithSegments aim whole before rest out out'
  pub place : stop.place ≡ length (pack_text before)
  pub fault : StopsUnread error rest

-- where it stops in a segment: those before it were searched, and then a part of this one
pub record StopsInside (aim : Aim) (whole : List ℕ) (stop : PackStop) (error : SearchError)
    (out out' : Option (List ℕ)) : Type 0 where
  pub before : List Segment
  pub segment : Segment
  pub rest : List ℕ
  pub there : Option (List ℕ)
  pub read : BeginsWithSegments aim whole before (segment_text segment ++ rest) out there
  pub place : stop.place ≡ length (pack_text before)
  pub left : Option (List ℕ)
  pub stopped : StopsSearch error aim (records_in segment) left there out'

-- so it stops, by its cause
abbrev pub StopsByCause : PackCause → Aim → List ℕ → PackStop → Option (List ℕ) → Option (List ℕ)
    → Type 0
StopsByCause (Segments error) aim whole stop out out' = StopsBetween aim whole stop error out out'
StopsByCause (Records error) aim whole stop out out' = StopsInside aim whole stop error out out'

-- So a search of a pack ends, of an input whose bytes are known.
pub record IsPackSearch (aim : Aim) (left out out' : Option (List ℕ))
    (result : Result Searched PackStop) : Type 0 where
  pub done : IfOk result (λ searched.
      IfSome left (λ whole. SearchesPack aim whole out out' searched))
  pub stopped : IfErr result (λ stop.
      IfSome left (λ whole. StopsByCause stop.cause aim whole stop out out'))
