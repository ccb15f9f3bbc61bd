-- The segments of a pack, one after another, as a reader gives them.
use Rattle.std.specs.Prelude.{◌≡◌, ◌≢◌, ℕ, ◌+◌, ◌<◌, Bool, true, false, List, [], length}
use Rattle.std.specs.Prelude.{Option, IfSome, Result, Ok, Err}
use Rattle.std.specs.Io.KnownBytes.{Consumes, IsAtEnd}
use Rattle.pgn_text.specs.Public.Limits.{largest_offset}
use Rattle.pgn_game.specs.Public.Segments.{Segment, FitsSegment, records_in, segment_at}
use Rattle.pgn_game.specs.Public.Segments.{segment_text}
use Rattle.pgn_game.specs.declared.pack.segments.SegmentsError.{SegmentsError}
use Rattle.pgn_game.specs.declared.pack.segments.SegmentsError.TheVariants.{Read, OutOfMemory}
use Rattle.pgn_game.specs.declared.pack.segments.SegmentsError.TheVariants.{Bad, InputTooLong}

-- what is held of a pack: the records of the segment that was stepped to, how many bytes this
-- segment has, and how many stand before it
pub record SegmentWindow : Type 0 where
  pub records : List ℕ
  pub size : ℕ
  pub place : ℕ

-- what is held before the first segment
abbrev pub no_segment_yet : SegmentWindow
no_segment_yet = record { records = []; size = 0; place = 0 }

-- a step read this segment
pub record ReadsSegment (segment : Segment) (left left' : Option (List ℕ)) : Type 0 where
  pub fits : FitsSegment segment
  pub bytes : Consumes left left' (segment_text segment)

-- what a step does, by its answer: a segment is held; or nothing is left; or what is left is
-- something, and this is the first fault of the segment in front of it
abbrev pub SegmentStep : SegmentWindow → Option (List ℕ) → Option (List ℕ)
    → Result Bool SegmentsError → Type 0
SegmentStep new left left' (Ok true) =
    (segment : Segment) × ReadsSegment segment left left' × (new.records ≡ records_in segment)
    × (new.size ≡ length (segment_text segment))
SegmentStep new left left' (Ok false) = Consumes left left' [] × IsAtEnd left'
SegmentStep new left left' (Err (Bad fault)) =
    IfSome left (λ whole. (whole ≢ []) × (segment_at whole ≡ Err fault))
SegmentStep new left left' (Err InputTooLong) =
    (segment : Segment) × ReadsSegment segment left left'
    × (largest_offset < new.place + length (segment_text segment))
SegmentStep new left left' (Err Read) = Unit {0}
SegmentStep new left left' (Err OutOfMemory) = Unit {0}
