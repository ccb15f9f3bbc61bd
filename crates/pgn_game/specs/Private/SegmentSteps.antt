-- What the bytes that are held show of the segment that is stepped to.
use Rattle.std.specs.Prelude.{◌≡◌, ◌≢◌, ℕ, ◌+◌, ◌<◌, ◌≤◌, Bool, true, false, List, [], length}
use Rattle.std.specs.Prelude.{Option, Some, None, IfSome, Result, Ok, Err}
use Rattle.std.specs.Io.KnownBytes.{Consumes, IsAtEnd}
use Rattle.pgn_text.specs.Public.Limits.{largest_offset}
use Rattle.pgn_game.specs.Public.Segments.{Segment, FitsSegment, records_in, segment_at}
use Rattle.pgn_game.specs.Public.Segments.{segment_text}
use Rattle.pgn_game.specs.Private.PackSteps.{ReadsOn}
use Rattle.pgn_game.specs.declared.pack.error.SegmentError.{SegmentError}
use Rattle.pgn_game.specs.declared.pack.segments.SegmentsError.{SegmentsError}
use Rattle.pgn_game.specs.declared.pack.segments.SegmentsError.TheVariants.{Read, OutOfMemory}
use Rattle.pgn_game.specs.declared.pack.segments.SegmentsError.TheVariants.{Bad, InputTooLong}

-- what a function answered, with what is seen of a value, is what reading gives
abbrev pub Gives : {X Y : Type 0} → (X → Y) → Result X SegmentError → Result Y SegmentError → Type 0
Gives view (Ok x) read = read ≡ Ok (view x)
Gives view (Err e) read = read ≡ Err e

-- so many bytes are held, or all that were left and fewer
abbrev pub Fills : ℕ → List ℕ → List ℕ → Option (List ℕ) → Option (List ℕ)
    → Result Bool SegmentsError → Type 0
Fills size held held' left left' (Ok true) = ReadsOn held held' left left' × (length held' ≡ size)
Fills size held held' left left' (Ok false) =
    ReadsOn held held' left left' × (length held' < size) × IsAtEnd left'
Fills size held held' left left' (Err error) = Unit {0}

-- what is held is a segment with so many bytes of records; or nothing is left; or the first fault
-- of what was left is this one
abbrev pub HoldsSegment : List ℕ → Option (List ℕ) → Option (List ℕ)
    → Result (Option ℕ) SegmentsError → Type 0
HoldsSegment held left left' (Ok (Some count)) =
    (segment : Segment) × FitsSegment segment × (held ≡ segment_text segment)
    × Consumes left left' held × (count ≡ length (records_in segment))
HoldsSegment held left left' (Ok None) = Consumes left left' [] × IsAtEnd left'
HoldsSegment held left left' (Err (Bad fault)) =
    IfSome left (λ whole. (whole ≢ []) × (segment_at whole ≡ Err fault))
HoldsSegment held left left' (Err InputTooLong) = ⊥
HoldsSegment held left left' (Err Read) = Unit {0}
HoldsSegment held left left' (Err OutOfMemory) = Unit {0}

-- the records lie within the bytes that are held, and the segment ends within the largest offset
pub record LiesInside (held : List ℕ) (begin count size place : ℕ) : Type 0 where
  pub within : begin + count ≤ length held
  pub room : place + size ≤ largest_offset
