use Rattle.pgn_extract.proofs.Common.{◌≡◌, ◌+◌, ◌-◌, false, largest_offset, aim_of}
use Rattle.pgn_extract.specs.Private.SegmentsSearched.{HasSearchedSegments}
use Rattle.pgn_extract.proofs.packed.pack_search.search_segments.Given as goal

abbrev pub invariant-loop-error : goal.invariant-loop-error
invariant-loop-error g l =
    HasSearchedSegments (aim_of l.settings) l.segments (g.R.Read.remaining l.fn.input.inner)
    (g.R.Read.remaining l.input.inner) (g.O.Write.contents l.fn.out.inner)
    (g.O.Write.contents l.out.inner) l.count × (l.input.faulted ≡ false) × (l.out.faulted ≡ false)

abbrev pub decreases-loop-error : goal.decreases-loop-error
decreases-loop-error g l = largest_offset - (l.segments.place + l.segments.size)
