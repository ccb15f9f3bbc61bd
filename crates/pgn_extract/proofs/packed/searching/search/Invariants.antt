use Rattle.pgn_extract.proofs.Common.{◌≡◌, ◌+◌, ◌-◌, false, length, largest_offset, aim_of}
use Rattle.pgn_extract.proofs.Common.{HasSearched}
use Rattle.pgn_extract.proofs.packed.searching.search.Given as goal

abbrev pub invariant-loop-text : goal.invariant-loop-text
invariant-loop-text g l =
    HasSearched (aim_of l.settings) l.records (g.R.Read.remaining l.fn.input.inner)
    (g.R.Read.remaining l.input.inner) (g.O.Write.contents l.fn.out.inner)
    (g.O.Write.contents l.out.inner)
    l.text.items l.count × (l.input.faulted ≡ false) × (l.out.faulted ≡ false)

abbrev pub decreases-loop-text : goal.decreases-loop-text
decreases-loop-text g l = largest_offset - (l.records.place + length l.records.current)
