use Rattle.pgn_criteria.proofs.Common.{ℕ, List, length, AllByRecursion, Side, PlyCode, NoneMeets}
use Rattle.pgn_criteria.proofs.Common.{IsNextMet, codes_in, LacksMarks, Needs}
use Rattle.pgn_criteria.proofs.marks.after_eights.Given as goal

abbrev pub invariant-loop-rest : goal.invariant-loop-rest
invariant-loop-rest l = record {
  lacks : AllByRecursion (LacksMarks l.check l.stuck) (codes_in l.rest)
      → AllByRecursion (LacksMarks l.check l.stuck) (codes_in l.plies);
  met : (set : ℕ) → Needs l.check l.stuck set → (turn : Side)
      → (NoneMeets set turn (codes_in l.rest) → NoneMeets set turn (codes_in l.plies))
      × ((side : Side) (left : List PlyCode) → IsNextMet set turn (codes_in l.rest) side left
      → IsNextMet set turn (codes_in l.plies) side left);
}

abbrev pub decreases-loop-rest : goal.decreases-loop-rest
decreases-loop-rest l = length l.rest
