use Rattle.pgn_criteria.proofs.Common.{List, length, Side, PlyCode, NoneMeets, IsNextMet, codes_in}
use Rattle.pgn_criteria.proofs.by_marks.MarkSet.next.Given as goal

abbrev pub invariant-loop-rest : goal.invariant-loop-rest
invariant-loop-rest l = record {
  none : NoneMeets l.self.flags l.side (codes_in l.rest)
      → NoneMeets l.self.flags l.fn.turn (codes_in l.plies);
  found : (side : Side) (left : List PlyCode)
      → IsNextMet l.self.flags l.side (codes_in l.rest) side left
      → IsNextMet l.self.flags l.fn.turn (codes_in l.plies) side left;
}

abbrev pub decreases-loop-rest : goal.decreases-loop-rest
decreases-loop-rest l = length l.rest
