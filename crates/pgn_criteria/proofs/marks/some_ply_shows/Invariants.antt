use Rattle.pgn_criteria.proofs.Common.{length, AllByRecursion, codes_in, LacksMarks}
use Rattle.pgn_criteria.proofs.marks.some_ply_shows.Given as goal

abbrev pub invariant-loop-rest : goal.invariant-loop-rest
invariant-loop-rest l = AllByRecursion (LacksMarks l.check l.stuck) (codes_in l.rest)
    → AllByRecursion (LacksMarks l.check l.stuck) (codes_in l.plies)

abbrev pub decreases-loop-rest : goal.decreases-loop-rest
decreases-loop-rest l = length l.rest
