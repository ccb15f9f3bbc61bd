use Rattle.pgn_criteria.proofs.Common.{length, Placement, IsSquaresOf}
use Rattle.pgn_criteria.proofs.StandFacts.{IsFollowed}
use Rattle.pgn_criteria.proofs.prefilter_test.is_met_somewhere.Given as goal

abbrev pub invariant-loop-rest : goal.invariant-loop-rest
invariant-loop-rest g l = (men : Placement) → IsSquaresOf men l.fn.man l.fn.start
    → IsFollowed (g.T.PrefilterTest.stands l.stand l.fn.man) l.fn.man men l.plies l.squares l.taken
    l.rest

abbrev pub decreases-loop-rest : goal.decreases-loop-rest
decreases-loop-rest g l = length l.rest
