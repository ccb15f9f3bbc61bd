use Rattle.pgn_criteria.proofs.Common.{length}
use Rattle.pgn_criteria.specs.Private.SeenPlies.{IsToldTo}
use Rattle.pgn_criteria.proofs.walked.seen_plies.Given as goal

abbrev pub invariant-loop-told : goal.invariant-loop-told
invariant-loop-told l =
    IsToldTo l.alternative.positions l.start l.plies l.walk l.left l.told.items

abbrev pub decreases-loop-told : goal.decreases-loop-told
decreases-loop-told l = length l.left
