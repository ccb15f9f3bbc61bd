use Rattle.pgn_criteria.proofs.Common.{◌≡◌, ◌↔◌, IsTrue, length}
use Rattle.pgn_criteria.specs.Public.Walks.{Sight}
use Rattle.pgn_criteria.specs.Private.SeenPlies.{Fits, IsToldTo}
use Rattle.pgn_criteria.proofs.walked.marked_plies.Given as goal

abbrev pub invariant-loop-told : goal.invariant-loop-told
invariant-loop-told l = record {
  seen : Sight;
  turn : seen.turn ≡ l.turn;
  reports : IsTrue l.is ↔ Fits l.alternative.positions seen;
  to : IsToldTo l.alternative.positions l.start l.plies seen l.left l.told.items;
}

abbrev pub decreases-loop-told : goal.decreases-loop-told
decreases-loop-told l = length l.left
