use Rattle.pgn_criteria.proofs.Common.{◌+◌, ◌≤◌, ◌<◌, length, FitsAt}
use Rattle.pgn_criteria.proofs.SpanFacts.{AreFrom}
use Rattle.pgn_criteria.proofs.spans.count_fitting.Given as goal

abbrev pub invariant-loop-plies : goal.invariant-loop-plies
invariant-loop-plies l = record {
  few : l.many + l.plies ≤ length l.replayed.played;
  bound : length l.replayed.played < 18446744073709551616;
  from : AreFrom (FitsAt l.replayed l.alternative) (l.plies + 1) l.many;
}

abbrev pub decreases-loop-plies : goal.decreases-loop-plies
decreases-loop-plies l = l.plies
