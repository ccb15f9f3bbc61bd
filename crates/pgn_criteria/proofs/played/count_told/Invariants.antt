use Rattle.pgn_criteria.proofs.Common.{◌+◌, ◌≤◌, length}
use Rattle.pgn_criteria.proofs.SpanFacts.{AreFrom}
use Rattle.pgn_criteria.specs.Private.Told.{IsTold}
use Rattle.pgn_criteria.proofs.played.count_told.Given as goal

abbrev pub invariant-loop-ply : goal.invariant-loop-ply
invariant-loop-ply l = record {
  few : l.many + l.ply ≤ length l.told;
  from : AreFrom (IsTold l.told) l.ply l.many;
}

abbrev pub decreases-loop-ply : goal.decreases-loop-ply
decreases-loop-ply l = l.ply
