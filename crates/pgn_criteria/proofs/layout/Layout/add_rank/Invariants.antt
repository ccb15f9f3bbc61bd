use Rattle.pgn_criteria.proofs.Common.{◌≤◌, true, drop, length, row, Lays, CanBeSplit, items_of}
use Rattle.pgn_criteria.proofs.layout.Layout.add_rank.Given as goal

abbrev pub invariant-loop-rest : goal.invariant-loop-rest
invariant-loop-rest l = record {
  within : l.taken ≤ 8;
  lays : Lays (λ p. CanBeSplit (items_of l.items) (row p l.rank)) (λ p.
      CanBeSplit (items_of l.rest) (drop l.taken (row p l.rank))) l.fn.self l.self true;
}

abbrev pub decreases-loop-rest : goal.decreases-loop-rest
decreases-loop-rest l = length l.rest
