use Rattle.std.proofs.Common.{take}
use Rattle.pgn_criteria.proofs.layout.BesideFacts.{AreTurned}
use Rattle.pgn_criteria.proofs.layout.all_beside.Given as goal

abbrev pub invariant-loop-asked : goal.invariant-loop-asked
invariant-loop-asked l = AreTurned l.own.items (take l.asked-index l.all)
