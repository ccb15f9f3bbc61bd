use Rattle.chess.specs.Public.Sets.{size_of}
use Rattle.chess.proofs.board.AttackerFacts.{IsSearched}
use Rattle.chess.proofs.board.attack_tables.attackers_of.Given as goal

abbrev pub invariant-loop-square : goal.invariant-loop-square
invariant-loop-square l = IsSearched l.target l.seen l.occupied l.left l.set

abbrev pub decreases-loop-square : goal.decreases-loop-square
decreases-loop-square l = size_of l.left
