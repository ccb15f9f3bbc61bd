use Rattle.pgn_game.proofs.memory.own_plies.Given as goal

abbrev pub invariant-loop-left : goal.invariant-loop-left
invariant-loop-left l = Unit {0}

abbrev pub decreases-loop-left : goal.decreases-loop-left
decreases-loop-left l = l.left.steps
