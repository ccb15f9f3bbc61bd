use Rattle.pgn_game.proofs.Common.{◌≡◌, length, is_shown}
use Rattle.pgn_game.proofs.pack.origin.is_shown.Given as goal

abbrev pub invariant-loop-rest : goal.invariant-loop-rest
invariant-loop-rest l = is_shown l.rest ≡ is_shown l.name

abbrev pub decreases-loop-rest : goal.decreases-loop-rest
decreases-loop-rest l = length l.rest
