use Rattle.pgn_game.proofs.explain.NamedMoves.{HasNamed}
use Rattle.pgn_game.proofs.explain.named_moves.Given as goal

abbrev pub invariant-loop-index : goal.invariant-loop-index
invariant-loop-index l = HasNamed l.position l.word l.index l.moves.items
