use Rattle.pgn_game.specs.Private.PackWords.{HasPutReplayed}
use Rattle.pgn_game.proofs.pack.writing.put_replayed.Given as goal

abbrev pub invariant-loop-plies : goal.invariant-loop-plies
invariant-loop-plies l = HasPutReplayed l.replayed l.plies l.initial.out.items l.out.items
