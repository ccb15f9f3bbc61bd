use Rattle.pgn_game.specs.Private.CodeWords.{HasReplayed}
use Rattle.pgn_game.proofs.pack.replaying.replay_codes.Given as goal

abbrev pub invariant-loop-ply : goal.invariant-loop-ply
invariant-loop-ply l =
    HasReplayed l.fn.start l.plies l.ply l.line.before.items l.here l.line.played.items
