-- What was found so far is the opening of the positions so far.
use Rattle.pgn_game.specs.Public.Openings.{ends_of}
use Rattle.pgn_game.proofs.openings.CodedOpenings.{HasFound}
use Rattle.pgn_game.proofs.openings.Openings.opening_of_codes.Given as goal

abbrev pub invariant-loop-ply : goal.invariant-loop-ply
invariant-loop-ply l = HasFound (ends_of l.self) l.fn.start l.plies l.ply l.here l.found
