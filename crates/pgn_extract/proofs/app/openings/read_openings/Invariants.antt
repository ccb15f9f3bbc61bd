-- The games that were read are lines.
use Rattle.pgn_extract.proofs.app.OpeningLines.{AreRead}
use Rattle.pgn_extract.proofs.app.openings.read_openings.Given as goal

abbrev pub invariant-loop-piece : goal.invariant-loop-piece
invariant-loop-piece l = AreRead l.initial.piece-iterator l.piece-iterator l.openings
