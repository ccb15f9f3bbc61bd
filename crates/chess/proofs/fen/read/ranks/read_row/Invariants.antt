use Rattle.chess.proofs.Common.{length, IsRow}
use Rattle.chess.proofs.fen.read.ranks.read_row.Given as goal

abbrev pub invariant-loop-rest : goal.invariant-loop-rest
invariant-loop-rest l = IsRow l.squares l.file l.rest l.text

abbrev pub decreases-loop-rest : goal.decreases-loop-rest
decreases-loop-rest l = length l.rest
