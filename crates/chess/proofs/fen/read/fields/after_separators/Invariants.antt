use Rattle.chess.proofs.Common.{◌≡◌, length, after_all}
use Rattle.chess.proofs.fen.read.fields.after_separators.Given as goal

abbrev pub invariant-loop-rest : goal.invariant-loop-rest
invariant-loop-rest l = after_all l.separator l.rest ≡ after_all l.separator l.text

abbrev pub decreases-loop-rest : goal.decreases-loop-rest
decreases-loop-rest l = length l.rest
