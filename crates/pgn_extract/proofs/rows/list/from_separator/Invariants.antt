use Rattle.std.proofs.Common.{◌≡◌, length}
use Rattle.chess.specs.Shared.Runs.{after_run}
use Rattle.pgn_extract.proofs.rows.list.from_separator.Given as goal

abbrev pub invariant-loop-rest : goal.invariant-loop-rest
invariant-loop-rest l = after_run l.separator l.rest ≡ after_run l.separator l.text

abbrev pub decreases-loop-rest : goal.decreases-loop-rest
decreases-loop-rest l = length l.rest
