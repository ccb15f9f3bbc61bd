use Rattle.pgn_criteria.proofs.Common.{◌↔◌, length, AreEntries}
use Rattle.pgn_criteria.proofs.line.limits.are_entries.Given as goal

abbrev pub invariant-loop-rest : goal.invariant-loop-rest
invariant-loop-rest l = AreEntries l.rest ↔ AreEntries l.text

abbrev pub decreases-loop-rest : goal.decreases-loop-rest
decreases-loop-rest l = length l.rest
