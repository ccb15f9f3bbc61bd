use Rattle.pgn_criteria.proofs.Common.{◌↔◌, length, parted_at, AreNames}
use Rattle.pgn_criteria.proofs.line.tag.are_names.Given as goal

abbrev pub invariant-loop-after : goal.invariant-loop-after
invariant-loop-after l = AreNames (parted_at 124 l.rest) ↔ AreNames (parted_at 124 l.text)

abbrev pub decreases-loop-after : goal.decreases-loop-after
decreases-loop-after l = length (parted_at 124 l.rest)
