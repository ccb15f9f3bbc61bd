use Rattle.pgn_criteria.proofs.Common.{◌≡◌, length, kind_letter, limit_after}
use Rattle.pgn_criteria.proofs.line.limits.limit_in.Given as goal

abbrev pub invariant-loop-rest : goal.invariant-loop-rest
invariant-loop-rest l = limit_after (kind_letter l.fn.kind) l.rest
    ≡ limit_after (kind_letter l.fn.kind) l.text

abbrev pub decreases-loop-rest : goal.decreases-loop-rest
decreases-loop-rest l = length l.rest
