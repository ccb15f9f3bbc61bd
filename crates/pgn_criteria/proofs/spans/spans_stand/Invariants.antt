use Rattle.pgn_criteria.proofs.Common.{◌↔◌, drop, SpansStand}
use Rattle.pgn_criteria.proofs.spans.spans_stand.Given as goal

abbrev pub invariant-loop-claim : goal.invariant-loop-claim
invariant-loop-claim l = SpansStand l.run l.many (drop l.claim-index l.claims)
    ↔ SpansStand l.run l.many l.claims
