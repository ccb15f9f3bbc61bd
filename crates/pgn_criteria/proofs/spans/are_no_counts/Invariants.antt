use Rattle.pgn_criteria.proofs.Common.{◌↔◌, drop, AreNoCounts}
use Rattle.pgn_criteria.proofs.spans.are_no_counts.Given as goal

abbrev pub invariant-loop-claim : goal.invariant-loop-claim
invariant-loop-claim l = AreNoCounts (drop l.claim-index l.claims) ↔ AreNoCounts l.claims
