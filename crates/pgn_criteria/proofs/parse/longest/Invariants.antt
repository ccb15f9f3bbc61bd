use Rattle.pgn_criteria.proofs.Common.{◌≤◌, ℕ, drop, EachAsksWithin}
use Rattle.pgn_criteria.proofs.parse.longest.Given as goal

abbrev pub invariant-loop-alternative : goal.invariant-loop-alternative
invariant-loop-alternative l = (n : ℕ) → l.most ≤ n
    → EachAsksWithin n (drop l.alternative-index l.alternatives) → EachAsksWithin n (l.alternatives)
