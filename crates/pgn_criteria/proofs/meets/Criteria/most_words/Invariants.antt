use Rattle.pgn_criteria.proofs.Common.{◌≤◌, ℕ, drop}
use Rattle.pgn_criteria.specs.Private.Counted.{AskWords}
use Rattle.pgn_criteria.specs.Private.Stages.{EachIs}
use Rattle.pgn_criteria.proofs.meets.Criteria.most_words.Given as goal

abbrev pub invariant-loop-alternative : goal.invariant-loop-alternative
invariant-loop-alternative l =
    (n : ℕ) → l.most ≤ n
    → EachIs (AskWords n) (drop l.alternative-index l.alternative-items)
    → EachIs (AskWords n) l.self
