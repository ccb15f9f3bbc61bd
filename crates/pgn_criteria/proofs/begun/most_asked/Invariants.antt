use Rattle.pgn_criteria.proofs.Common.{◌≤◌, ℕ, drop, map, AllClaims, game_seen, stated}
use Rattle.pgn_criteria.specs.Private.Counted.{AsksWords}
use Rattle.pgn_criteria.proofs.begun.most_asked.Given as goal

abbrev pub invariant-loop-condition : goal.invariant-loop-condition
invariant-loop-condition l =
    (n : ℕ) → l.most ≤ n → AllClaims (AsksWords n)
    (map (stated (game_seen (λ text. text.items))) (drop l.condition-index l.conditions))
    → AllClaims (AsksWords n) (map (stated (game_seen (λ text. text.items))) l.conditions)
