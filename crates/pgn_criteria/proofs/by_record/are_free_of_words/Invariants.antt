use Rattle.pgn_criteria.proofs.Common.{◌↔◌, drop, map, AllClaims, game_seen, stated}
use Rattle.pgn_criteria.specs.Private.Counted.{IsFreeOfWords}
use Rattle.pgn_criteria.proofs.by_record.are_free_of_words.Given as goal

abbrev pub invariant-loop-condition : goal.invariant-loop-condition
invariant-loop-condition l =
    AllClaims IsFreeOfWords
    (map (stated (game_seen (λ text. text.items))) (drop l.condition-index l.conditions))
    ↔ AllClaims IsFreeOfWords (map (stated (game_seen (λ text. text.items))) l.conditions)
