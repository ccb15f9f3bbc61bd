use Rattle.pgn_criteria.proofs.Common.{◌↔◌, drop, map, AllOfStage, seen}
use Rattle.pgn_criteria.proofs.meets.are_of_stage.Given as goal

abbrev pub invariant-loop-condition : goal.invariant-loop-condition
invariant-loop-condition g l =
    AllOfStage l.stage (g.S.Seen.men l.position) (g.S.Seen.turn l.position)
    (g.S.Seen.checked l.position) (g.S.Seen.stuck l.position)
    (map (seen (λ text. text.items)) (drop l.condition-index l.conditions))
    ↔ AllOfStage l.stage (g.S.Seen.men l.position) (g.S.Seen.turn l.position)
    (g.S.Seen.checked l.position) (g.S.Seen.stuck l.position)
    (map (seen (λ text. text.items)) l.conditions)
