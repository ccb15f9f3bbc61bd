use Rattle.pgn_criteria.proofs.Common.{◌↔◌, Bool, IsTrue, drop, map, Placement, Side, has_marks}
use Rattle.pgn_criteria.proofs.Common.{AllSaid, seen}
use Rattle.pgn_criteria.proofs.by_marks.marks_of_all.Given as goal

abbrev pub invariant-loop-condition : goal.invariant-loop-condition
invariant-loop-condition l =
    (men : Placement) (turn : Side) (check stuck : Bool)
    → (IsTrue (has_marks l.set turn check stuck) × AllSaid men turn (IsTrue check) (IsTrue stuck)
    (map (seen (λ text. text.items)) (drop l.condition-index l.conditions)))
    ↔ AllSaid men turn (IsTrue check) (IsTrue stuck) (map (seen (λ text. text.items)) l.conditions)
