use Rattle.pgn_criteria.proofs.Common.{ℕ, List, IsTrue, Placement, AreMarksOf, PositionCondition}
use Rattle.pgn_criteria.proofs.Common.{AllSaid}
use Rattle.pgn_criteria.proofs.alternative.PlannedConditions.marks.Goals as goal

abbrev Tells : List (PositionCondition (List ℕ)) → ℕ → Type 0
Tells conditions set = (men : Placement)
    → AreMarksOf set (λ turn check stuck. AllSaid men turn (IsTrue check) (IsTrue stuck) conditions)

pub returns : goal.returns
returns c = rw (← c.self.view_is) (rw (← c.deref.ensures.value) c.marks_of_all.ensures)
