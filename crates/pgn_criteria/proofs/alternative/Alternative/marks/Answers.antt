use Rattle.pgn_criteria.proofs.Common.{ℕ, Option, Some, None, IsTrue, IfSome, Placement}
use Rattle.pgn_criteria.proofs.Common.{AreMarksOf, AllOfSeen, AreFreeOfMoves}
use Rattle.pgn_criteria.proofs.alternative.Alternative.marks.Goals as goal

-- what is so beside what a mark set tells
beside : (found : Option ℕ) (A : Type 0) (Tells : ℕ → Type 0) → A → IfSome found Tells
    → IfSome found (λ set. A × Tells set)
beside None A Tells here tells = tt
beside (Some set) A Tells here tells = (here, tells)

pub returns : goal.returns
returns c =
    beside c.position_marks.result (AreFreeOfMoves c.args.self.now)
    (λ set. (men : Placement)
    → AreMarksOf set (λ turn check stuck.
    AllOfSeen men turn (IsTrue check) (IsTrue stuck) c.args.self.now.positions))
    (c.is_free_of_moves.ensures.0 c.if-not-is_free_of_moves.false) c.position_marks.ensures
