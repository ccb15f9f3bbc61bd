use Rattle.pgn_criteria.proofs.Common.{ap, subst, Conditions, AreFixed}
use Rattle.pgn_criteria.proofs.ByMarkFacts.{fixed_marks}
use Rattle.pgn_criteria.proofs.alternative.Alternative.position_marks.Goals as goal

pub returns-in-None : goal.returns-in-None
returns-in-None c =
    let positions = ap (λ (a : Conditions). a.positions) c.self.view_is in
    fixed_marks c.marks.result c.args.self.now.positions
    (subst AreFixed positions (rw c.in-None.is at c.self.invariant))
    (rw positions at c.marks.ensures)
