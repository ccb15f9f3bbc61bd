use Rattle.pgn_criteria.proofs.Common.{subst, sym, Conditions}
use Rattle.pgn_criteria.specs.Private.Stages.{AllOfPly}
use Rattle.pgn_criteria.proofs.alternative.Alternative.words_are_shown.Goals as goal

pub returns : goal.returns
returns c none P replay by ply all =
    let shown = rw c.deref.ensures.value at c.words_are_shown.ensures in
    shown none P replay by ply
    (subst (λ (a : Conditions). AllOfPly replay ply a) (sym c.self.view_is) all)
