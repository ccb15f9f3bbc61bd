use Rattle.pgn_criteria.proofs.Common.{◌↔◌, IsTrue, ap, subst, Conditions, Heading}
use Rattle.pgn_criteria.specs.Private.Counted.{AllOfCounted}
use Rattle.pgn_criteria.proofs.alternative.Alternative.is_of_counted.Goals as goal

pub returns : goal.returns
returns g c =
    let heading : Heading = g.H.Headed.heading c.args.game.now in
    subst (λ x. IsTrue c.are_of_counted.result
    ↔ AllOfCounted heading c.args.plies x) (ap (λ (a : Conditions). a.games) c.self.view_is)
    (rw (← c.deref.ensures.value) c.are_of_counted.ensures)
