use Rattle.pgn_criteria.proofs.Common.{◌↔◌, IsTrue, ap, subst, Conditions, Heading, AllOfHeading}
use Rattle.pgn_criteria.proofs.alternative.Alternative.is_of_heading.Goals as goal

pub returns : goal.returns
returns g c =
    let heading : Heading = g.H.Headed.heading c.args.game.now in
    subst (λ x. IsTrue c.are_of_heading.result
    ↔ AllOfHeading heading x) (ap (λ (a : Conditions). a.games) c.self.view_is)
    (rw (← c.deref.ensures.value) c.are_of_heading.ensures)
