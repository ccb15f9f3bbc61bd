use Rattle.pgn_criteria.proofs.Common.{man_at, White, Black, IsOf, NoneOf, Other}
use Rattle.pgn_criteria.proofs.LayoutFacts.{lays_both, lays_like, both_sides}
use Rattle.pgn_criteria.proofs.layout.Layout.bar_men.Goals as goal

pub returns : goal.returns
returns c =
    let men = c.args.men in
    lays_like (λ p. NoneOf White men.white (man_at p c.args.square)
    × NoneOf Black men.black (man_at p c.args.square))
    (λ p. IsOf (Other men) (man_at p c.args.square)) _ _
    (λ p. both_sides men (man_at p c.args.square))
    (lays_both (λ p. NoneOf White men.white (man_at p c.args.square)) (λ p.
    NoneOf Black men.black (man_at p c.args.square)) _ _ _ c.in_ok-bar_kinds.ensures
    c.in_ok-bar_kinds-2.ensures)
