use Rattle.pgn_criteria.proofs.Common.{White, Black, FitsSide, FitsMaterial, codes_in}
use Rattle.pgn_criteria.proofs.StandFacts.{nowhere_of}
use Rattle.pgn_criteria.proofs.numbers.sides_may_fit.Goals as goal

pub returns-then-not-side_may_fit : goal.returns-then-not-side_may_fit
returns-then-not-side_may_fit g c = λ same.
    nowhere_of (λ p. FitsSide p White c.args.white.now) (λ p.
    FitsMaterial p c.args.white.now c.args.black.now) (g.S.Seen.men c.args.start.now)
    (codes_in c.args.plies.now)
    (λ p fits. fits.0) (c.side_may_fit.ensures c.if-not-side_may_fit.true)

pub returns : goal.returns
returns g c = λ none.
    nowhere_of (λ p. FitsSide p Black c.args.black.now) (λ p.
    FitsMaterial p c.args.white.now c.args.black.now) (g.S.Seen.men c.args.start.now)
    (codes_in c.args.plies.now)
    (λ p fits. fits.1) (c.side_may_fit-2.ensures none)
