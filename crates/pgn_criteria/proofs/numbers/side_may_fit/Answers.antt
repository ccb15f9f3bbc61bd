use Rattle.pgn_criteria.proofs.Common.{FitsSide, codes_in}
use Rattle.pgn_criteria.specs.Private.Counting.{FitsKind}
use Rattle.pgn_criteria.proofs.StandFacts.{nowhere_of}
use Rattle.pgn_criteria.proofs.numbers.side_may_fit.Goals as goal

pub returns-then-not-kind_may_fit : goal.returns-then-not-kind_may_fit
unfolding FitsKind
returns-then-not-kind_may_fit g c = λ same.
    nowhere_of _ (λ p. FitsSide p c.args.side c.args.limits.now) (g.S.Seen.men c.args.start.now)
    (codes_in c.args.plies.now) (λ p fits. fits _)
    (c.kind_may_fit.ensures c.if-not-kind_may_fit.true)
