use Rattle.pgn_criteria.proofs.Common.{subst, ArePatterns}
use Rattle.pgn_criteria.proofs.SeenFacts.{patterns_rest}
use Rattle.pgn_criteria.proofs.alternative.PlannedConditions.rest_is_met.Goals as goal

pub returns-then-self : goal.returns-then-self
returns-then-self g c = (
  λ t. patterns_rest (g.S.Seen.men c.args.position.now) (g.S.Seen.turn c.args.position.now)
      (g.S.Seen.checked c.args.position.now) (g.S.Seen.stuck c.args.position.now)
      c.args.self.now (subst ArePatterns c.self.view_is (c.self.invariant.bare t)),
  λ all. c.if-self.true,
)
