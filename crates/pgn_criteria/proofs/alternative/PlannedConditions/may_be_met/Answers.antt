use Rattle.pgn_criteria.proofs.Common.{sym, subst, AllOfPatterns, codes_in, FitsPrefilter}
use Rattle.pgn_criteria.proofs.Common.{IsPrefilterOf}
use Rattle.pgn_criteria.proofs.StandFacts.{nowhere_of}
use Rattle.pgn_criteria.proofs.alternative.PlannedConditions.may_be_met.Goals as goal

pub returns-in-Some : goal.returns-in-Some
returns-in-Some g c = λ none.
    let own = c.in-Some.prefilter in
    let sifts : IsPrefilterOf c.self.inside.plan own =
    rw c.in-Some.is at c.self.invariant.prefiltered in
    nowhere_of (FitsPrefilter own) (λ men.
    AllOfPatterns men c.args.self.now) (g.S.Seen.men c.args.start.now)
    (codes_in c.args.plies.now)
    (λ p all.
    sifts p (c.self.invariant.planned.0 p (subst (AllOfPatterns p) (sym c.self.view_is) all)))
    (c.lets_through.ensures none)
