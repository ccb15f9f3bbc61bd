use Rattle.pgn_criteria.proofs.Common.{sym, subst, AllOfPatterns, IsPrefilterOf}
use Rattle.pgn_criteria.proofs.alternative.PlannedConditions.may_stand.Goals as goal

pub returns-in-Some : goal.returns-in-Some
returns-in-Some g c = λ none all.
    let own = c.in-Some.prefilter in
    let men = g.S.Seen.men c.args.position.now in
    let sifts : IsPrefilterOf c.self.inside.plan own =
    rw c.in-Some.is at c.self.invariant.prefiltered in
    c.may_be_met.ensures none
    (sifts men
    (c.self.invariant.planned.0 men (subst (AllOfPatterns men) (sym c.self.view_is) all)))
