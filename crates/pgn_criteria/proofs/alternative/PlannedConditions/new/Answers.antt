use Rattle.pgn_criteria.proofs.Common.{List, ℕ, Vec, Global, map, Plans, AllOfPatterns, seen}
use Rattle.pgn_criteria.proofs.Common.{PositionCondition}
use Rattle.pgn_criteria.proofs.alternative.PlannedConditions.new.Goals as goal

view : List (PositionCondition (Vec ℕ Global)) → List (PositionCondition (List ℕ))
view conditions = map (seen (λ text. text.items)) conditions

pub invariant_of-result : goal.invariant_of-result
unfolding view
invariant_of-result c =
    let plans : Plans (λ p. AllOfPatterns p (view c.args.conditions.items)) (λ p.
    Unit {0}) c.new-plan.result c.plan_all.new.plan c.in_ok-is_planned.is_planned =
    rw c.deref.ensures.value at c.in_ok-is_planned.ensures in
    record {
      sound = plans.sound c.new-plan.ensures.sound;
      rest = c.free-free.ensures;
      planned = (
        λ p all. (plans.needed p (c.new-plan.ensures.nothing p) all).0,
        λ so p planned. (plans.enough so p planned tt).1,
      );
      bare = (rw c.deref-2.ensures.value at c.are_patterns-is_bare.ensures).0;
      prefiltered = c.prefilter-prefilter.ensures;
    }
