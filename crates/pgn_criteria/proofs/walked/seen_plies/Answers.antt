use Rattle.pgn_criteria.proofs.Common.{refl, arith, subst, codes_in}
use Rattle.pgn_criteria.specs.Private.SeenPlies.{TellsSeen}
use Rattle.pgn_criteria.proofs.SeenPlyFacts.{all_fit, told_last, told_next}
use Rattle.pgn_criteria.proofs.StandFacts.{rest_is}
use Rattle.pgn_criteria.proofs.walked.seen_plies.Goals as goal

pub returns-then-is_free_of_positions : goal.returns-then-is_free_of_positions
returns-then-is_free_of_positions c =
    let none = c.is_free_of_positions.ensures.0 c.if-is_free_of_positions.true in
    rw none (all_fit c.args.start.now c.args.plies.now _
    (c.in_ok-vec.ensures.items_if_clones_equal (λ y same. same)))

pub loop-told-init : goal.loop-told-init
loop-told-init c more tells =
    rw c.in_ok-told.ensures.items
    (subst (λ s. TellsSeen c.args.alternative.now.positions s (codes_in c.args.plies.now) more)
    c.copy-walk.ensures tells)

pub returns-in_default-left : goal.returns-in_default-left
returns-in_default-left c =
    told_last c.args.alternative.now.positions c.args.start.now c.loop-told.walk c.args.plies.now
    c.loop-told.left.now c.loop-told.told.items c.push.new.self.items c.is_met.result
    c.loop-told.invariant c.in_ok-push.ensures.items c.is_met.ensures
    (omega (arith, c.in_default-left.len_below))

pub loop-told-preserved : goal.loop-told-preserved
loop-told-preserved c =
    rw c.step.ensures
    (told_next c.args.alternative.now.positions c.args.start.now c.loop-told.walk c.args.plies.now
    c.loop-told.left.now c.loop-told.told.items c.push.new.self.items c.is_met.result
    c.loop-told.invariant c.in_ok-push.ensures.items c.is_met.ensures _
    c.in-len3-up.len_at_least (rest_is c.loop-told.left.now _ refl))
