use Rattle.std.proofs.Common.{arith, refl}
use Rattle.pgn_criteria.specs.Private.Arrivals.{IsSuchPly}
use Rattle.pgn_criteria.proofs.MarkFacts.{plies_end, plies_on}
use Rattle.pgn_criteria.proofs.StandFacts.{rest_is}
use Rattle.pgn_criteria.proofs.by_record.is_shown.Goals as goal

pub loop-rest-init : goal.loop-rest-init
loop-rest-init c = λ none. none

pub loop-rest-preserved : goal.loop-rest-preserved
loop-rest-preserved c = λ later.
    c.loop-rest.invariant
    (plies_on (λ code. IsSuchPly c.args.sought code → ⊥) c.loop-rest.rest.now _
    c.in-len3-up.len_at_least (rest_is c.loop-rest.rest.now _ refl)
    (c.may_be.ensures c.if-may_be.false) later)

pub returns : goal.returns
returns c =
    λ none. c.loop-rest.invariant
    (plies_end (λ code. IsSuchPly c.args.sought code → ⊥) c.loop-rest.rest.now
    (omega (arith, c.in_default.len_below)))
