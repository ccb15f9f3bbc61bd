use Rattle.pgn_criteria.proofs.Common.{true, false, refl, ap, position_seen, Fen, Flip}
use Rattle.pgn_criteria.proofs.PlanFacts.{planned_claim}
use Rattle.pgn_criteria.proofs.alternative.plan_one.Goals as goal

pub returns-then-condition : goal.returns-then-condition
returns-then-condition c =
    let condition = c.args.condition.now in
    planned_claim c.add_denied.result c.args.plan.now c.add_denied.new.self condition.is_denied true
    (position_seen (λ text. text.items) condition.claim) (Fen c.in-Fen.pattern.items)
    c.if-condition.true (ap (position_seen (λ text. text.items)) c.in-Fen.is) refl
    (rw c.deref.ensures.value at c.add_denied.ensures)

pub returns-else-condition : goal.returns-else-condition
returns-else-condition c =
    let condition = c.args.condition.now in
    planned_claim c.add_pattern.result c.args.plan.now c.add_pattern.new.self condition.is_denied
    false (position_seen (λ text. text.items) condition.claim) (Fen c.in-Fen.pattern.items)
    c.if-condition.false (ap (position_seen (λ text. text.items)) c.in-Fen.is) refl
    (rw c.deref-else-condition.ensures.value at c.add_pattern.ensures)

pub returns-then-condition-2 : goal.returns-then-condition-2
returns-then-condition-2 c =
    let condition = c.args.condition.now in
    planned_claim c.add_no_way.result c.args.plan.now c.add_no_way.new.self condition.is_denied true
    (position_seen (λ text. text.items) condition.claim) (Flip c.in-Flip.pattern.items)
    c.if-condition-2.true (ap (position_seen (λ text. text.items)) c.in-Flip.is) refl
    (rw c.deref-then-condition-2.ensures.value at c.add_no_way.ensures)

pub returns-else-condition-2 : goal.returns-else-condition-2
returns-else-condition-2 c =
    let condition = c.args.condition.now in
    planned_claim c.add_ways.result c.args.plan.now c.add_ways.new.self condition.is_denied false
    (position_seen (λ text. text.items) condition.claim) (Flip c.in-Flip.pattern.items)
    c.if-condition-2.false (ap (position_seen (λ text. text.items)) c.in-Flip.is) refl
    (rw c.deref-else-condition-2.ensures.value at c.add_ways.ensures)
