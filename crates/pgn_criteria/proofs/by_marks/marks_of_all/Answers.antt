use Rattle.pgn_criteria.proofs.Common.{◌≡◌, ◌+◌, ◌∷◌, [], length, drop, map, sym, subst, ap, ◌∙◌}
use Rattle.pgn_criteria.proofs.Common.{arith, drop-length, AllSaid, seen}
use Rattle.pgn_criteria.proofs.ByMarkFacts.{has_all, said_on}
use Rattle.pgn_criteria.proofs.MeetFacts.{alternatives_from}
use Rattle.pgn_criteria.proofs.by_marks.marks_of_all.Goals as goal

pub loop-condition-init : goal.loop-condition-init
loop-condition-init c =
    λ men turn check stuck. (λ all. all.1, λ all. (has_all turn check stuck, all))

pub loop-condition-preserved : goal.loop-condition-preserved
loop-condition-preserved c =
    let all = c.args.conditions.now in
    let i = c.loop-condition.condition-index in
    let own = c.condition-item.result in
    let view = map (seen (λ text. text.items)) in
    let front : view (drop i all) ≡ seen (λ text. text.items) own ∷ view (drop (i + 1) all) =
    ap view (alternatives_from all i own c.loop-condition-test.true c.condition-item.is) in
    let tells = rw c.in-Some.is at c.marks_of.ensures in
    λ men turn check stuck.
    said_on turn check stuck men c.loop-condition.set c.in-Some.own (view (drop i all))
    (view (drop (i + 1) all)) (view all) (seen (λ text. text.items) own) front
    (tells men turn check stuck) (c.loop-condition.invariant men turn check stuck)

pub returns : goal.returns
returns c =
    let all = c.args.conditions.now in
    let end : c.loop-condition.condition-index ≡ length all = omega arith in
    let view = map (seen (λ text. text.items)) in
    let none : view (drop c.loop-condition.condition-index all) ≡ [] =
    ap (λ n. view (drop n all)) end ∙ ap view (drop-length all) in
    λ men turn check stuck.
    let tells = c.loop-condition.invariant men turn check stuck in
    (λ has. tells.0 (has, subst (AllSaid men turn _ _) (sym none) tt), λ said. (tells.1 said).0)
