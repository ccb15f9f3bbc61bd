use Rattle.pgn_criteria.proofs.Common.{◌≡◌, ◌+◌, ◌∷◌, [], true, length, drop, subst, sym, ap, ◌∙◌}
use Rattle.pgn_criteria.proofs.Common.{arith, drop-length, AllOfPatterns, seen, stage_of, Squares}
use Rattle.pgn_criteria.specs.Private.Stages.{OfPattern}
use Rattle.pgn_criteria.proofs.MeetFacts.{alternatives_from, all_seen}
use Rattle.pgn_criteria.proofs.LayoutFacts.{lays_step, lays_end}
use Rattle.pgn_criteria.proofs.alternative.plan_all.Goals.{then-branch, else-branch}
use Rattle.pgn_criteria.proofs.alternative.plan_all.Goals as goal

pub loop-condition-preserved : goal.loop-condition-preserved
loop-condition-preserved c =
    let all = c.args.conditions.now in
    let i = c.loop-condition.condition-index in
    let own = c.condition-item.result in
    let front : all_seen (drop i all) ≡ seen (λ text. text.items) own
    ∷ all_seen (drop (i + 1) all) =
    ap all_seen (alternatives_from all i own c.loop-condition-test.true c.condition-item.is) in
    lays_step (λ p. AllOfPatterns p (all_seen all)) (λ p.
    AllOfPatterns p (all_seen (drop i all)))
    (λ p. stage_of (seen (λ text. text.items) own).claim ≡ Squares
    → OfPattern p (seen (λ text. text.items) own))
    (λ p. AllOfPatterns p (all_seen (drop (i + 1) all))) c.args.plan.now c.loop-condition.plan
    c.plan_one.new.plan c.loop-condition.is_all c.in_ok-is_all.is_all c.if-branch.is_all
    c.loop-condition.invariant c.in_ok-is_all.ensures
    (λ p. (
      λ holds. subst (AllOfPatterns p) front holds,
      λ both. subst (AllOfPatterns p) (sym front) both,
    ))
    (λ t. elim c.if-branch.branch [
      | then-branch w ↦ let both : c.loop-condition.is_all ≡ true = cc (w.is_all-is, t) in
          (both, w.if-branch.true)
      | else-branch w ↦ absurd (cc (w.is_all-is, t))
    ])

pub returns : goal.returns
returns c =
    let all = c.args.conditions.now in
    let i = c.loop-condition.condition-index in
    let end : i ≡ length all = omega arith in
    let none : all_seen (drop i all) ≡ [] =
    ap all_seen (ap (λ n. drop n all) end ∙ drop-length all) in
    lays_end (λ p. AllOfPatterns p (all_seen all)) (λ p.
    AllOfPatterns p (all_seen (drop i all))) c.args.plan.now c.loop-condition.plan
    c.loop-condition.is_all c.loop-condition.is_all
    c.loop-condition.invariant (λ t. (t, λ p. subst (AllOfPatterns p) (sym none) tt))
