use Rattle.std.proofs.Common.{◌==◌}
use Rattle.pgn_criteria.proofs.Common.{◌≡◌, ◌+◌, ◌-◌, true, refl, arith, eqb-true, row, parted_at}
use Rattle.pgn_criteria.proofs.Common.{CanBeSplit, FitRanks, FitsPattern, items_of}
use Rattle.pgn_criteria.proofs.LayoutFacts.{lays_step, lays_end}
use Rattle.pgn_criteria.proofs.PatternFacts.{next_rank, last_rank}
use Rattle.pgn_criteria.proofs.layout.Layout.add_pattern.Goals.{then-branch, else-branch}
use Rattle.pgn_criteria.proofs.layout.Layout.add_pattern.Goals as goal

pub returns-then-is_all : goal.returns-then-is_all
returns-then-is_all c =
    let step = c.loop-step.step in
    let items = c.next_part.result.0.now in
    let rest = c.loop-step.rest.now in
    let parts = rw c.in_default.is at c.next_part.ensures in
    lays_end (λ p. FitsPattern p c.args.pattern.now) (λ p. 8 - step - 1
    ≡ 0) c.args.self.now c.add_rank.new.self true (step == 7)
    (lays_step (λ p. FitsPattern p c.args.pattern.now) (λ p.
    FitRanks p (8 - step) (parted_at 47 rest))
    (λ p. CanBeSplit (items_of items) (row p (8 - step))) (λ p. 8 - step - 1 ≡ 0)
    c.args.self.now c.loop-step.self c.add_rank.new.self c.loop-step.is_all c.in_ok-is_all.is_all
    true c.loop-step.invariant c.in_ok-is_all.ensures
    (λ p. last_rank p rest items step c.loop-step-test.true parts)
    (λ t. elim c.if-branch.branch [
      | then-branch w ↦ let both : c.loop-step.is_all ≡ true = cc (w.is_all-is, c.if-is_all.true) in
          (both, w.if-branch.true)
      | else-branch w ↦ absurd (cc (w.is_all-is, c.if-is_all.true))
    ]))
    (λ t. (refl, λ p. let is : step ≡ 7 = eqb-true step 7 t in omega arith))

pub loop-step-preserved : goal.loop-step-preserved
loop-step-preserved c =
    let step = c.loop-step.step in
    let items = c.next_part.result.0.now in
    let rest = c.loop-step.rest.now in
    let parts = rw c.in-Some.is at c.next_part.ensures in
    lays_step (λ p. FitsPattern p c.args.pattern.now) (λ p.
    FitRanks p (8 - step) (parted_at 47 rest))
    (λ p. CanBeSplit (items_of items) (row p (8 - step)))
    (λ p. FitRanks p (8 - (step + 1)) (parted_at 47 c.in-Some.after.now))
    c.args.self.now c.loop-step.self c.add_rank.new.self c.loop-step.is_all c.in_ok-is_all.is_all
    c.if-branch.is_all c.loop-step.invariant c.in_ok-is_all.ensures
    (λ p. next_rank p rest items c.in-Some.after.now step c.loop-step-test.true parts)
    (λ t. elim c.if-branch.branch [
      | then-branch w ↦ let both : c.loop-step.is_all ≡ true = cc (w.is_all-is, t) in
          (both, w.if-branch.true)
      | else-branch w ↦ absurd (cc (w.is_all-is, t))
    ])
