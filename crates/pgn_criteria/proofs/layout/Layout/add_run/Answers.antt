use Rattle.pgn_criteria.proofs.Common.{◌+◌, true, refl, arith, Place, man_at, IsOf, EachFrom}
use Rattle.pgn_criteria.proofs.LayoutFacts.{lays_step, lays_end, each_step}
use Rattle.pgn_criteria.proofs.layout.Layout.add_run.Goals.{in-Some+in_ok-add, in_default}
use Rattle.pgn_criteria.proofs.layout.Layout.add_run.Goals as goal

pub loop-step-preserved : goal.loop-step-preserved
loop-step-preserved c =
    let class = c.args.class in
    let rank = c.args.rank in
    let before = c.args.before in
    let step = c.loop-step.step in
    let count = c.args.count in
    let here : Place = record { file = before + step + 1; rank = rank } in
    elim c.match-new.branch [
      | in-Some+in_ok-add w ↦
          rw w.self-is (lays_step (λ p. EachFrom p class rank before 0 count) (λ p. EachFrom p class
          rank before step count) (λ p. IsOf class (man_at p w.in-Some.square)) (λ p. EachFrom p
          class rank before (step + 1) count) c.args.self.now c.loop-step.self w.add.new.self true
          true true c.loop-step.invariant w.in_ok-add.ensures (λ p. rw w.in-Some.ensures.0
          (each_step p class rank before step count c.loop-step-test.true)) (λ t. (refl, refl)))
      | in_default w ↦ absurd
          ((rw w.in_default.is at c.new.ensures)
          (record {
            file_low = omega arith;
            file_high = omega arith;
            rank_low = omega arith;
            rank_high = omega arith;
          }))
    ]

pub returns : goal.returns
returns c =
    lays_end (λ p. EachFrom p c.args.class c.args.rank c.args.before 0 c.args.count) (λ p.
    EachFrom p c.args.class c.args.rank c.args.before c.loop-step.step c.args.count)
    c.args.self.now c.loop-step.self true true c.loop-step.invariant (λ t.
    (refl, λ p k low high. absurd (omega arith)))
