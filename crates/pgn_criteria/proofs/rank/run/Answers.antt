use Rattle.std.proofs.Common.{◌+◌, ◌-◌, ◌≡◌, arith}
use Rattle.pgn_criteria.proofs.rank.PlaceFacts.{run_more, run_none}
use Rattle.pgn_criteria.proofs.rank.run.Goals as goal

pub loop-step-preserved : goal.loop-step-preserved
loop-step-preserved c = record {
  low = c.advance-now.ensures.low;
  goes_on = λ items.
      let left : c.args.count - c.loop-step.step ≡ (c.args.count - (c.loop-step.step + 1)) + 1 =
      omega arith in
      let one = run_more c.args.class c.args.squares.now c.loop-step.now c.advance-now.result
      (c.args.count - c.loop-step.step) (c.args.count
      - (c.loop-step.step + 1)) items c.told-squares left c.advance-now.ensures.after in
      let all = c.loop-step.invariant.goes_on items in
      (λ goes. all.0 (one.0 goes), λ goes. one.1 (all.1 goes));
}

pub returns-clause-goes_on : goal.returns-clause-goes_on
returns-clause-goes_on c items =
    let none : c.args.count - c.loop-step.step ≡ 0 = omega arith in
    let all = rw none at (c.loop-step.invariant.goes_on items).0 in
    let back = rw none at (c.loop-step.invariant.goes_on items).1 in
    let end = run_none c.args.class c.args.squares.now c.loop-step.now items in
    (λ ends. all (end.0 ends), λ goes. end.1 (back goes))
