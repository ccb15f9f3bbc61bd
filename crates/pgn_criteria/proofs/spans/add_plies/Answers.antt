use Rattle.pgn_criteria.proofs.Common.{◌↔◌, ◌⊎◌, ◌<◌, false, get_or, length, IsTrue, sym, ◌∙◌, inl}
use Rattle.pgn_criteria.proofs.Common.{inr, arith, FitsAt, FitsAbout}
use Rattle.pgn_criteria.proofs.SpanFacts.{reports_about, run_known, done_more, left_more}
use Rattle.pgn_criteria.proofs.spans.add_plies.Goals.{then-met-ply, else-met-ply}
use Rattle.pgn_criteria.proofs.spans.add_plies.Goals as goal

pub loop-ply-preserved : goal.loop-ply-preserved
loop-ply-preserved c =
    let replay = c.args.replayed.now in
    let own = c.args.alternative.now in
    let at = c.loop-ply.ply in
    let now = c.loop-ply.met in
    let reports =
    reports_about replay own at c.run_on-run.result c.many_of-many.result c.run_on-run.ensures
    c.many_of-many.ensures in
    let within : at < length now = omega (arith, c.loop-ply-test.true, c.loop-ply.auto.met) in
    let here : IsTrue c.if-met-ply.met ↔ (IsTrue (get_or now at false) ⊎ FitsAbout replay own at) =
    elim c.if-met-ply.branch [
      | then-met-ply w ↦ (λ t. inl w.if-met-ply.true, λ either. w.met-is ∙ w.if-met-ply.true)
      | else-met-ply w ↦ (
        λ t. inr (reports.0 (w.stands_about.ensures.0 (sym w.met-is ∙ t))),
        λ either. elim either [
          | inl own ↦ let clash = w.if-met-ply.false in absurd (cc (own, clash))
          | inr about ↦ w.met-is ∙ w.stands_about.ensures.1 (reports.1 about)
        ],
      )
    ] in
    record {
      done = done_more c.args.met.now now (FitsAbout replay own) at c.if-met-ply.met within
          c.loop-ply.invariant.left c.loop-ply.invariant.done here;
      left = left_more c.args.met.now now (FitsAbout replay own) at c.if-met-ply.met within
          c.loop-ply.invariant.left;
      known = run_known (FitsAt replay own) at c.run_on-run.result c.checked_sub-known.result
          c.run_on-run.ensures c.checked_sub-known.ensures;
    }
