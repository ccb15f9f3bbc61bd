use Rattle.pgn_criteria.proofs.Common.{◌≡◌, subst, inl, inr, arith, cases_lt, slice_get_within}
use Rattle.pgn_criteria.proofs.Common.{FitsAt, FitsAbout}
use Rattle.pgn_criteria.proofs.SpanFacts.{reports_about, run_known}
use Rattle.pgn_criteria.proofs.spans.first_about.Goals as goal

pub loop-plies-preserved : goal.loop-plies-preserved
loop-plies-preserved c =
    let replay = c.args.replayed.now in
    let own = c.args.alternative.now in
    let at = c.loop-plies.plies in
    let reports =
    reports_about replay own at c.run_on-run.result c.many_of-many.result c.run_on-run.ensures
    c.many_of-many.ensures in
    record {
      from = omega (arith, c.loop-plies.invariant.from);
      none = λ n low less fits. elim (cases_lt n at) [
        | inl before ↦ c.loop-plies.invariant.none n low before fits
        | inr up ↦
            let same : n ≡ at = omega (arith, up, less) in
            let t = c.stands_about.ensures.1 (reports.1 (subst (FitsAbout replay own) same fits)) in
            absurd (cc (t, c.if-stands_about.false))
      ];
      known = run_known (FitsAt replay own) at c.run_on-run.result c.checked_sub-known.result
          c.run_on-run.ensures c.checked_sub-known.ensures;
    }

pub returns-then-stands_about : goal.returns-then-stands_about
returns-then-stands_about c =
    let replay = c.args.replayed.now in
    let own = c.args.alternative.now in
    let at = c.loop-plies.plies in
    let reports =
    reports_about replay own at c.run_on-run.result c.many_of-many.result c.run_on-run.ensures
    c.many_of-many.ensures in (
      c.loop-plies.invariant.from,
      c.loop-plies-test.true,
      reports.0 (c.stands_about.ensures.0 c.if-stands_about.true),
      c.loop-plies.invariant.none,
    )

pub returns-else-plies : goal.returns-else-plies
returns-else-plies c n low high fits =
    elim (cases_lt n c.loop-plies.plies) [
      | inl before ↦ c.loop-plies.invariant.none n low before fits
      | inr after ↦
          let within = slice_get_within c.args.replayed.now.positions n fits.0.0 fits.0.1 in
          absurd (omega (arith, within, after, c.if-plies.false, c.plies.ensures.positions))
    ]

pub returns-after-loop-plies : goal.returns-after-loop-plies
returns-after-loop-plies c n low high fits =
    c.loop-plies.invariant.none n low (omega (arith, high, c.loop-plies-test.false)) fits
