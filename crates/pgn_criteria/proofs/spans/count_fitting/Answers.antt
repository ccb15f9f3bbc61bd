use Rattle.pgn_criteria.proofs.Common.{◌≡◌, ◌+◌, ◌-◌, ◌≤◌, ℕ, subst, sym, arith, slice_get_within}
use Rattle.pgn_criteria.proofs.Common.{FitsAt}
use Rattle.pgn_criteria.proofs.SpanFacts.{AreFrom, none_from, counted_before, from_first}
use Rattle.pgn_criteria.proofs.SpanFacts.{at_most_one}
use Rattle.pgn_criteria.proofs.spans.count_fitting.Goals as goal

pub loop-plies-init : goal.loop-plies-init
loop-plies-init c = record {
  few = omega (arith, c.plies-plies.ensures.count);
  bound = omega (arith, c.plies-plies.ensures.count);
  from = none_from (FitsAt c.args.replayed.now c.args.alternative.now) (c.plies-plies.result
      + 1) (λ ply fits.
      let within = slice_get_within c.args.replayed.now.positions ply fits.0 fits.1 in
      omega (arith, within, c.plies-plies.ensures.positions));
}

pub loop-plies-preserved : goal.loop-plies-preserved
loop-plies-preserved c =
    let Such : ℕ → Type 0 = FitsAt c.args.replayed.now c.args.alternative.now in
    let from : AreFrom Such c.loop-plies.plies (c.loop-plies.many + c.one_if-many.result) =
    rw c.one_if-many.ensures (counted_before Such c.loop-plies.plies c.loop-plies.many
    c.fits_at.result c.fits_at.ensures c.loop-plies.invariant.from) in
    let small : c.one_if-many.result ≤ 1 =
    subst (λ n. n ≤ 1) (sym c.one_if-many.ensures) (at_most_one c.fits_at.result) in
    let back : c.loop-plies.plies ≡ c.loop-plies.plies - 1 + 1 =
    omega (arith, c.if-plies-eq0.false) in
    record {
      few = omega (arith, small, c.loop-plies.invariant.few, c.if-plies-eq0.false);
      bound = c.loop-plies.invariant.bound;
      from = subst (λ n. AreFrom Such n (c.loop-plies.many + c.one_if-many.result)) back from;
    }

pub returns-then-plies-eq0 : goal.returns-then-plies-eq0
returns-then-plies-eq0 c =
    let Such : ℕ → Type 0 = FitsAt c.args.replayed.now c.args.alternative.now in
    let from : AreFrom Such c.loop-plies.plies (c.loop-plies.many + c.one_if-many.result) =
    rw c.one_if-many.ensures (counted_before Such c.loop-plies.plies c.loop-plies.many
    c.fits_at.result c.fits_at.ensures c.loop-plies.invariant.from) in
    from_first Such (c.loop-plies.many
    + c.one_if-many.result)
    (rw (← c.if-plies-eq0.true) from)
