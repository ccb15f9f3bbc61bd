use Rattle.pgn_criteria.proofs.Common.{◌≡◌, ◌+◌, ◌<◌, ℕ, subst, inl, inr, arith, cases_lt}
use Rattle.pgn_criteria.proofs.Common.{slice_get_within, FitsAt}
use Rattle.pgn_criteria.proofs.spans.run_from.Goals as goal

-- the plies of a run and the next one
one_more : (Such : ℕ → Type 0) (ply run at : ℕ) → at ≡ ply + run
    → ((i : ℕ) → i < run → Such (ply + i)) → Such at → (i : ℕ) → i < run + 1 → Such (ply + i)
one_more Such ply run at reached all such i less = elim (cases_lt i run) [
  | inl before ↦ all i before
  | inr up ↦ let same : at ≡ ply + i = omega (arith, reached, up, less) in subst Such same such
]

pub returns-then-at-plies : goal.returns-then-at-plies
returns-then-at-plies c = record {
  all =
      one_more (FitsAt c.args.replayed.now c.args.alternative.now) c.args.plies c.loop-run.run
      c.loop-run.at c.loop-run.invariant.reached c.loop-run.invariant.all
      (c.fits_at.ensures.0 c.loop-run-test.true);
  ended = λ fits.
      let within = slice_get_within c.args.replayed.now.positions (c.args.plies
      + (c.loop-run.run + 1)) fits.0 fits.1 in
      omega (
        arith,
        within,
        c.loop-run.invariant.reached,
        c.if-at-plies.true,
        c.plies.ensures.positions,
      );
}

pub loop-run-preserved : goal.loop-run-preserved
loop-run-preserved c = record {
  reached = omega (arith, c.loop-run.invariant.reached);
  within = omega (arith, c.loop-run.invariant.within, c.if-at-plies.false, c.plies.ensures.count);
  all =
      one_more (FitsAt c.args.replayed.now c.args.alternative.now) c.args.plies c.loop-run.run
      c.loop-run.at c.loop-run.invariant.reached c.loop-run.invariant.all
      (c.fits_at.ensures.0 c.loop-run-test.true);
}

pub returns : goal.returns
returns c = record {
  all = c.loop-run.invariant.all;
  ended = λ fits.
      let t = c.fits_at.ensures.1
      (subst (FitsAt c.args.replayed.now c.args.alternative.now)
      (omega (arith, c.loop-run.invariant.reached)) fits) in
      absurd (cc (t, c.loop-run-test.false));
}
