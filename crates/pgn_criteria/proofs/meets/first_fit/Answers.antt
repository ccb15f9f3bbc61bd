use Rattle.pgn_criteria.proofs.Common.{◌≡◌, IsTrue, subst, inl, inr, arith, cases_lt}
use Rattle.pgn_criteria.proofs.Common.{slice_get_within, FitsAt}
use Rattle.pgn_criteria.proofs.meets.first_fit.Goals as goal

pub returns-then-fits_at : goal.returns-then-fits_at
returns-then-fits_at c = (
  c.loop-plies.invariant.from,
  c.loop-plies-test.true,
  c.fits_at.ensures.0 c.if-fits_at.true,
  c.loop-plies.invariant.none,
)

pub loop-plies-preserved : goal.loop-plies-preserved
loop-plies-preserved c = record {
  from = let low = c.loop-plies.invariant.from in omega arith;
  none = λ n low less fits. elim (cases_lt n c.loop-plies.plies) [
    | inl before ↦ c.loop-plies.invariant.none n low before fits
    | inr here ↦
        let same : n ≡ c.loop-plies.plies = omega arith in
        let met : IsTrue c.fits_at.result = c.fits_at.ensures.1
        (subst (FitsAt c.args.replayed.now c.args.alternative.now) same fits) in
        absurd (cc (met, c.if-fits_at.false))
  ];
}

pub returns-else-plies : goal.returns-else-plies
returns-else-plies c n low high fits =
    elim (cases_lt n c.loop-plies.plies) [
      | inl before ↦ c.loop-plies.invariant.none n low before fits
      | inr after ↦ let within = slice_get_within c.args.replayed.now.positions n fits.0 fits.1 in
          absurd (omega (arith, c.plies.ensures.positions))
    ]

pub returns-after-loop-plies : goal.returns-after-loop-plies
returns-after-loop-plies c n low high fits = c.loop-plies.invariant.none n low (omega arith) fits
