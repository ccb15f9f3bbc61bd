use Rattle.pgn_criteria.proofs.Common.{◌∷◌, [], arith, MayWrite}
use Rattle.pgn_criteria.proofs.DateFacts.{greatest_found, greatest_next}
use Rattle.pgn_criteria.proofs.dates.greatest_of.Goals as goal

pub returns-then-may_write : goal.returns-then-may_write
returns-then-may_write c =
    greatest_found (MayWrite 0 (c.args.tens ∷ c.args.units ∷ [])) 1 c.args.last
    c.loop-number.number c.loop-number-test.true c.loop-number.invariant.to
    c.loop-number.invariant.none (c.may_write.ensures.0 c.if-may_write.true)

pub loop-number-preserved : goal.loop-number-preserved
loop-number-preserved c = record {
  to = let to = c.loop-number.invariant.to in omega arith;
  none = greatest_next (MayWrite 0 (c.args.tens ∷ c.args.units ∷ [])) c.args.last
      c.loop-number.number c.loop-number-test.true c.loop-number.invariant.none
      (λ is. let t = c.may_write.ensures.1 is in cc (t, c.if-may_write.false));
}

pub returns : goal.returns
returns c n low high is =
    c.loop-number.invariant.none n (let over = c.loop-number-test.false in omega arith) high is
