use Rattle.pgn_criteria.proofs.Common.{◌∷◌, [], arith, MayWrite}
use Rattle.pgn_criteria.proofs.DateFacts.{least_found, least_next}
use Rattle.pgn_criteria.proofs.dates.least_of.Goals as goal

pub returns-then-may_write : goal.returns-then-may_write
returns-then-may_write c =
    least_found (MayWrite 0 (c.args.tens ∷ c.args.units ∷ [])) c.args.first c.args.last
    c.loop-number.number c.loop-number.invariant.from c.loop-number-test.true
    c.loop-number.invariant.none (c.may_write.ensures.0 c.if-may_write.true)

pub loop-number-preserved : goal.loop-number-preserved
loop-number-preserved c = record {
  from = let from = c.loop-number.invariant.from in omega arith;
  none = least_next (MayWrite 0 (c.args.tens ∷ c.args.units ∷ [])) c.args.first
      c.loop-number.number c.loop-number.invariant.none
      (λ is. let t = c.may_write.ensures.1 is in cc (t, c.if-may_write.false));
}

pub returns : goal.returns
returns c n low high is =
    c.loop-number.invariant.none n low (let over = c.loop-number-test.false in omega arith) is
