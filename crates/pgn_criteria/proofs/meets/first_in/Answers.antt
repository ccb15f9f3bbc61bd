use Rattle.pgn_criteria.proofs.Common.{◌≡◌, length, take, subst, ap, ◌∙◌, arith, take-length}
use Rattle.pgn_criteria.proofs.Common.{heading_of, Heading, Meets, IsFirst}
use Rattle.pgn_criteria.proofs.MeetFacts.{good_from, alternatives_to}
use Rattle.pgn_criteria.proofs.meets.first_in.Goals as goal

pub sooner-best-requires-clause-good : goal.sooner-best-requires-clause-good
sooner-best-requires-clause-good c =
    (good_from c.args.alternatives.now c.loop-alternative.alternative-index
    c.alternative-item.result c.loop-alternative-test.true c.alternative-item.is
    c.loop-alternative.invariant.good).0

pub loop-alternative-preserved : goal.loop-alternative-preserved
loop-alternative-preserved c =
    let heading : Heading = heading_of c.args.game.now in
    let all = c.args.alternatives.now in
    let i = c.loop-alternative.alternative-index in
    let own = c.alternative-item.result in
    record {
      good = (good_from all i own c.loop-alternative-test.true c.alternative-item.is
          c.loop-alternative.invariant.good).1;
      first =
          rw (alternatives_to all i own c.loop-alternative-test.true c.alternative-item.is)
          (c.sooner-best.ensures (take i all) c.loop-alternative.invariant.first);
    }

pub returns : goal.returns
returns c =
    let heading : Heading = heading_of c.args.game.now in
    let all = c.args.alternatives.now in
    let i = c.loop-alternative.alternative-index in
    let end : i ≡ length all = omega arith in
    subst (λ x.
    IsFirst (λ plies. Meets heading c.args.replayed.now plies x) c.args.min c.args.max
    c.loop-alternative.best) (ap (λ n. take n all) end ∙ take-length all)
    c.loop-alternative.invariant.first
