use Rattle.pgn_criteria.proofs.Common.{sym, subst, arith, EachAsksWithin}
use Rattle.pgn_criteria.proofs.MeetFacts.{alternatives_from}
use Rattle.pgn_criteria.proofs.BeginningFacts.{all_ask_more}
use Rattle.pgn_criteria.proofs.parse.longest.Goals as goal

pub loop-alternative-preserved : goal.loop-alternative-preserved
loop-alternative-preserved c n above rest =
    let all = c.args.alternatives.now in
    let i = c.loop-alternative.alternative-index in
    let own = c.alternative-item.result in
    let front = alternatives_from all i own c.loop-alternative-test.true c.alternative-item.is in
    c.loop-alternative.invariant n (omega (arith, above, c.larger-most.ensures))
    (subst (EachAsksWithin n) (sym front) (
      all_ask_more c.in_ok-own.own n (omega (arith, above, c.larger-most.ensures)) own
          c.in_ok-own.ensures,
      rest,
    ))
