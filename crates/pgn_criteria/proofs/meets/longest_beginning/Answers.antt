use Rattle.pgn_criteria.proofs.Common.{arith, game_seen}
use Rattle.pgn_criteria.proofs.MeetFacts.{alternatives_from}
use Rattle.pgn_criteria.proofs.BeginningFacts.{asks_more}
use Rattle.pgn_criteria.proofs.meets.longest_beginning.Goals as goal

pub loop-condition-preserved : goal.loop-condition-preserved
loop-condition-preserved c n above rest =
    let all = c.args.conditions.now in
    let i = c.loop-condition.condition-index in
    let own = c.condition-item.result in
    let front = alternatives_from all i own c.loop-condition-test.true c.condition-item.is in
    c.loop-condition.invariant n (omega (arith, above, c.larger-most.ensures))
    (rw front (
      asks_more c.beginning_of.result n (omega (arith, above, c.larger-most.ensures))
          (game_seen (λ text. text.items) own.claim) c.beginning_of.ensures,
      rest,
    ))
