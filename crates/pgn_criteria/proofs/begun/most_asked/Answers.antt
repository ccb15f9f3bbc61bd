use Rattle.pgn_criteria.proofs.Common.{arith, game_seen}
use Rattle.pgn_criteria.proofs.CountedFacts.{word_asks_more}
use Rattle.pgn_criteria.proofs.MeetFacts.{alternatives_from}
use Rattle.pgn_criteria.proofs.begun.most_asked.Goals as goal

pub loop-condition-preserved : goal.loop-condition-preserved
loop-condition-preserved c n above rest =
    let all = c.args.conditions.now in
    let i = c.loop-condition.condition-index in
    let own = c.condition-item.result in
    let front = alternatives_from all i own c.loop-condition-test.true c.condition-item.is in
    c.loop-condition.invariant n (omega (arith, above, c.larger-most.ensures))
    (rw front (
      word_asks_more c.words_asked.result n (omega (arith, above, c.larger-most.ensures))
          (game_seen (λ text. text.items) own.claim) c.words_asked.ensures,
      rest,
    ))
