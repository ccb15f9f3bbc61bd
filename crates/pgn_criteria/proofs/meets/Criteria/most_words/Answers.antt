use Rattle.pgn_criteria.proofs.Common.{ap, subst, arith, AllClaims, Conditions}
use Rattle.pgn_criteria.proofs.CountedFacts.{words_ask_more}
use Rattle.pgn_criteria.proofs.MeetFacts.{alternatives_from}
use Rattle.pgn_criteria.specs.Private.Counted.{AsksWords}
use Rattle.pgn_criteria.proofs.meets.Criteria.most_words.Goals as goal

pub loop-alternative-preserved : goal.loop-alternative-preserved
loop-alternative-preserved c n above rest =
    let all = c.deref-alternative-items.result.now in
    let i = c.loop-alternative.alternative-index in
    let own = c.alternative-item.result in
    let front = alternatives_from all i own c.loop-alternative-test.true c.alternative-item.is in
    let asks : AllClaims (AsksWords c.most_asked.result) own.games =
    subst (AllClaims (AsksWords c.most_asked.result))
    (ap (λ (a : Conditions). a.games) c.alternative.view_is)
    (rw (← c.deref.ensures.value) c.most_asked.ensures) in
    c.loop-alternative.invariant n (omega (arith, above, c.larger-most.ensures))
    (rw front (
      words_ask_more c.most_asked.result n (omega (arith, above, c.larger-most.ensures)) own.games
          asks,
      rest,
    ))
