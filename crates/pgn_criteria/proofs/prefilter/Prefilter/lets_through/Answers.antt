use Rattle.pgn_criteria.proofs.Common.{inl, inr, subst, MatchOption, codes_in}
use Rattle.pgn_criteria.specs.Private.PrefilterTests.{FitsPrefilter, StaysAt, StaysOn}
use Rattle.pgn_criteria.proofs.StandFacts.{nowhere_of}
use Rattle.pgn_criteria.proofs.prefilter.Prefilter.lets_through.Goals as goal

pub returns-in-None : goal.returns-in-None
returns-in-None g c = λ none.
    let own = c.args.self.now in
    let men = g.S.Seen.men c.args.start.now in
    nowhere_of (StaysOn own.straight.stand own.man) (FitsPrefilter own) men
    (codes_in c.args.plies.now)
    (λ p fits. elim fits [
      | inl straight ↦ straight.his
      | inr turned ↦ absurd
          (subst (λ o. MatchOption o ⊥ (λ turned. StaysAt turned own.man p)) c.in-None.is turned)
    ])
    (c.is_met_somewhere.ensures men c.squares_with-squares.ensures none)
