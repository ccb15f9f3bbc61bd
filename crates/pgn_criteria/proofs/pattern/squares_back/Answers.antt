use Rattle.std.proofs.Common.{[], ◌∷◌, ◌∙◌, sym}
use Rattle.pgn_criteria.proofs.MirrorFacts.{row_flipped}
use Rattle.pgn_criteria.proofs.pattern.squares_back.Goals as goal

pub returns : goal.returns
returns g c =
    (λ i. c.man_on.ensures i ∷ c.man_on-2.ensures i ∷ c.man_on-3.ensures i ∷ c.man_on-4.ensures i
    ∷ c.man_on-5.ensures i ∷ c.man_on-6.ensures i ∷ c.man_on-7.ensures i
    ∷ c.man_on-8.ensures i ∷ [])
    ∙ sym (row_flipped (g.S.Seen.men c.args.position.now) c.args.rank c.requires.low
    c.requires.high)
