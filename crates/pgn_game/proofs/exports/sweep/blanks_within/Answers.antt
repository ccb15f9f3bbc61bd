use Rattle.std.proofs.Common.{ℕ, ◌<◌, ◌==◌, ap, ◌∙◌}
use Rattle.pgn_game.specs.Private.EvenComments.{is_odd}
use Rattle.pgn_game.proofs.exports.SweepFacts.{all_blanks, even_text}
use Rattle.pgn_game.proofs.exports.sweep.blanks_within.Goals as goal

pub returns : goal.returns
returns g c =
    let text = c.args.text.now in
    let same = c.padded-bytes.ensures in
    let blanks = λ (i : ℕ) (lt : i < g.row.N). c.places_of-blanks.ensures.lanes i lt
    ∙ ap (λ b. b == 32) (same i lt) in (
      even_text g.row.N c.requires.lanes text c.odd_places.result c.places_of-blanks.result
          c.places_of.result c.places_of-2.result c.places_of-3.result c.strays-found.result
          c.requires.few
          (λ i lt. c.odd_places.ensures i lt ∙ ap is_odd (same i lt)) blanks
          (λ i lt. c.places_of.ensures.lanes i lt ∙ ap (λ b. b == 37) (same i lt))
          (λ i lt. c.places_of-2.ensures.lanes i lt ∙ ap (λ b. b == 91) (same i lt))
          (λ i lt. c.places_of-3.ensures.lanes i lt ∙ ap (λ b. b == 69) (same i lt))
          c.if-found-ne0.false c.strays-found.ensures.first c.strays-found.ensures.next,
      all_blanks g.row.N text c.places_of-blanks.result c.requires.few blanks
          c.places_of-blanks.ensures.past,
    )
