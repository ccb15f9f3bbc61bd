use Rattle.pgn_extract.proofs.Common.{◌≡◌, None, refl, sym, ap, subst, ◌∙◌, initial, tag_in}
use Rattle.pgn_extract.proofs.Common.{fen_tag, IsStart}
use Rattle.pgn_extract.proofs.PackedFacts.{sight_at_start}
use Rattle.pgn_extract.proofs.packed.begin.Goals as goal

pub returns-in-None-clause-ok : goal.returns-in-None-clause-ok
returns-in-None-clause-ok c game replay packed own =
    let none : None ≡ tag_in fen_tag game.tags =
    c.in-None.ensures packed own.fits (sym own.shows) ∙ ap (tag_in fen_tag) own.kept.tags in
    sight_at_start own initial (subst (λ fen. IsStart fen initial) none refl) c.args.walk.now
    c.requires.men c.requires.turn c.requires.marks
