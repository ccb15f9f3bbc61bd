use Rattle.pgn_extract.proofs.Common.{◌≡◌, None, sym, ap, subst, ◌∙◌, tag_in, fen_tag, IsStart}
use Rattle.pgn_extract.proofs.packed.kept_packed.start_of.Goals as goal

pub returns-in-None-clause-ok : goal.returns-in-None-clause-ok
returns-in-None-clause-ok c game replay packed own =
    let none : None ≡ tag_in fen_tag game.tags =
    c.in-None.ensures packed own.fits (sym own.shows) ∙ ap (tag_in fen_tag) own.kept.tags in
    subst (λ fen. IsStart fen c.start.result) none c.start.ensures.position
