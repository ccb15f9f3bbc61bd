use Rattle.pgn_extract.proofs.Common.{◌≡◌, None, refl, sym, ap, subst, ◌∙◌, State, initial, tag_in}
use Rattle.pgn_extract.proofs.Common.{fen_tag, IsStart, one_start}
use Rattle.pgn_extract.proofs.PackedFacts.{first_is}
use Rattle.pgn_extract.proofs.packed.side_at_start.Goals as goal

pub returns-in_default-clause-ok : goal.returns-in_default-clause-ok
returns-in_default-clause-ok c game replay packed own =
    let none : None ≡ tag_in fen_tag game.tags =
    c.in_default.ensures packed own.fits (sym own.shows) ∙ ap (tag_in fen_tag) own.kept.tags in
    let same : own.is_replay.start ≡ initial =
    one_start (tag_in fen_tag game.tags) own.is_replay.start initial own.is_replay.is_start
    (subst (λ fen. IsStart fen initial) none refl) in
    (own.is_replay.start, first_is own, ap (λ (P : State). P.turn) same)

pub returns-in-Ok-clause-ok : goal.returns-in-Ok-clause-ok
returns-in-Ok-clause-ok c game replay packed own =
    let at = c.in-Ok.ensures.ok game replay packed own in
    (at.0, at.1, sym at.2.turn ∙ sym c.to_move.ensures)
