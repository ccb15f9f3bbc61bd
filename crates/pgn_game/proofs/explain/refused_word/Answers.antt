use Rattle.pgn_game.proofs.Common.{subst, tag_in, fen_tag, IsStart}
use Rattle.pgn_game.proofs.explain.RefusalSearch.{found_at}
use Rattle.pgn_game.proofs.explain.refused_word.Goals as goal

pub returns : goal.returns
returns c =
    let start = c.in_ok-start.start in
    let fen = tag_in fen_tag c.args.raw.now.tags in
    found_at c.args.lines fen c.args.raw.now.elements start c.in_ok-first_refused.field-0
    (subst (λ tags. IsStart (tag_in fen_tag tags) start) c.tags.ensures.tags c.in_ok-start.ensures)
    (rw (← c.elements.ensures.elements) c.in_ok-first_refused.ensures)
