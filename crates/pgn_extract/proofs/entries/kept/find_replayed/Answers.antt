use Rattle.pgn_extract.proofs.Common.{[], aim_with}
use Rattle.pgn_extract.proofs.Finds.{none_yet}
use Rattle.pgn_extract.proofs.entries.LineValues.{enough_kept}
use Rattle.pgn_extract.proofs.entries.kept.find_replayed.Goals as goal

pub find-requires-clause-shows : goal.find-requires-clause-shows
find-requires-clause-shows c = enough_kept c.args.finder.now.lines

pub returns-clause-found : goal.returns-clause-found
returns-clause-found c name openings id of =
    let aim = aim_with c.args.finder.now name openings in
    let game = c.args.game.now in
    let at = c.in_ok-line.ensures.1 aim c.requires.criteria in
    c.in_ok-find.ensures.found name openings id game [] at.0 at.1 (none_yet aim game) of
