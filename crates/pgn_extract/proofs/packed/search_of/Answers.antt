use Rattle.pgn_extract.proofs.Common.{heading_of}
use Rattle.pgn_extract.proofs.PackedFacts.{moves_counted}
use Rattle.pgn_extract.proofs.Picks.{same_met}
use Rattle.pgn_extract.proofs.packed.search_of.Goals as goal

pub returns-in-Some-clause-ok : goal.returns-in-Some-clause-ok
returns-in-Some-clause-ok c game replay packed own other is ply within =
    let met = rw c.in-Some.is at c.in_ok-search.ensures in
    same_met (heading_of game) other c.args.context.settings.now.criteria c.args.criteria.now
    c.in-Some.search ply c.requires.criteria
    (met game replay packed own.kept own.fits own.shows other (moves_counted own other is) ply)
