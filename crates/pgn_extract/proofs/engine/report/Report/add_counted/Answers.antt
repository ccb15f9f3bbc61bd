-- The plies of the main line are those of the game as it counts.
use Rattle.pgn_extract.proofs.engine.FollowedGames.{plies_counted}
use Rattle.pgn_extract.proofs.engine.report.Report.add_counted.Goals as goal

pub add_listed-requires-clause-sound : goal.add_listed-requires-clause-sound
add_listed-requires-clause-sound c =
    let classified = c.in_ok-game in
    plies_counted c.in-Some.openings c.args.game _ c.in-Some-plies.plies
    classified.ensures.counts (rw c.in-Some-plies.is at classified.ensures.plies)
