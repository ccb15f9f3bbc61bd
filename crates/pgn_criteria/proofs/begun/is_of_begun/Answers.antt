use Rattle.pgn_criteria.proofs.MeetFacts.{reports_taken}
use Rattle.pgn_criteria.proofs.begun.is_of_begun.Goals as goal

pub returns-in-Moves : goal.returns-in-Moves
returns-in-Moves g c =
    let reports = rw c.deref.ensures.value at c.fits_moves.ensures in
    rw c.in-Moves.is
    (reports_taken c.args.condition.now.is_denied c.fits_moves.result reports)
