use Rattle.pgn_criteria.proofs.MeetFacts.{reports_taken}
use Rattle.pgn_criteria.proofs.by_record.is_of_counted.Goals as goal

pub returns-in-Plies : goal.returns-in-Plies
returns-in-Plies g c =
    rw c.in-Plies.is
    (reports_taken c.args.condition.now.is_denied c.compares.result c.compares.ensures)
