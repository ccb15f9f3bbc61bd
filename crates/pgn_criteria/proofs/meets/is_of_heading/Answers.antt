use Rattle.pgn_criteria.specs.Public.Meeting.{Heading}
use Rattle.pgn_criteria.proofs.MeetFacts.{reports_taken}
use Rattle.pgn_criteria.proofs.meets.is_of_heading.Goals as goal

pub returns-in-Tag : goal.returns-in-Tag
returns-in-Tag g c =
    let heading : Heading = g.H.Headed.heading c.args.game.now in
    let denied = c.args.condition.now.is_denied in
    let reports = rw c.deref.ensures.value at c.has_one_of.ensures in
    rw c.in-Tag.is (reports_taken denied c.has_one_of.result reports)

pub returns-in-Result : goal.returns-in-Result
returns-in-Result g c =
    let heading : Heading = g.H.Headed.heading c.args.game.now in
    let denied = c.args.condition.now.is_denied in
    let reports = rw c.deref-in-Result.ensures.value at c.ends_with.ensures in
    rw c.in-Result.is (reports_taken denied c.ends_with.result reports)
