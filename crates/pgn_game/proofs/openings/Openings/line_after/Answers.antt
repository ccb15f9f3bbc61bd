-- A line that ends there is that of the opening; where none does, what was found stays.
use Rattle.pgn_game.specs.Public.Openings.{ends_of}
use Rattle.pgn_game.proofs.openings.LineFacts.{line_here, line_stays}
use Rattle.pgn_game.proofs.openings.Openings.line_after.Goals as goal

pub returns-in-Some : goal.returns-in-Some
returns-in-Some c =
    line_here (ends_of c.args.self.now) c.args.found c.args.position.now c.in-Some.line
    c.in-Some.ensures

pub returns-in-None : goal.returns-in-None
returns-in-None c =
    line_stays (ends_of c.args.self.now) c.args.found c.args.position.now c.in-None.ensures
