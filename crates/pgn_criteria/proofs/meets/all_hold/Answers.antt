use Rattle.pgn_criteria.specs.Public.Meeting.{heading_of}
use Rattle.pgn_criteria.proofs.StageFacts.{both_parts, first_part_fails}
use Rattle.pgn_criteria.proofs.meets.all_hold.Goals as goal

pub returns-then-is_of_game : goal.returns-then-is_of_game
returns-then-is_of_game c =
    both_parts (heading_of c.args.game.now) c.args.replayed.now c.args.plies c.args.alternative.now
    c.is_of_game.result
    c.fits_about.result c.if-is_of_game.true c.is_of_game.ensures c.fits_about.ensures

pub returns-else-is_of_game : goal.returns-else-is_of_game
returns-else-is_of_game c =
    first_part_fails (heading_of c.args.game.now) c.args.replayed.now c.args.plies
    c.args.alternative.now c.is_of_game.result
    c.if-is_of_game.false c.is_of_game.ensures
