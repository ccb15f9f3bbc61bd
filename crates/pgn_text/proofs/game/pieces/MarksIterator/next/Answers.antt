use Rattle.pgn_text.specs.Public.Limits.{depth_limit}
use Rattle.pgn_text.proofs.game.GivesMarks.{marks_game, marks_unreadable}
use Rattle.pgn_text.proofs.game.pieces.MarksIterator.next.Goals as goal

pub returns-in-Some-clause-steps : goal.returns-in-Some-clause-steps
returns-in-Some-clause-steps c =
    marks_game depth_limit c.self.inside.file_start c.self.inside.block.now c.self.inside.at
    c.gap_end-begin.result c.in-Some.end
    c.in-Some.ensures.0 c.args.self.now c.self.view_is c.gap_end-begin.ensures c.in-Some.ensures.1

pub returns-in-None-clause-steps : goal.returns-in-None-clause-steps
returns-in-None-clause-steps c =
    marks_unreadable depth_limit c.self.inside.file_start c.self.inside.block.now c.self.inside.at
    c.gap_end-begin.result
    c.args.self.now c.self.view_is c.gap_end-begin.ensures c.if-begin-self.false c.in-None.ensures
