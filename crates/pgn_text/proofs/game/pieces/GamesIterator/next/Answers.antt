use Rattle.pgn_text.specs.Public.Limits.{depth_limit}
use Rattle.pgn_text.proofs.game.Gives.{gives_game, gives_unreadable, gives_error}
use Rattle.pgn_text.proofs.game.pieces.GamesIterator.next.Goals as goal

pub returns-in-Ok-Some-clause-steps : goal.returns-in-Ok-Some-clause-steps
returns-in-Ok-Some-clause-steps c =
    let found = rw c.in-Ok-Some.field-0-is at c.in-Ok-Some.ensures in
    gives_game depth_limit c.self.inside.file_start c.self.inside.block.now c.self.inside.at
    c.gap_end-begin.result c.in-Ok-Some.end c.self.inside.failed
    found.0 c.in-Ok-Some.game c.args.self.now c.self.view_is c.if-self.false c.gap_end-begin.ensures
    found.1 found.2

pub returns-in-Ok-None-clause-steps : goal.returns-in-Ok-None-clause-steps
returns-in-Ok-None-clause-steps c =
    gives_unreadable depth_limit c.self.inside.file_start c.self.inside.block.now c.self.inside.at
    c.gap_end-begin.result c.self.inside.failed
    c.args.self.now c.self.view_is c.if-self.false c.gap_end-begin.ensures c.if-begin-self.false
    (rw c.in-Ok-None.field-0-is at c.in-Ok-None.ensures)

pub returns-in-Err-clause-steps : goal.returns-in-Err-clause-steps
returns-in-Err-clause-steps c =
    gives_error depth_limit c.self.inside.file_start c.self.inside.block.now c.self.inside.at
    c.gap_end-begin.result c.self.inside.failed c.in-Err.error
    c.args.self.now c.self.view_is c.if-self.false c.gap_end-begin.ensures c.if-begin-self.false
