use Rattle.std.proofs.Common.{◌∙◌, sym}
use Rattle.pgn_criteria.proofs.EndFacts.{quiet_text}
use Rattle.pgn_criteria.proofs.move_ends.may_take.Goals as goal

pub returns : goal.returns
returns c quiet text san has =
    quiet_text c.args.position.now c.args.m.now c.file.ensures.on_board
    c.file-2.ensures.on_board
    (sym c.is_capture.ensures ∙ quiet) text san has
