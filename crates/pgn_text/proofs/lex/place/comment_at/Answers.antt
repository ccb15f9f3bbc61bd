use Rattle.pgn_text.proofs.Common.{◌+◌, take_rest}
use Rattle.pgn_text.proofs.PartsAt.{kept_brace, no_brace}
use Rattle.pgn_text.proofs.lex.place.comment_at.Goals as goal

pub returns-in_default : goal.returns-in_default
returns-in_default c f =
    no_brace f c.args.block.now c.args.at _ c.requires.place c.requires.brace
    (take_rest c.args.block.now (c.args.at + 1)) c.in_default.ensures

pub returns : goal.returns
returns c f =
    kept_brace f c.args.block.now c.args.at c.in-Some.len _ c.requires.place c.requires.brace
    (take_rest c.args.block.now (c.args.at + 1)) c.in-Some.ensures
