use Rattle.pgn_text.proofs.Common.{◌-◌, take_rest}
use Rattle.pgn_text.proofs.io.BlockCuts.{no_cut, first_cut}
use Rattle.pgn_text.proofs.io.blocks.find_cut.Goals as goal

pub returns-in_default : goal.returns-in_default
returns-in_default c =
    no_cut c.args.bytes.now _ c.args.from c.requires.after_some c.requires.within
    (take_rest c.args.bytes.now (c.args.from - 1)) c.in_default.ensures

pub returns : goal.returns
returns c =
    first_cut c.args.bytes.now _ c.args.from c.in-Some.gap c.requires.after_some c.requires.within
    (take_rest c.args.bytes.now (c.args.from - 1)) c.in-Some.ensures
