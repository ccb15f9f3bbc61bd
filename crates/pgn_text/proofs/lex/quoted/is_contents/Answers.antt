use Rattle.std.proofs.Common.{sym}
use Rattle.pgn_text.proofs.Values.{is_contents-end, is_contents-none}
use Rattle.pgn_text.proofs.lex.quoted.is_contents.Goals as goal

pub returns-in-Some : goal.returns-in-Some
returns-in-Some c = is_contents-end c.args.bytes.now c.in-Some.end c.in-Some.ensures

pub returns-in-None : goal.returns-in-None
returns-in-None c = is_contents-none c.args.bytes.now (sym c.in-None.ensures)
