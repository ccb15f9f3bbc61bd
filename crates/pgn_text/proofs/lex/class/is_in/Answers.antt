use Rattle.std.proofs.Common.{arith}
use Rattle.pgn_text.proofs.lex.Tables.{by_table}
use Rattle.pgn_text.proofs.lex.class.is_in.Goals as goal

pub returns : goal.returns
returns c = rw c.flag.ensures (by_table c.args.class c.args.byte (omega arith))
