use Rattle.std.proofs.Common.{arith}
use Rattle.std.proofs.lemmas.Nat.{trailing_le}
use Rattle.pgn_text.proofs.Bits.{found_from, before_from}
use Rattle.pgn_text.proofs.lex.movetext.first_from.Goals as goal

pub returns-clause-within : goal.returns-clause-within
returns-clause-within c = trailing_le 64 _

pub returns-clause-found : goal.returns-clause-found
returns-clause-found c = found_from c.args.word c.args.from c.requires (omega arith)

pub returns-clause-before : goal.returns-clause-before
returns-clause-before c = before_from c.args.word c.args.from c.requires (omega arith)
