use Rattle.std.proofs.Common.{arith}
use Rattle.pgn_text.proofs.Bits.{plain_length, some_stop}
use Rattle.pgn_text.proofs.lex.movetext.plain_len.Goals as goal

pub overflow_sub-ends : goal.overflow_sub-ends
overflow_sub-ends c = some_stop c.args.strange

pub returns-clause-short : goal.returns-clause-short
returns-clause-short c = (plain_length c.args.gaps c.args.strange (omega arith) (omega arith)).0

pub returns-clause-plain : goal.returns-clause-plain
returns-clause-plain c = (plain_length c.args.gaps c.args.strange (omega arith) (omega arith)).1

pub returns-clause-ends : goal.returns-clause-ends
returns-clause-ends c = (plain_length c.args.gaps c.args.strange (omega arith) (omega arith)).2
