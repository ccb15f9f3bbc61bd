use Rattle.pgn_text.proofs.Bits.{bit-below_low, bit-below_high}
use Rattle.pgn_text.proofs.lex.movetext.below.Goals as goal

pub returns-clause-low : goal.returns-clause-low
returns-clause-low c i lt = bit-below_low c.args.word c.args.place i lt c.requires

pub returns-clause-high : goal.returns-clause-high
returns-clause-high c i le lt = bit-below_high c.args.word c.args.place i le lt
