use Rattle.pgn_text.proofs.Bits.{bit-begins_first, bit-begins_next}
use Rattle.pgn_text.proofs.lex.movetext.begins.Goals as goal

pub returns : goal.returns
returns c = (bit-begins_first c.args.words, bit-begins_next c.args.words)
