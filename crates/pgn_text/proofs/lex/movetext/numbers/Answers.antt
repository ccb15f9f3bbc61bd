use Rattle.std.proofs.Common.{sym, ◌∙◌}
use Rattle.pgn_text.proofs.Bits.{bit-and, both_true}
use Rattle.pgn_text.proofs.lex.movetext.numbers.Goals as goal

pub returns : goal.returns
returns c i on = (both_true _ _ (sym (bit-and c.args.digits _ i) ∙ on)).0
