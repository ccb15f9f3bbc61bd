use Rattle.pgn_text.proofs.Values.{has_value}
use Rattle.pgn_text.proofs.lex.quoted.value.Goals as goal

pub returns : goal.returns
returns c = rw c.new.ensures (has_value c.args.contents.now c.requires)
