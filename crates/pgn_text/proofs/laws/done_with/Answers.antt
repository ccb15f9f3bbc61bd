-- The law is a lemma.
use Rattle.pgn_text.proofs.CutOff.{done_with_the_block}
use Rattle.pgn_text.proofs.laws.done_with.Goals as goal

pub returns : goal.returns
returns c = done_with_the_block
