-- The law is a lemma.
use Rattle.pgn_text.proofs.FrontText.{front_of_text}
use Rattle.pgn_text.proofs.laws.fronts.Goals as goal

pub returns : goal.returns
returns c = front_of_text
