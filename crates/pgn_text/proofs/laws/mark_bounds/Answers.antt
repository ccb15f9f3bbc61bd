-- The law is a lemma.
use Rattle.pgn_text.proofs.MarkBounds.{mark_bounds}
use Rattle.pgn_text.proofs.laws.mark_bounds.Goals as goal

pub returns : goal.returns
returns c = mark_bounds
