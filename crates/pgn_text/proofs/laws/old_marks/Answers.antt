-- Both laws are lemmas.
use Rattle.pgn_text.proofs.laws.OldMarks.{same_of_block, same_marked_pieces}
use Rattle.pgn_text.proofs.laws.old_marks.Goals as goal

pub returns-clause-block : goal.returns-clause-block
returns-clause-block c = same_of_block

pub returns-clause-text : goal.returns-clause-text
returns-clause-text c = same_marked_pieces
