-- The law is a lemma.
use Rattle.pgn_extract.proofs.laws.TaggedOutput.{same_output}
use Rattle.pgn_extract.proofs.laws.tags_first_change_no_output.Goals as goal

pub returns : goal.returns
returns c = same_output
