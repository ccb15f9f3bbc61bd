-- The law is a lemma.
use Rattle.pgn_extract.proofs.laws.OneOfThree.{piece_in_one}
use Rattle.pgn_extract.proofs.laws.each_piece_in_one_export.Goals as goal

pub returns : goal.returns
returns c = piece_in_one
