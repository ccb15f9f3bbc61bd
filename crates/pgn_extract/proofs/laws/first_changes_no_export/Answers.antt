-- The laws are lemmas.
use Rattle.pgn_extract.proofs.laws.FirstExports.{first_changes_none}
use Rattle.pgn_extract.proofs.laws.first_changes_no_export.Goals as goal

pub returns : goal.returns
returns c = first_changes_none
