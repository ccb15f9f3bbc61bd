-- The laws are lemmas.
use Rattle.pgn_extract.proofs.laws.PackFits.{packed_text, listed_pack}
use Rattle.pgn_extract.proofs.laws.ShownNames.{names_are_shown}
use Rattle.pgn_extract.proofs.laws.packs.Goals as goal

pub returns-clause-pack : goal.returns-clause-pack
returns-clause-pack c = packed_text

pub returns-clause-listing : goal.returns-clause-listing
returns-clause-listing c = listed_pack

pub returns-clause-names : goal.returns-clause-names
returns-clause-names c = names_are_shown
