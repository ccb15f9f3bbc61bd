-- The law is a lemma.
use Rattle.pgn_extract.proofs.OneListing.{some_listing}
use Rattle.pgn_extract.proofs.laws.one_listing.Goals as goal

pub returns : goal.returns
returns c = some_listing
