-- The laws are lemmas.
use Rattle.pgn_extract.proofs.laws.JoinedParts.{parts_join}
use Rattle.pgn_extract.proofs.laws.PartsReported.{parts_reported}
use Rattle.pgn_extract.proofs.laws.parts.Goals as goal

pub returns-clause-join : goal.returns-clause-join
returns-clause-join c = parts_join

pub returns-clause-reported : goal.returns-clause-reported
returns-clause-reported c = parts_reported
