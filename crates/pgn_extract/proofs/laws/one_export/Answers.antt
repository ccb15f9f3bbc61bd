-- The laws are lemmas.
use Rattle.pgn_extract.proofs.ModeOutputs.{exports_of_pieces}
use Rattle.pgn_extract.proofs.laws.OneExports.{one_exports}
use Rattle.pgn_extract.proofs.laws.one_export.Goals as goal

pub returns-clause-written : goal.returns-clause-written
returns-clause-written c =
    λ aim number pieces verdicts is are. exports_of_pieces aim is number pieces verdicts are

pub returns-clause-one : goal.returns-clause-one
returns-clause-one c = one_exports
