use Rattle.pgn_criteria.proofs.Common.{◌≡◌, take}
use Rattle.pgn_criteria.specs.Private.Told.{column}
use Rattle.pgn_criteria.proofs.told.column_of.Given as goal

abbrev pub invariant-loop-own : goal.invariant-loop-own
invariant-loop-own l = l.told.items ≡ column l.place (take l.own-index l.fits)
