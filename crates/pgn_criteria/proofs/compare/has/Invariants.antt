use Rattle.pgn_criteria.proofs.Common.{◌↔◌, length, IsContents, value_of, Allows, Has}
use Rattle.pgn_criteria.proofs.compare.has.Given as goal

abbrev pub invariant-loop-rest : goal.invariant-loop-rest
invariant-loop-rest l = record {
  good : IsContents l.rest;
  rest : Allows Has (value_of l.rest) (value_of l.text)
      ↔ Allows Has (value_of l.fn.given) (value_of l.text);
}

abbrev pub decreases-loop-rest : goal.decreases-loop-rest
decreases-loop-rest l = length l.rest
