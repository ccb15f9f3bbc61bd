use Rattle.pgn_criteria.proofs.Common.{take, drop, heading_of, Meets, IsFirst, AllGood}
use Rattle.pgn_criteria.proofs.meets.first_in.Given as goal

abbrev pub invariant-loop-alternative : goal.invariant-loop-alternative
invariant-loop-alternative l = record {
  good : AllGood (drop l.alternative-index l.alternatives);
  first : IsFirst (λ plies.
      Meets (heading_of l.game) l.replayed plies (take l.alternative-index l.alternatives)) l.min
      l.max l.best;
}
