use Rattle.pgn_criteria.proofs.Common.{take, drop, AreMet, AllGood}
use Rattle.pgn_criteria.proofs.met.met_by.Given as goal

abbrev pub invariant-loop-alternative : goal.invariant-loop-alternative
invariant-loop-alternative g l = record {
  good : AllGood (drop l.alternative-index l.alternatives);
  so_far : AreMet (g.H.Headed.heading l.game) l.replayed (take l.alternative-index l.alternatives)
      l.met.items;
}
