use Rattle.pgn_criteria.proofs.Common.{◌↔◌, drop, AreSoundWays, AllEither}
use Rattle.pgn_criteria.proofs.plan.all_either.Given as goal

abbrev pub invariant-loop-ways : goal.invariant-loop-ways
invariant-loop-ways g l = record {
  sound : AreSoundWays (drop l.ways-index l.all);
  rest : AllEither (g.S.Seen.men l.position) (drop l.ways-index l.all)
      ↔ AllEither (g.S.Seen.men l.position) l.all;
}
