use Rattle.pgn_criteria.proofs.Common.{◌↔◌, drop, AreSound, NoneLaid}
use Rattle.pgn_criteria.proofs.plan.none_laid.Given as goal

abbrev pub invariant-loop-look : goal.invariant-loop-look
invariant-loop-look g l = record {
  sound : AreSound (drop l.look-index l.all);
  rest : NoneLaid (g.S.Seen.men l.position) (drop l.look-index l.all)
      ↔ NoneLaid (g.S.Seen.men l.position) l.all;
}
