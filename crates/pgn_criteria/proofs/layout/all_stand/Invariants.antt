use Rattle.pgn_criteria.proofs.Common.{◌↔◌, drop, AllStand}
use Rattle.pgn_criteria.proofs.layout.all_stand.Given as goal

abbrev pub invariant-loop-asked : goal.invariant-loop-asked
invariant-loop-asked g l = AllStand (g.S.Seen.men l.position) (drop l.asked-index l.all)
    ↔ AllStand (g.S.Seen.men l.position) l.all
