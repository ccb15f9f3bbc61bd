use Rattle.pgn_criteria.proofs.Common.{drop, Placement, AllStand, StaysOn}
use Rattle.pgn_criteria.proofs.prefilter.StandingSquares.add_all.Given as goal

abbrev pub invariant-loop-asked : goal.invariant-loop-asked
invariant-loop-asked l = (men : Placement) → AllStand men l.all → StaysOn l.fn.self l.man men
    → StaysOn l.self l.man men × AllStand men (drop l.asked-index l.all)
