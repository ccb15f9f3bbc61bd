use Rattle.pgn_criteria.proofs.Common.{◌-◌, parted_at, Placement, FitRanks, FitsPattern}
use Rattle.pgn_criteria.proofs.doubt.men.has_misfit.Given as goal

abbrev pub invariant-loop-step : goal.invariant-loop-step
invariant-loop-step l = (men : Placement) → FitsPattern men l.pattern
    → FitRanks men (8 - l.step) (parted_at 47 l.rest)
