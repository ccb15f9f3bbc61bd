use Rattle.pgn_criteria.proofs.Common.{◌-◌, parted_at, Lays, FitsPattern, FitRanks}
use Rattle.pgn_criteria.proofs.layout.Layout.add_pattern.Given as goal

abbrev pub invariant-loop-step : goal.invariant-loop-step
invariant-loop-step l =
    Lays (λ p. FitsPattern p l.pattern) (λ p.
    FitRanks p (8 - l.step) (parted_at 47 l.rest)) l.fn.self l.self l.is_all
