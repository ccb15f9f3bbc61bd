use Rattle.pgn_criteria.proofs.Common.{true, EachFrom, Lays}
use Rattle.pgn_criteria.proofs.layout.Layout.add_run.Given as goal

abbrev pub invariant-loop-step : goal.invariant-loop-step
invariant-loop-step l =
    Lays (λ p. EachFrom p l.class l.rank l.before 0 l.count) (λ p.
    EachFrom p l.class l.rank l.before l.step l.count) l.fn.self l.self true
