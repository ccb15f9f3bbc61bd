use Rattle.pgn_criteria.proofs.Common.{◌↔◌, ℕ, drop, map, State, Replay, Heading, SomeHold}
use Rattle.pgn_criteria.proofs.Common.{on_positions, IsSeenOf}
use Rattle.pgn_criteria.proofs.search.Search.is_met.Given as goal

abbrev pub invariant-loop-alternative : goal.invariant-loop-alternative
invariant-loop-alternative g l =
    (P : State) → IsSeenOf P (g.S.Seen.men l.seen) (g.S.Seen.turn l.seen) (g.S.Seen.checked l.seen)
    (g.S.Seen.stuck l.seen) → (heading : Heading) (replay : Replay) (ply : ℕ)
    → SomeHold heading replay ply P
    (map (λ a. on_positions a.now) (drop l.alternative-index l.alternative-items))
    ↔ SomeHold heading replay ply P l.self
