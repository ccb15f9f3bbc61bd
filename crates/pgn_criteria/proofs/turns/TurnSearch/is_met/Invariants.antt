use Rattle.pgn_criteria.proofs.Common.{◌↔◌, ℕ, drop, map, Replay, Heading, SomeHold, on_plies}
use Rattle.pgn_criteria.specs.Public.Turns.{IsTurn}
use Rattle.pgn_criteria.proofs.turns.TurnSearch.is_met.Given as goal

abbrev pub invariant-loop-alternative : goal.invariant-loop-alternative
invariant-loop-alternative l =
    (heading : Heading) (replay : Replay) (ply : ℕ)
    → IsTurn replay ply l.turn.before.now l.turn.last.now l.turn.position.now l.turn.next.now
    → SomeHold heading replay ply l.turn.position.now
    (map (λ a. on_plies a.now) (drop l.alternative-index l.alternative-items))
    ↔ SomeHold heading replay ply l.turn.position.now l.self
