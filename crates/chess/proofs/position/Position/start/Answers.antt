use Rattle.chess.proofs.Common.{sym, subst, Placement, State, IsSound}
use Rattle.chess.proofs.Common.{initial}
use Rattle.chess.proofs.StartFacts.{initial_kept}
use Rattle.chess.proofs.position.Position.start.Goals as goal

-- the initial position with that placement
with_men : Placement → State
with_men men = record initial { men = men }

pub invariant_of-result : goal.invariant_of-result
unfolding with_men
invariant_of-result g c =
    rw c.initial.ensures (rw c.at.ensures.square (rw c.at-2.ensures.square initial_kept))

pub returns-clause-sound : goal.returns-clause-sound
unfolding with_men
returns-clause-sound g c =
    subst (λ (men : Placement). IsSound (with_men men)) (sym c.initial.ensures) initial_kept.sound
