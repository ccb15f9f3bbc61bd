use Rattle.pgn_criteria.proofs.Common.{◌↔◌, length, parted_at, HasOneOf}
use Rattle.pgn_criteria.specs.Private.Stages.{value_seen}
use Rattle.pgn_criteria.proofs.meets.has_one_of.Given as goal

abbrev pub invariant-loop-after : goal.invariant-loop-after
invariant-loop-after g l =
    let claim = value_seen (λ text. text.items) l.claim in
    HasOneOf (g.H.Headed.heading l.game) claim (parted_at 124 l.rest)
    ↔ HasOneOf (g.H.Headed.heading l.game) claim (parted_at 124 l.names)

abbrev pub decreases-loop-after : goal.decreases-loop-after
decreases-loop-after g l = length (parted_at 124 l.rest)
