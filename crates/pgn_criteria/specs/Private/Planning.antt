-- What is planned of the patterns of an alternative, in whichever way they are asked.
use Rattle.std.specs.Prelude.{◌⊎◌, ℕ, Bool, List, [], ◌∷◌, IsTrue}
use Rattle.chess.specs.Public.Placements.{Placement}
use Rattle.pgn_criteria.specs.Private.Layouts.{Extends, IsRest, Laid}
use Rattle.pgn_criteria.specs.Private.Stages.{AllOfPatterns}
use Rattle.pgn_criteria.specs.declared.condition.PositionCondition.{PositionCondition}
use Rattle.pgn_criteria.specs.declared.layout.Look.{Look}
use Rattle.pgn_criteria.specs.declared.plan.Plan.{Plan}
use Rattle.pgn_criteria.specs.declared.plan.Ways.{Ways}

-- the squares that men may stand on are noted rightly
abbrev pub IsSound : Look → Type 0
IsSound look = IsRest look.layout.empty look.free

abbrev pub AreSound : List Look → Type 0
AreSound [] = Unit {0}
AreSound (look ∷ more) = IsSound look × AreSound more

abbrev pub AreSoundWays : List Ways → Type 0
AreSoundWays [] = Unit {0}
AreSoundWays (ways ∷ more) = (IsSound ways.straight × IsSound ways.turned) × AreSoundWays more

abbrev pub IsSoundPlan : Plan → Type 0
IsSoundPlan plan = AreSoundWays plan.ways.items × AreSound plan.denied.items

-- the men stand the one way or the other, of each two
abbrev pub AllEither : Placement → List Ways → Type 0
AllEither men [] = Unit {0}
AllEither men (ways ∷ more) = (Laid men ways.straight.layout ⊎ Laid men ways.turned.layout)
    × AllEither men more

-- the men stand as none of these lays out
abbrev pub NoneLaid : Placement → List Look → Type 0
NoneLaid men [] = Unit {0}
NoneLaid men (look ∷ more) = (Laid men look.layout → ⊥) × NoneLaid men more

-- the men stand as is planned
abbrev pub Planned : Placement → Plan → Type 0
Planned men plan = Laid men plan.layout × AllEither men plan.ways.items
    × NoneLaid men plan.denied.items

abbrev pub Plans : (Placement → Type 0) → (Placement → Type 0) → Plan → Plan → Bool → Type 0
Plans = Extends IsSoundPlan Planned

-- what is planned of conditions follows from the patterns among them. Where it is all, it gives
-- what those say
abbrev pub IsPlanned : List (PositionCondition (List ℕ)) → Plan → Bool → Type 0
IsPlanned conditions plan all =
    ((men : Placement) → AllOfPatterns men conditions → Planned men plan)
    × (IsTrue all → (men : Placement) → Planned men plan → AllOfPatterns men conditions)
