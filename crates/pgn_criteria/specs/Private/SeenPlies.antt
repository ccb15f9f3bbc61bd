-- What is told of the plies of a line by what is seen of its positions.
use Rattle.std.specs.Prelude.{◌≡◌, ◌↔◌, ◌++◌, ℕ, Bool, List, [], ◌∷◌, IsTrue}
use Rattle.pgn_game.specs.Public.PlyCodes.{PlyCode}
use Rattle.pgn_criteria.specs.Public.Prefilters.{codes_in}
use Rattle.pgn_criteria.specs.Public.Walks.{Sight, stepped}
use Rattle.pgn_criteria.specs.Private.Stages.{AllOfSeen}
use Rattle.pgn_criteria.specs.declared.condition.PositionCondition.{PositionCondition}

-- what is seen meets the conditions
abbrev pub Fits : List (PositionCondition (List ℕ)) → Sight → Type 0
Fits conditions s = AllOfSeen s.men s.turn (IsTrue s.check) (IsTrue s.stuck) conditions

-- it is told whether what is seen before the codes meets the conditions, and what is seen after
-- each of them
abbrev pub TellsSeen : List (PositionCondition (List ℕ)) → Sight → List PlyCode → List Bool → Type 0
TellsSeen conditions s [] told =
    (is : Bool) × (told ≡ is ∷ []) × (IsTrue is ↔ Fits conditions s)
TellsSeen conditions s (c ∷ codes) told =
    (is : Bool) × (more : List Bool) × (told ≡ is ∷ more) × (IsTrue is ↔ Fits conditions s)
    × TellsSeen conditions (stepped s c) codes more

-- what is told on from a sight, of the codes that these bytes spell, is told with what is told so
-- far of the whole line
abbrev pub IsToldTo : List (PositionCondition (List ℕ)) → Sight → List ℕ → Sight → List ℕ
    → List Bool → Type 0
IsToldTo conditions start all s left told = (more : List Bool)
    → TellsSeen conditions s (codes_in left) more
    → TellsSeen conditions start (codes_in all) (told ++ more)
