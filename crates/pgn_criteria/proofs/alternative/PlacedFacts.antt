-- What the patterns of an alternative say where its conditions hold.
use Rattle.pgn_criteria.proofs.Common.{◌⊎◌, inl, inr, ℕ, List, subst, HasMove, Placement, opposite}
use Rattle.pgn_criteria.proofs.Common.{State, IsCheck, PlyCode, mirrored_men, AllOfPatterns}
use Rattle.pgn_criteria.proofs.Common.{AllSaid, AreFixed, AreMirrored, FitsPlaced, Nowhere}
use Rattle.pgn_criteria.proofs.Common.{PositionCondition}
use Rattle.pgn_criteria.proofs.EitherFacts.{each_plain, fixed_each, mirrored_said}
use Rattle.pgn_criteria.proofs.SeenFacts.{all_position, stages_parted, patterns_said}
use Rattle.pgn_criteria.proofs.StandFacts.{nowhere_of, nowhere_either}

-- what is said of a position is said by the patterns of its men
of_patterns : (P : State) (conditions : List (PositionCondition (List ℕ)))
    → AllSaid P.men P.turn (IsCheck P.men P.turn) (¬ HasMove P) conditions
    → AllOfPatterns P.men conditions
of_patterns P conditions all =
    (patterns_said P.men P.turn (IsCheck P.men P.turn) (¬ HasMove P) conditions).0
    ((stages_parted P.men P.turn (IsCheck P.men P.turn) (¬ HasMove P) conditions).0 all).0

-- where no condition has `either`
pub fixed_patterns : (conditions : List (PositionCondition (List ℕ))) → AreFixed conditions
    → (men : Placement) → FitsPlaced conditions men → AllOfPatterns men conditions
fixed_patterns conditions fixed men (P, here, all) =
    subst (λ p. AllOfPatterns p conditions) here
    (elim ((all_position P conditions).1 all) [
      | inl plain ↦ of_patterns P conditions
          ((each_plain P.men P.turn (IsCheck P.men P.turn) (¬ HasMove P) conditions).0 plain)
      | inr turned ↦ of_patterns P conditions
          (fixed_each P.men P.turn (IsCheck P.men P.turn) (¬ HasMove P) (mirrored_men P.men)
          (opposite P.turn) conditions fixed turned)
    ])

-- where some have it: by the patterns, or by those that are tried at the mirror
pub either_patterns : (own conditions : List (PositionCondition (List ℕ)))
    → AreMirrored own conditions → (men : Placement) → FitsPlaced conditions men
    → AllOfPatterns men conditions ⊎ AllOfPatterns men own
either_patterns own conditions mirrored men (P, here, all) =
    subst (λ p. AllOfPatterns p conditions ⊎ AllOfPatterns p own) here
    (elim ((all_position P conditions).1 all) [
      | inl plain ↦ inl
          (of_patterns P conditions
          ((each_plain P.men P.turn (IsCheck P.men P.turn) (¬ HasMove P) conditions).0 plain))
      | inr turned ↦ inr
          (of_patterns P own
          ((mirrored_said P.men P.turn (IsCheck P.men P.turn) (¬ HasMove P) own conditions
          mirrored).1 turned))
    ])

pub nowhere_mirrored : (own conditions : List (PositionCondition (List ℕ)))
    → AreMirrored own conditions → (men : Placement) (codes : List PlyCode)
    → Nowhere (λ p. AllOfPatterns p conditions) men codes
    → Nowhere (λ p. AllOfPatterns p own) men codes → Nowhere (FitsPlaced conditions) men codes
nowhere_mirrored own conditions mirrored men codes plain turned =
    nowhere_of (λ p. AllOfPatterns p conditions
    ⊎ AllOfPatterns p own) (FitsPlaced conditions) men codes
    (either_patterns own conditions mirrored)
    (nowhere_either (λ p. AllOfPatterns p conditions) (λ p.
    AllOfPatterns p own) men codes plain turned)
