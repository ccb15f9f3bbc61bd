-- Worked rows of the first square of a set, and what the definition refuses.
use Rattle.chess.proofs.Common.{◌≡◌, ◌≤◌, ◌∙◌, ◌&&◌, true, false, not, Some, refl, ap, arith, Place}
use Rattle.chess.proofs.Common.{Places, is_in, IsTakenFirst, and_false}
use Rattle.chess.proofs.PlaceFacts.{same_square-same}

none_before_the_first : (old new : Places)
    → IsTakenFirst old new (Some (record { file = 2; rank = 1 }))
    → is_in old (record { file = 1; rank = 1 }) ≡ true → ⊥
none_before_the_first old new taken before =
    let order : 1 ≤ 0 = taken.2 (record { file = 1; rank = 1 }) before in omega arith

taken_is_gone : (old new : Places) (t : Place) → IsTakenFirst old new (Some t)
    → is_in new t ≡ false
taken_is_gone old new t taken =
    taken.3 t ∙ ap (λ b. is_in old t && not b) (same_square-same t t refl)
    ∙ and_false (is_in old t)
