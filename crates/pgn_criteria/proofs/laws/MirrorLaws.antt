-- The mirror of the mirror is the position itself, and alternatives of conditions with `either`
-- hold of both.
use Rattle.pgn_criteria.proofs.Common.{◌≡◌, ◌↔◌, ℕ, Bool, true, false, List, [], ◌∷◌, Option, Some}
use Rattle.pgn_criteria.proofs.Common.{None, refl, sym, ap, ◌∙◌, subst, inl, inr, if◌then◌else◌}
use Rattle.pgn_criteria.proofs.Common.{option_map, Place, IsOnBoard, State, opposite-opposite}
use Rattle.pgn_criteria.proofs.Common.{Holds, EachHold, PositionsHold, is_turned, across, mirror}
use Rattle.pgn_criteria.proofs.Common.{PositionCondition}
use Rattle.pgn_criteria.specs.Public.Laws.{MirrorIsUndone, StandsOnBoard, AreTurned, SidesAreAlike}
use Rattle.pgn_criteria.proofs.MirrorFacts.{mirrored_twice, across_twice}

passed_twice : (square : Option Place) → ((s : Place) → square ≡ Some s → IsOnBoard s)
    → option_map across (option_map across square) ≡ square
passed_twice None on = refl
passed_twice (Some s) on = ap Some (across_twice s (on s refl))

pub mirror_undone : MirrorIsUndone
mirror_undone P on =
    let men = mirrored_twice P.men on.0 in
    let turn = opposite-opposite P.turn in
    let en_passant = passed_twice P.en_passant on.1 in
    λ i. record {
      men = men i;
      turn = turn i;
      rights = P.rights;
      en_passant = en_passant i;
      halfmove_clock = P.halfmove_clock;
      fullmove_number = P.fullmove_number;
    }

-- all are tried at the other position
tried_there : (P Q : State) (turned : Bool) → turned ≡ true → (if turned then Q else P) ≡ Q
tried_there P Q true e = refl
tried_there P Q false e = absurd (cc)

each_there : (P R Q : State) (conditions : List (PositionCondition (List ℕ)))
    → AreTurned conditions → EachHold P Q conditions → EachHold R Q conditions
each_there P R Q [] turned each = tt
each_there P R Q (condition ∷ more) turned each =
    let here = tried_there P Q (is_turned condition) turned.0 in
    let there = tried_there R Q (is_turned condition) turned.0 in (
      subst (λ p. Holds p condition) (here ∙ sym there) each.0,
      each_there P R Q more turned.1 each.1,
    )

positions_alike : (P : State) (conditions : List (PositionCondition (List ℕ))) → StandsOnBoard P
    → AreTurned conditions → PositionsHold P conditions ↔ PositionsHold (mirror P) conditions
positions_alike P conditions on turned =
    let back : mirror (mirror P) ≡ P = mirror_undone P on in
    let there = λ (p q r : State). each_there p q r conditions turned in (
      λ hold. elim hold [
        | inl plain ↦ inr
            (subst (λ Q. EachHold (mirror P) Q conditions) (sym back) (there P (mirror P) P plain))
        | inr turns ↦ inl (there P (mirror P) (mirror P) turns)
      ],
      λ hold. elim hold [
        | inl plain ↦ inr (there (mirror P) P (mirror P) plain)
        | inr turns ↦ inl
            (there (mirror P) P P (subst (λ Q. EachHold (mirror P) Q conditions) back turns))
      ],
    )

pub sides_alike : SidesAreAlike
sides_alike heading replay ply P asked on turned =
    let alike = positions_alike P asked.positions on turned in (
      (λ (games, moves, hold). (games, moves, alike.0 hold)),
      (λ (games, moves, hold). (games, moves, alike.1 hold)),
    )
