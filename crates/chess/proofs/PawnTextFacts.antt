-- How a pawn goes, as its text says it: a capture changes the file, and the file, or its absence,
-- says which pawn.
use Rattle.std.specs.Prelude.{if◌then◌else◌}
use Rattle.chess.proofs.Common.{◌≡◌, ◌⊎◌, ℕ, true, false, not, ◌&&◌, inl, inr, ap, refl, sym, subst}
use Rattle.chess.proofs.Common.{◌∙◌, arith, Option, Some, is_some, ◌==◌, cases_eq, nat_tests, Place}
use Rattle.chess.proofs.Common.{gap, man_at, opposite, IsOccupiedBy, IsEmpty, IsForward, State}
use Rattle.chess.proofs.Common.{pawn_of, IsPawnMove, IsSingleStep, IsDoubleStep, is_pawn, is_square}
use Rattle.chess.proofs.Common.{is_en_passant, is_capture, Man, Move}
use Rattle.chess.proofs.PlaceFacts.{place_of, same_square-same, some_not_none, true_not_false}
use Rattle.chess.proofs.GoesFacts.{IsTried}
use Rattle.chess.proofs.KingFacts.{and_left, and_right, passing_pawn}
use Rattle.chess.proofs.WayFacts.{same_back}

-- ---- a step stays on its file, a capture does not

attack_leaves : (a b : ℕ) → gap a b ≡ 1 → a ≡ b → ⊥
attack_leaves a b apart same = omega arith

step_of : (P : State) (m : Move) → IsPawnMove P m.from m.to → m.from.file ≡ m.to.file
    → IsSingleStep P m.from m.to ⊎ IsDoubleStep P m.from m.to
step_of P m (inl single) same = inl single
step_of P m (inr (inl double)) same = inr double
step_of P m (inr (inr capture)) same = absurd (attack_leaves m.from.file m.to.file capture.0.0 same)

attack_of : (P : State) (m : Move) → IsPawnMove P m.from m.to → (m.from.file ≡ m.to.file → ⊥)
    → IsForward P.turn m.from.rank m.to.rank
attack_of P m (inl single) other = absurd (other (sym single.0))
attack_of P m (inr (inl double)) other = absurd (other (sym double.file))
attack_of P m (inr (inr capture)) other = capture.0.1

-- ---- a pawn takes where it changes its file, and nowhere else

other_file : (P : State) (m : Move) → is_en_passant P m ≡ true → m.from.file ≡ m.to.file → ⊥
other_file P m e same =
    let first =
    and_left (is_pawn (man_at P.men m.from)
    && not (m.from.file == m.to.file)) (is_square P.en_passant m.to) e in
    let other = and_right (is_pawn (man_at P.men m.from)) (not (m.from.file == m.to.file)) first in
    absurd (grind (arith, nat_tests))

step_takes_none : (P : State) (m : Move) → m.from.file ≡ m.to.file → IsEmpty P.men m.to
    → is_capture P m ≡ false
step_takes_none P m same empty =
    elim (is_en_passant P m) as (λ b. is_en_passant P m ≡ b
    → is_some (man_at P.men (if b then record { file = m.to.file; rank = m.from.rank }
    else m.to)) ≡ false) [
      | true ↦ λ e. absurd (other_file P m e same)
      | false ↦ λ e. ap is_some empty
    ] refl

pub capture_leaves : (P : State) (m : Move) → IsPawnMove P m.from m.to → is_capture P m ≡ true
    → m.from.file ≡ m.to.file → ⊥
capture_leaves P m goes capture same = elim (step_of P m goes same) [
  | inl single ↦ true_not_false (is_capture P m) capture (step_takes_none P m same single.2)
  | inr double ↦ true_not_false (is_capture P m) capture (step_takes_none P m same double.end_empty)
]

-- a pawn that changes its file takes a man: on the square that it goes to, or en passant beside it
some_is : (o : Option Man) (man : Man) → o ≡ Some man → is_some o ≡ true
some_is o man e = ap is_some e

passes : (P : State) (m : Move) → man_at P.men m.from ≡ Some (pawn_of P.turn)
    → IsPawnMove P m.from m.to → (m.from.file ≡ m.to.file → ⊥)
    → is_en_passant P m ≡ false → IsOccupiedBy P.men (opposite P.turn) m.to
passes P m here (inl single) other e = absurd (other (sym single.0))
passes P m here (inr (inl double)) other e = absurd (other (sym double.file))
passes P m here (inr (inr (attack, inl held))) other e = held
passes P m here (inr (inr (attack, inr square))) other e =
    let pawn : is_pawn (man_at P.men m.from) ≡ true = ap is_pawn here in
    let aim : is_square P.en_passant m.to ≡ true =
    ap (λ o. is_square o m.to) square ∙ same_square-same m.to m.to refl in
    let leaves : not (m.from.file == m.to.file) ≡ true = grind (arith, nat_tests) in
    let clash : is_en_passant P m ≡ true = λ i. pawn i && leaves i && aim i in
    absurd (true_not_false (is_en_passant P m) clash e)

takes_one : (P : State) (m : Move) → IsTried P m → man_at P.men m.from ≡ Some (pawn_of P.turn)
    → IsPawnMove P m.from m.to
    → (m.from.file ≡ m.to.file → ⊥) → is_capture P m ≡ true
takes_one P m x here goes other =
    elim (is_en_passant P m) as (λ b. is_en_passant P m ≡ b
    → is_some (man_at P.men (if b then record { file = m.to.file; rank = m.from.rank }
    else m.to)) ≡ true) [
      | true ↦ λ e. some_is _ (pawn_of (opposite P.turn)) (passing_pawn P m x e)
      | false ↦ λ e. let held = passes P m here goes other e in some_is _ held.0 held.1
    ] refl

pub step_stays : (P : State) (m : Move) → IsTried P m → man_at P.men m.from ≡ Some (pawn_of P.turn)
    → IsPawnMove P m.from m.to
    → is_capture P m ≡ false → m.from.file ≡ m.to.file
step_stays P m x here goes none = elim (cases_eq m.from.file m.to.file) [
  | inl same ↦ same
  | inr other ↦ absurd (true_not_false (is_capture P m) (takes_one P m x here goes other) none)
]

-- ---- two pawns of one file that go to one square are one

pub same_capture : (P : State) (m n : Move) → IsPawnMove P m.from m.to → IsPawnMove P n.from n.to
    → n.to ≡ m.to → n.from.file ≡ m.from.file
    → (m.from.file ≡ m.to.file → ⊥) → n.from ≡ m.from
same_capture P m n goes others to file other =
    let there : IsForward P.turn n.from.rank n.to.rank =
    attack_of P n others (λ same. other (sym file ∙ same ∙ ap (λ (s : Place). s.file) to)) in
    place_of n.from m.from file
    (same_back P.turn n.from.rank m.from.rank m.to.rank
    (subst (λ (s : Place). IsForward P.turn n.from.rank s.rank) to there)
    (attack_of P m goes other))

-- the square that a double step passes over is empty
over_pawn : (P : State) (s t : Place) (own : Man) → man_at P.men s ≡ Some own → t.file ≡ s.file
    → IsForward P.turn s.rank t.rank
    → (from : Place) → IsDoubleStep P from t → ⊥
over_pawn P s t own here file near from double =
    let same : double.passed ≡ s =
    place_of double.passed s (double.same_file ∙ sym double.file
    ∙ file) (same_back P.turn double.passed.rank s.rank t.rank double.second near) in
    some_not_none (man_at P.men s) own (subst (IsEmpty P.men) same double.empty) here

same_steps : (P : State) (s from t : Place) (own : Man) → man_at P.men s ≡ Some own
    → man_at P.men from ≡ Some own
    → IsSingleStep P s t ⊎ IsDoubleStep P s t → IsSingleStep P from t ⊎ IsDoubleStep P from t
    → s ≡ from
same_steps P s from t own here there (inl a) (inl b) =
    place_of s from (sym a.0 ∙ b.0) (same_back P.turn s.rank from.rank t.rank a.1 b.1)
same_steps P s from t own here there (inl a) (inr b) =
    absurd (over_pawn P s t own here a.0 a.1 from b)
same_steps P s from t own here there (inr a) (inl b) =
    absurd (over_pawn P from t own there b.0 b.1 s a)
same_steps P s from t own here there (inr a) (inr b) =
    place_of s from (sym a.file ∙ b.file) (a.from_first_rank ∙ sym b.from_first_rank)

pub same_step : (P : State) (m n : Move) (own : Man) → man_at P.men m.from ≡ Some own
    → man_at P.men n.from ≡ Some own
    → IsPawnMove P m.from m.to → IsPawnMove P n.from n.to → n.to ≡ m.to → m.from.file ≡ m.to.file
    → n.from.file ≡ n.to.file → n.from ≡ m.from
same_step P m n own here there goes others to same stays =
    same_steps P n.from m.from m.to own there here
    (rw (← to) (step_of P n others stays)) (step_of P m goes same)
