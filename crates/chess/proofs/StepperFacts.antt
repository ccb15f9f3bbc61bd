-- The pawn that steps to a square: it comes from the next square back, or over that one from the
-- square before it.
use Rattle.chess.proofs.Common.{◌≡◌, ◌⊎◌, ◌≤◌, ◌||◌, ℕ, inl, inr, ap, sym, subst, ◌∙◌, arith, None}
use Rattle.chess.proofs.Common.{or_cases, Place, IsOnBoard, same_square, gap, man_at, opposite}
use Rattle.chess.proofs.Common.{IsEmpty, IsForward, State, IsSingleStep, IsDoubleStep}
use Rattle.chess.proofs.Common.{IsPawnCapture, IsPawnMove, IsMover, IsStepper, CanStepOver}
use Rattle.chess.proofs.Common.{IsSquareAhead, Side, White, Black, Pawn, Places, is_in, no_places}
use Rattle.chess.proofs.Common.{HoldsExactly}
use Rattle.chess.proofs.PlaceFacts.{place_of, some_not_none, same_square-same, same_square-then}
use Rattle.chess.proofs.PlaceFacts.{true_not_false}
use Rattle.chess.proofs.LoopFacts.{not_in}
use Rattle.chess.proofs.WayFacts.{between_low, between_high, same_back}

-- one rank forward for a side is one rank back for the other
pub back : (side : Side) (a b : ℕ) → IsForward side a b → IsForward (opposite side) b a
back White a b e = e
back Black a b e = e

pub forth : (side : Side) (a b : ℕ) → IsForward (opposite side) b a → IsForward side a b
forth White a b e = e
forth Black a b e = e

-- the square back from another for a side
abbrev pub IsAtRear : Side → Place → Place → Type 0
IsAtRear side t s = (s.file ≡ t.file) × IsForward side s.rank t.rank

one_at_rear : (side : Side) (t s u : Place) → IsAtRear side t s → IsAtRear side t u → s ≡ u
one_at_rear side t s u e f =
    place_of s u (e.0 ∙ sym f.0) (same_back side s.rank u.rank t.rank e.1 f.1)

-- what is found straight ahead for the other side is the square back
abbrev pub IsBack : Side → Place → Place → Type 0
IsBack side t s = IsOnBoard s × (s.file ≡ t.file) × IsForward (opposite side) t.rank s.rank

pub rear_of : (side : Side) (t s : Place) → IsBack side t s → IsAtRear side t s
rear_of side t s found = (found.1, forth side s.rank t.rank found.2)

single_at_rear : (P : State) (s t : Place) → IsSingleStep P s t → IsAtRear P.turn t s
single_at_rear P s t step = (sym step.0, step.1)

first_at_rear : (P : State) (s t : Place) (d : IsDoubleStep P s t) → IsAtRear P.turn t d.passed
first_at_rear P s t d = (d.same_file ∙ sym d.file, d.second)

second_after : (P : State) (s t : Place) (d : IsDoubleStep P s t) → IsAtRear P.turn d.passed s
second_after P s t d = (sym d.same_file, d.first)

passed_on : (P : State) (s t : Place) → IsOnBoard s → IsOnBoard t → (d : IsDoubleStep P s t)
    → IsOnBoard d.passed
passed_on P s t on there d = record {
  file_low = subst (λ n. 1 ≤ n) (sym d.same_file) on.file_low;
  file_high = subst (λ n. n ≤ 8) (sym d.same_file) on.file_high;
  rank_low = between_low P.turn s.rank d.passed.rank t.rank d.first d.second there.rank_low;
  rank_high =
      between_high P.turn s.rank d.passed.rank t.rank d.first d.second on.rank_high there.rank_high;
}

-- no pawn steps to a square where a man stands
pub no_step_taken : (P : State) (t s : Place) → (IsEmpty P.men t → ⊥) → IsStepper P t s → ⊥
no_step_taken P t s held (pawn, inl single) = held single.2
no_step_taken P t s held (pawn, inr double) = held double.end_empty

-- nor to one that has none at its rear
pub no_step_edge : (P : State) (side : Side) (t : Place) → side ≡ opposite P.turn → IsOnBoard t
    → IsSquareAhead side t None → (s : Place) → IsOnBoard s
    → IsStepper P t s → ⊥
no_step_edge P side t e there none s on (pawn, inl single) =
    none s on (sym single.0)
    (subst (λ a. IsForward a t.rank s.rank) (sym e) (back P.turn s.rank t.rank single.1))
no_step_edge P side t e there none s on (pawn, inr double) =
    let rear = first_at_rear P s t double in
    none double.passed (passed_on P s t on there double) rear.0
    (rw e (back P.turn double.passed.rank t.rank rear.1))

-- the pawn on the square back
pub steps_once : (P : State) (t one : Place) → IsEmpty P.men t → IsAtRear P.turn t one
    → IsMover P Pawn one → IsStepper P t one
steps_once P t one empty rear pawn = (pawn, inl (sym rear.0, rear.1, empty))

pub only_once : (P : State) (t one s : Place) → IsAtRear P.turn t one → IsMover P Pawn one
    → IsStepper P t s → s ≡ one
only_once P t one s rear pawn (own, inl single) =
    one_at_rear P.turn t s one (single_at_rear P s t single) rear
only_once P t one s rear pawn (own, inr double) =
    let same = one_at_rear P.turn t double.passed one (first_at_rear P s t double) rear in
    absurd (some_not_none (man_at P.men one) _ (subst (IsEmpty P.men) same double.empty) pawn)

-- else the one back from that
from_two : (P : State) (t one s : Place) → IsAtRear P.turn t one → (IsMover P Pawn one → ⊥)
    → IsStepper P t s
    → IsAtRear P.turn one s × CanStepOver P one s
from_two P t one s rear none (own, inl single) =
    absurd (none
    (subst (IsMover P Pawn) (one_at_rear P.turn t s one (single_at_rear P s t single) rear)
    own))
from_two P t one s rear none (own, inr double) =
    let same = one_at_rear P.turn t double.passed one (first_at_rear P s t double) rear in (
      subst (λ u. IsAtRear P.turn u s) same (second_after P s t double),
      (double.from_first_rank, subst (IsEmpty P.men) same double.empty, own),
    )

pub no_second : (P : State) (side : Side) (t one s : Place) → side ≡ opposite P.turn
    → IsAtRear P.turn t one → (IsMover P Pawn one → ⊥)
    → IsSquareAhead side one None → IsOnBoard s → IsStepper P t s → ⊥
no_second P side t one s e rear none edge on step =
    let found = from_two P t one s rear none step in
    edge s on found.0.0
    (subst (λ a. IsForward a one.rank s.rank) (sym e) (back P.turn s.rank one.rank found.0.1))

pub only_two : (P : State) (t one two s : Place) → IsAtRear P.turn t one → IsAtRear P.turn one two
    → (IsMover P Pawn one → ⊥) → IsStepper P t s
    → (s ≡ two) × CanStepOver P one two
only_two P t one two s rear second none step =
    let found = from_two P t one s rear none step in
    let same = one_at_rear P.turn one s two found.0 second in
    (same, subst (CanStepOver P one) same found.1)

pub steps_twice : (P : State) (t one two : Place) → IsEmpty P.men t → IsAtRear P.turn t one
    → IsAtRear P.turn one two → CanStepOver P one two
    → IsStepper P t two
steps_twice P t one two empty rear second can = (
  can.2,
  inr (record {
    file = sym rear.0 ∙ sym second.0;
    from_first_rank = can.0;
    passed = one;
    same_file = sym second.0;
    first = second.1;
    second = rear.1;
    empty = can.1;
    end_empty = empty;
  }),
)

-- a pawn that takes leaves its file, and a pawn that steps stays on it
gap_none : (a b : ℕ) → a ≡ b → gap a b ≡ 1 → ⊥
gap_none a b e f = omega arith

pub on_file : (P : State) (s t : Place) → s.file ≡ t.file → IsPawnMove P s t
    → IsSingleStep P s t ⊎ IsDoubleStep P s t
on_file P s t e (inl single) = inl single
on_file P s t e (inr (inl double)) = inr double
on_file P s t e (inr (inr capture)) = absurd (gap_none s.file t.file e capture.0.0)

pub off_file : (P : State) (s t : Place) → (s.file ≡ t.file → ⊥) → IsPawnMove P s t
    → IsPawnCapture P s t
off_file P s t e (inl single) = absurd (e (sym single.0))
off_file P s t e (inr (inl double)) = absurd (e (sym double.file))
off_file P s t e (inr (inr capture)) = capture

pub step_file : (P : State) (s t : Place) → IsSingleStep P s t ⊎ IsDoubleStep P s t
    → s.file ≡ t.file
step_file P s t (inl single) = sym single.0
step_file P s t (inr double) = sym double.file

pub step_free : (P : State) (s t : Place) → IsSingleStep P s t ⊎ IsDoubleStep P s t
    → IsEmpty P.men t
step_free P s t (inl single) = single.2
step_free P s t (inr double) = double.end_empty

-- a fact that one square alone has, as a set
pub one_holds : (fact : Place → Type 0) (old new : Places) (t : Place) → old ≡ no_places
    → IsOnBoard t → fact t
    → ((s : Place) → IsOnBoard s → fact s → s ≡ t)
    → ((s : Place) → is_in new s ≡ (same_square t s || is_in old s)) → HoldsExactly fact new
one_holds fact old new t none on holds only put s = (
  (λ here. elim (or_cases (same_square t s) (is_in old s) (sym (put s) ∙ here)) [
    | inl same ↦ let e = same_square-then t s same in (subst IsOnBoard e on, subst fact e holds)
    | inr left ↦ absurd (true_not_false (is_in old s) left (not_in old s none))
  ]),
  (λ own. put s ∙ ap (λ b. b || is_in old s) (same_square-same t s (sym (only s own.0 own.1)))),
)
