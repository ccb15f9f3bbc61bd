-- Loops over the squares of a set, first to last.
use Rattle.std.specs.Ordering.{eq_by_cmp}
use Rattle.std.specs.FinSet.{remove, same_set, contains-remove, len-remove, empty_of_len}
use Rattle.std.proofs.Math.Bool.{and_comm}
use Rattle.chess.proofs.Common.{◌≡◌, ◌↔◌, ◌<◌, ◌-◌, ◌&&◌, ◌||◌, ◌⊎◌, Bool, true, false, not, inl}
use Rattle.chess.proofs.Common.{inr, ap, refl, sym, subst, ◌∙◌, arith, Option, Some, None, IsTrue}
use Rattle.chess.proofs.Common.{if◌then◌else◌, cases_eq, and_parts, and_from, or_left, or_right}
use Rattle.chess.proofs.Common.{Place, IsOnBoard, place_cmp, same_square, is_in-empty, false_of}
use Rattle.chess.proofs.Common.{Places, is_in, no_places, size_of, HoldsExactly, HasOnly}
use Rattle.chess.proofs.Common.{IsTakenFirst, HasEach, IsLeft, IsSifted}
use Rattle.chess.specs.Shared.OrderFacts.{place_total, place_exact}
use Rattle.chess.specs.Shared.SetFacts.{tied, ties}
use Rattle.chess.proofs.PlaceFacts.{cases_place, same_square-same, same_square-then, true_not_false}
use Rattle.chess.proofs.PlaceFacts.{not_true, true_not}

-- no square is in the empty set
pub not_in : (set : Places) (s : Place) → set ≡ no_places → is_in set s ≡ false
not_in set s none = ap (λ p. is_in p s) none ∙ is_in-empty s

pub left_start : (range fact : Place → Type 0) (set : Places) → HasEach fact set
    → ((s : Place) → IsOnBoard s → is_in set s ≡ true → range s)
    → IsLeft range fact set
left_start range fact set each within = record { each = each; within = within }

pub left_none : (range fact : Place → Type 0) (old new : Places) → IsLeft range fact old
    → IsTakenFirst old new None
    → (s : Place) → IsOnBoard s → fact s → ⊥
left_none range fact old new left none s on holds =
    true_not_false (is_in old s) (left.each s on holds) (not_in old s none.0)

-- ---- one square less

same_is_tied : (s t : Place) → same_square s t ≡ eq_by_cmp place_cmp s t
same_is_tied s t =
    elim (same_square s t) as (λ b. same_square s t ≡ b → b ≡ eq_by_cmp place_cmp s t) [
      | true ↦ λ e. sym (ap (λ u. eq_by_cmp place_cmp u t) (same_square-then s t e) ∙ ties t)
      | false ↦ λ e. sym (false_of _ (λ same.
          true_not_false (same_square s t) (same_square-same s t (tied s t _ refl same)) e))
    ] refl

-- the loop goes on for as many squares as there are
pub fewer : (old new : Places) (t : Place) → IsTakenFirst old new (Some t)
    → size_of new < size_of old
fewer old new t capture_square =
    let is : new ≡ remove old t =
    same_set place_total place_exact new (remove old t)
    (λ s. capture_square.3 s ∙ and_comm (is_in old s) (not (same_square s t))
    ∙ ap (λ b. not b && is_in old s) (same_is_tied s t)
    ∙ sym (contains-remove place_total old t s)) in
    let size : size_of new ≡ size_of old - 1 =
    ap size_of is ∙ len-remove place_total old t
    ∙ ap (λ b. if b then size_of old - 1 else size_of old) capture_square.1 in
    elim (cases_eq (size_of old) 0) [
      | inl none ↦ absurd
          (true_not_false (is_in old t) capture_square.1 (not_in old t (empty_of_len old none)))
      | inr some ↦ omega arith
    ]

-- ---- what is left after the first was taken out

pub still_left : (old new : Places) (t s : Place) → IsTakenFirst old new (Some t)
    → is_in old s ≡ true → (s ≡ t → ⊥) → is_in new s ≡ true
still_left old new t s capture_square here other =
    capture_square.3 s
    ∙ and_from (is_in old s) (not (same_square s t)) here
    (not_true (same_square s t) (λ e. other (same_square-then s t e)))

pub was_left : (old new : Places) (t s : Place) → IsTakenFirst old new (Some t) → is_in new s ≡ true
    → (is_in old s ≡ true) × (s ≡ t → ⊥)
was_left old new t s capture_square here =
    let both = sym (capture_square.3 s) ∙ here in (
      (and_parts (is_in old s) (not (same_square s t)) both).0,
      (λ e. true_not (same_square s t) (and_parts (is_in old s) (not (same_square s t)) both).1
          (same_square-same s t e)),
    )

pub left_more : (range fact : Place → Type 0) (old new : Places) (t : Place) → IsLeft range fact old
    → IsTakenFirst old new (Some t)
    → (fact t → ⊥) → IsLeft range fact new
left_more range fact old new t left capture_square fails = record {
  each = λ s on holds. still_left old new t s capture_square (left.each s on holds) (λ e.
      fails (subst fact e holds));
  within = λ s on here. left.within s on (was_left old new t s capture_square here).0;
}

-- ---- those found among them

pub sifted_start : (fact : Place → Type 0) (set found : Places) → HasEach fact set
    → found ≡ no_places → IsSifted fact set found
sifted_start fact set found each none = record {
  sound = λ s here. absurd (true_not_false (is_in found s) here (not_in found s none));
  each = λ s on holds. inr (each s on holds);
}

or_cases : (a b c : Bool) → ((a && b) || c) ≡ true → ((a ≡ true) × (b ≡ true)) ⊎ (c ≡ true)
or_cases true true c e = inl (refl, refl)
or_cases true false c e = inr e
or_cases false b c e = inr e

pub sifted_more : (fact : Place → Type 0) (old new found more : Places) (t : Place) (test : Bool)
    → IsSifted fact old found
    → IsTakenFirst old new (Some t) → IsTrue test ↔ fact t
    → ((s : Place) → is_in more s ≡ ((test && same_square t s) || is_in found s))
    → IsSifted fact new more
sifted_more fact old new found more t test so_far capture_square tested put = record {
  sound = λ s here. elim (or_cases test (same_square t s) (is_in found s) (sym (put s) ∙ here)) [
    | inl added ↦
        let same = same_square-then t s added.1 in
        (subst IsOnBoard same capture_square.0, subst fact same (tested.0 added.0))
    | inr before ↦ so_far.sound s before
  ];
  each = λ s on holds. elim (cases_place s t) [
    | inl same ↦
        let passes = tested.1 (subst fact same holds) in
        inl (put s ∙ or_left (test && same_square t s) (is_in found s)
        (and_from test (same_square t s) passes (same_square-same t s (sym same))))
    | inr other ↦ elim (so_far.each s on holds) [
      | inl in_found ↦ inl (put s ∙ or_right (test && same_square t s) (is_in found s) in_found)
      | inr in_old ↦ inr (still_left old new t s capture_square in_old other)
    ]
  ];
}

pub sifted_none : (fact : Place → Type 0) (old new found : Places) → IsSifted fact old found
    → IsTakenFirst old new None → HoldsExactly fact found
sifted_none fact old new found so_far none s = (
  so_far.sound s,
  (λ holds. elim (so_far.each s holds.0 holds.1) [
    | inl here ↦ here
    | inr left ↦ absurd (true_not_false (is_in old s) left (not_in old s none.0))
  ]),
)

-- where none is taken out there was none
pub taken_none : (old new : Places) (o : Option Place) → IsTakenFirst old new o → o ≡ None
    → old ≡ no_places
taken_none old new None capture_square e = capture_square.0
taken_none old new (Some t) capture_square e = absurd (cc)

-- ---- a set of one square

-- after its first square was taken out no square is left, so it had no other
pub only_first : (old new : Places) (t : Place) → ((u : Place) → is_in old u ≡ true → IsOnBoard u)
    → IsTakenFirst old new (Some t)
    → ((u : Place) × IsOnBoard u × (is_in new u ≡ true) → ⊥) → HasOnly old t
only_first old new t on_board capture_square none = (
  capture_square.0,
  λ u. (
    (λ here. (
      on_board u here,
      elim (same_square u t) as (λ b. same_square u t ≡ b → u ≡ t) [
        | true ↦ λ e. same_square-then u t e
        | false ↦ λ e. absurd
            (none (
              u,
              on_board u here,
              still_left old new t u capture_square here (λ same.
                  true_not_false _ (same_square-same u t same) e),
            ))
      ] refl,
    )),
    (λ h. ap (is_in old) h.1 ∙ capture_square.1),
  ),
)

-- after its first square was taken out one is left
pub not_only : (old new : Places) (t : Place) → IsTakenFirst old new (Some t)
    → (u : Place) × IsOnBoard u × (is_in new u ≡ true)
    → (s : Place) → HasOnly old s → ⊥
not_only old new t capture_square left s only =
    let rest = was_left old new t left.0 capture_square left.2 in
    rest.1 (((only.1 left.0).0 rest.0).1 ∙ sym ((only.1 t).0 capture_square.1).1)

pub none_only : (old : Places) → old ≡ no_places → (s : Place) → HasOnly old s → ⊥
none_only old none s only =
    true_not_false (is_in old s) ((only.1 s).1 (only.0, refl)) (not_in old s none)
