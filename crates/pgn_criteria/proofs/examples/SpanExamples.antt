-- What the definitions say of `for` and `count`, that every reader can check.
use Rattle.pgn_criteria.proofs.Common.{◌≡◌, ◌≤◌, ◌+◌, ℕ, [], ◌∷◌, length, Some, refl, inl, inr}
use Rattle.pgn_criteria.proofs.Common.{arith, cases_lt, slice_get, State, Replay, Heading}
use Rattle.pgn_criteria.proofs.Common.{HoldsThere, Ascend, IsAmong, AreAll, SpanHolds, SpansHold}
use Rattle.pgn_criteria.proofs.Common.{Equal, Less, GreaterOrEqual, no_conditions, with_condition}
use Rattle.pgn_criteria.proofs.Common.{Span, For, Count}
use Rattle.pgn_criteria.proofs.SpanFacts.{one_number}

-- the other conditions hold after 2, 3 and 5 plies
abbrev pub Fits : ℕ → Type 0
Fits ply = IsAmong ply (2 ∷ 3 ∷ 5 ∷ [])

-- so there are two such plies in a row from 2 on, and no three
two_in_a_row : SpanHolds Fits 2 (For 2)
two_in_a_row i less = elim (cases_lt i 1) [
  | inl first ↦ inl (omega (arith, first))
  | inr second ↦ inr (inl (omega (arith, second, less)))
]

not_three_in_a_row : SpanHolds Fits 2 (For 3) → ⊥
not_three_in_a_row holds = not_four (holds 2 (omega arith))
  where
    not_four : Fits 4 → ⊥
    not_four (inl two) = omega (arith, two)
    not_four (inr (inl three)) = omega (arith, three)
    not_four (inr (inr (inl five))) = omega (arith, five)
    not_four (inr (inr (inr none))) = none

-- from 5 on there is one
one_at_five : SpanHolds Fits 5 (For 1)
one_at_five i less = inr (inr (inl (omega (arith, less))))

not_two_at_five : SpanHolds Fits 5 (For 2) → ⊥
not_two_at_five holds = not_six (holds 1 (omega arith))
  where
    not_six : Fits 6 → ⊥
    not_six (inl two) = omega (arith, two)
    not_six (inr (inl three)) = omega (arith, three)
    not_six (inr (inr (inl five))) = omega (arith, five)
    not_six (inr (inr (inr none))) = none

-- and three in all, whichever ply is asked
all_three : AreAll Fits (2 ∷ 3 ∷ 5 ∷ [])
all_three =
    record {
      ascend = (omega arith, (omega arith, (omega arith, tt)));
      exactly = λ ply. (λ among. among, λ such. such);
    }

three_in_all : (ply : ℕ) → SpanHolds Fits ply (Count Equal 3)
three_in_all ply = (2 ∷ 3 ∷ 5 ∷ [], all_three, refl)

not_fewer_than_three : SpanHolds Fits 2 (Count Less 3) → ⊥
not_fewer_than_three (plies, all, less) =
    let same : length plies ≡ 3 = one_number Fits plies (2 ∷ 3 ∷ 5 ∷ []) all all_three in
    omega (arith, same, less)

not_four_or_more : SpanHolds Fits 2 (Count GreaterOrEqual 4) → ⊥
not_four_or_more (plies, all, many) =
    let same : length plies ≡ 3 = one_number Fits plies (2 ∷ 3 ∷ 5 ∷ []) all all_three in
    omega (arith, same, many)

-- each ply counts once
not_twice : Ascend 0 (2 ∷ 2 ∷ []) → ⊥
not_twice up = let more : 2 + 1 ≤ 2 = up.1.0 in omega (arith, more)

-- several lines say it all together
together : SpansHold Fits 2 (For 2 ∷ Count Equal 3 ∷ [])
together = (two_in_a_row, (three_in_all 2, tt))

-- an alternative without other conditions fits each ply that has a position
each_ply : (heading : Heading) (replay : Replay) (ply : ℕ) (P : State)
    → slice_get replay.positions ply ≡ Some P
    → HoldsThere heading replay (with_condition (Span (For 3)) no_conditions) ply
each_ply heading replay ply P here = (P, here, (tt, tt, inl tt))
