use Rattle.chess.proofs.Common.{◌≡◌, ◌<◌, ◌^◌, bit_and, ℕ, true, min, arith, sym, ap, ◌∙◌, inl, inr}
use Rattle.chess.proofs.Common.{bit_at, cases_eq, eqb-true, eq-eqb, and_le_l, bit_at_and, bit_at-lt}
use Rattle.chess.proofs.Common.{same_from_bits_below, Place, index_of, square_at}
use Rattle.chess.proofs.Common.{index_of-square_at, is_in, has_bit, places_of, is_in-places_of}
use Rattle.chess.proofs.Common.{on_board-places_of, on_board-square_at}
use Rattle.chess.proofs.board.set.SquareSet.is_within.Goals as goal

-- words of which one has all bits of the other
within_then : (own other : ℕ) → bit_and own other ≡ own → (s : Place)
    → is_in (places_of (has_bit own)) s ≡ true → is_in (places_of (has_bit other)) s ≡ true
within_then own other same s here =
    let on = on_board-places_of (has_bit own) s here in
    let at = index_of s in
    let set : bit_at own at ≡ 1 = eqb-true _ _ (sym (is_in-places_of (has_bit own) s on) ∙ here) in
    let both : bit_at own at ≡ min (bit_at own at) (bit_at other at) =
    ap (λ n. bit_at n at) (sym same) ∙ bit_at_and own other at in
    let small = bit_at-lt other at in
    let there : bit_at other at ≡ 1 = omega arith in
    is_in-places_of (has_bit other) s on ∙ eq-eqb _ _ there

then_within : (own other : ℕ) → own < 2 ^ 64
    → ((s : Place) → is_in (places_of (has_bit own)) s ≡ true
    → is_in (places_of (has_bit other)) s ≡ true) → bit_and own other ≡ own
then_within own other fits reports =
    let low = and_le_l own other in
    let below : bit_and own other < 2 ^ 64 = omega arith in
    same_from_bits_below 64 (bit_and own other) own below fits (λ i near.
    elim (cases_eq (bit_at own i) 1) [
      | inl set ↦
          let on = on_board-square_at i near in
          let at = index_of-square_at i near in
          let here = is_in-places_of (has_bit own) (square_at i) on ∙ ap (has_bit own) at
          ∙ eq-eqb _ _ set in
          let there : bit_at other i ≡ 1 =
          eqb-true _ _ (sym (ap (has_bit other) at)
          ∙ sym (is_in-places_of (has_bit other) (square_at i) on) ∙ reports (square_at i) here)
          in
          let both = bit_at_and own other i in
          omega arith
      | inr other_bit ↦
          let both = bit_at_and own other i in
          let small = bit_at-lt own i in
          omega arith
    ])

pub returns : goal.returns
returns c =
    let own = c.self.inside.bitboard in
    let other = c.other.inside.bitboard in
    let shown : (s : Place) → is_in (places_of (has_bit own)) s ≡ is_in c.args.self.now s =
    λ s. ap (λ set. is_in set s) c.self.view_is in
    let reports : (s : Place) → is_in (places_of (has_bit other)) s ≡ is_in c.args.other.now s =
    λ s. ap (λ set. is_in set s) c.other.view_is in (
      (λ e s here. sym (reports s) ∙ within_then own other (eqb-true _ _ e) s (shown s ∙ here)),
      (λ all. eq-eqb _ _ (then_within own other c.self.invariant (λ s here. reports s
          ∙ all s (sym (shown s) ∙ here)))),
    )
