-- One bit more or less in a bitboard, as one square more or less in its set.
use Rattle.std.proofs.lemmas.Nat.Bits.{bit_at_lowest, bit_at-suc, bit_at_and, bit_at_clear_same}
use Rattle.std.proofs.lemmas.Nat.Bits.{bit_at_clear_other, same_from_bits_below}
use Rattle.chess.proofs.Common.{◌≡◌, ◌<◌, ◌-◌, ◌*◌, ◌/◌, ◌^◌, ◌%◌, ◌||◌, ◌&&◌, bit_and, bit_or, w64}
use Rattle.chess.proofs.Common.{ℕ, zero, suc, Bool, false, not, inl, inr, ap, sym, subst, ◌∙◌}
use Rattle.chess.proofs.Common.{arith, bit_at, bit_not, cases_eq, cases_lt, and_le_l, Place}
use Rattle.chess.proofs.Common.{IsOnBoard, square_at, index_of, same_square, is_in, places_of}
use Rattle.chess.proofs.Common.{has_bit, false_of, on_board-places_of, on_board_or_not}
use Rattle.chess.specs.Shared.SetFacts.{is_in-set_bit, is_in-clear_bit}
use Rattle.chess.proofs.PlaceFacts.{same_square-then}

-- no square off the board is in the set of a bitboard
off_set : (test : ℕ → Bool) (s : Place) → (IsOnBoard s → ⊥) → is_in (places_of test) s ≡ false
off_set test s off = false_of _ (λ e. off (on_board-places_of test s e))

off_square : (t s : Place) → IsOnBoard t → (IsOnBoard s → ⊥) → same_square t s ≡ false
off_square t s on off = false_of _ (λ e. off (subst IsOnBoard (same_square-then t s e) on))

pub set_bit : (bitboard : ℕ) (t s : Place) → IsOnBoard t
    → is_in (places_of (has_bit (bit_or bitboard (1 * 2 ^ index_of t % 2 ^ 64)))) s
    ≡ (same_square t s || is_in (places_of (has_bit bitboard)) s)
set_bit bitboard t s on = elim (on_board_or_not s) [
  | inl here ↦ is_in-set_bit bitboard t s on here
  | inr off ↦ off_set _ s off
      ∙ sym (ap (λ b. b || is_in (places_of (has_bit bitboard)) s) (off_square t s on off)
      ∙ off_set _ s off)
]

pub clear_bit : (bitboard at : ℕ) (s : Place) → at < 64
    → is_in (places_of (has_bit (bit_and bitboard (bit_not w64 (1 * 2 ^ at % 2 ^ 64))))) s
    ≡ (is_in (places_of (has_bit bitboard)) s && not (same_square s (square_at at)))
clear_bit bitboard at s within = elim (on_board_or_not s) [
  | inl here ↦ is_in-clear_bit bitboard at s within here
  | inr off ↦ off_set _ s off
      ∙ sym (ap (λ b. b && not (same_square s (square_at at))) (off_set _ s off))
]

-- ---- one less than a bitboard

-- the lowest bit is gone, and all above it are as they were
one_less : (at bitboard : ℕ) → bit_at bitboard at ≡ 1 → ((j : ℕ) → j < at → bit_at bitboard j ≡ 0)
    → (bit_at (bitboard - 1) at ≡ 0)
    × ((i : ℕ) → at < i → bit_at (bitboard - 1) i ≡ bit_at bitboard i)
one_less zero bitboard bit below =
    let odd = sym (bit_at_lowest bitboard) ∙ bit in (
      bit_at_lowest (bitboard - 1) ∙ omega arith,
      (λ i above.
          let more : i ≡ suc (i - 1) = omega arith in
          let half : (bitboard - 1) / 2 ≡ bitboard / 2 = omega arith in
          ap (bit_at (bitboard - 1)) more ∙ bit_at-suc (bitboard - 1) (i - 1)
          ∙ ap (λ n. bit_at n (i - 1)) half
          ∙ sym (ap (bit_at bitboard) more ∙ bit_at-suc bitboard (i - 1))),
    )
one_less (suc at) bitboard bit below =
    let even = sym (bit_at_lowest bitboard) ∙ below 0 (omega arith) in
    let half : (bitboard - 1) / 2 ≡ bitboard / 2 - 1 = omega arith in
    let rest =
    one_less at (bitboard / 2) (sym (bit_at-suc bitboard at)
    ∙ bit) (λ j less. sym (bit_at-suc bitboard j)
    ∙ below (suc j) (omega arith)) in (
      bit_at-suc (bitboard - 1) at ∙ ap (λ n. bit_at n at) half ∙ rest.0,
      (λ i above.
          let more : i ≡ suc (i - 1) = omega arith in
          ap (bit_at (bitboard - 1)) more ∙ bit_at-suc (bitboard - 1) (i - 1)
          ∙ ap (λ n. bit_at n (i - 1)) half ∙ rest.1 (i - 1) (omega arith)
          ∙ sym (ap (bit_at bitboard) more ∙ bit_at-suc bitboard (i - 1))),
    )

pub without_lowest : (bitboard at : ℕ) → at < 64 → bitboard < 2 ^ 64 → bit_at bitboard at ≡ 1
    → ((j : ℕ) → j < at → bit_at bitboard j ≡ 0)
    → bit_and bitboard (bitboard - 1) ≡ bit_and bitboard (bit_not w64 (1 * 2 ^ at % 2 ^ 64))
without_lowest bitboard at within fits bit below =
    let rest = bit_not w64 (1 * 2 ^ at % 2 ^ 64) in
    let low = and_le_l bitboard (bitboard - 1) in
    let low_too = and_le_l bitboard rest in
    let less = one_less at bitboard bit below in
    same_from_bits_below 64 (bit_and bitboard (bitboard - 1)) (bit_and bitboard rest) (omega arith)
    (omega arith) (λ i near.
    let both = bit_at_and bitboard (bitboard - 1) i in elim (cases_eq i at) [
      | inl same ↦
          let gone = ap (bit_at (bitboard - 1)) same ∙ less.0 in
          let cleared = ap (bit_at (bit_and bitboard rest)) same
          ∙ bit_at_clear_same w64 bitboard at within
          in omega arith
      | inr other ↦
          let kept = bit_at_clear_other w64 bitboard at within i near other in
          elim (cases_lt i at) [
            | inl under ↦ let none = below i under in omega arith
            | inr not_under ↦ let same = less.1 i (omega arith) in omega arith
          ]
    ])
