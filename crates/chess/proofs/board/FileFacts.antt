-- Words of all squares, of the squares of a file or a rank, and of those that two sets have.
use Rattle.chess.proofs.Common.{◌≡◌, ◌⊎◌, ◌<◌, ◌≤◌, ◌-◌, ◌*◌, ◌^◌, ◌/◌, ◌%◌, ℕ, true, nat_eq}
use Rattle.chess.proofs.Common.{bit_and, inl, inr, refl, sym, ◌∙◌, arith, agree_below}
use Rattle.chess.proofs.Common.{agree_below_at, and_parts, and_from, eqb-true, eq-eqb, Place}
use Rattle.chess.proofs.Common.{IsOnBoard, index_of, Places, is_in, HoldsExactly, has_bit}
use Rattle.chess.proofs.Common.{index_of-below}
use Rattle.chess.proofs.PlaceFacts.{true_not_false}
use Rattle.chess.proofs.board.FillFacts.{bit_of_both, no_bit}
use Rattle.chess.proofs.AxisSteps.{IsFileOrRank, file_within, rank_within, file_of, rank_of}

each_bit : agree_below (has_bit 18446744073709551615) (λ _. true) 64 ≡ true
each_bit = refl

pub all_bits : (s : Place) → IsOnBoard s → has_bit 18446744073709551615 (index_of s) ≡ true
all_bits s on =
    agree_below_at (has_bit 18446744073709551615) (λ _.
    true) 64 (index_of s) each_bit (index_of-below s on)

pub all_squares : (set : Places)
    → HoldsExactly (λ s. has_bit 18446744073709551615 (index_of s) ≡ true) set
    → HoldsExactly (λ s. IsOnBoard s) set
all_squares set found s = (
  (λ h. let on = ((found s).0 h).0 in (on, on)),
  (λ h. (found s).1 (h.0, all_bits s h.0)),
)

-- ---- the squares of a file or a rank, as the two are counted by place

line_squares : (line : Place → ℕ) (part bitboard : ℕ → ℕ)
    → agree_below (λ n.
    agree_below (has_bit (bitboard n)) (λ i. nat_eq (part i) n) 64) (λ _. true) 8
    ≡ true
    → ((s : Place) → IsOnBoard s → (1 ≤ line s) × (part (index_of s) ≡ line s - 1))
    → (n : ℕ) (set : Places) → 1 ≤ n → n ≤ 8
    → HoldsExactly (λ s. has_bit (bitboard (n - 1)) (index_of s) ≡ true) set
    → HoldsExactly (λ s. line s ≡ n) set
line_squares line part bitboard fits at n set low high found s = (
  (λ h.
      let on = ((found s).0 h).0 in
      let same = eqb-true (part (index_of s)) (n - 1) (sym (bit on) ∙ ((found s).0 h).1) in
      (on, omega (arith, (at s on).0, (at s on).1))),
  (λ h. (found s).1 (
    h.0,
    bit h.0
        ∙ eq-eqb (part (index_of s)) (n - 1) (omega (arith, (at s h.0).1, h.1)),
  )),
)
  where
    bit : IsOnBoard s → has_bit (bitboard (n - 1)) (index_of s) ≡ nat_eq (part (index_of s)) (n - 1)
    bit on =
        let row =
        agree_below_at (λ n. agree_below (has_bit (bitboard n)) (λ i. nat_eq (part i) n) 64) (λ _.
        true) 8 (n - 1) fits (omega arith) in
        agree_below_at (has_bit (bitboard (n - 1))) (λ i.
        nat_eq (part i) (n - 1)) 64 (index_of s) row (index_of-below s on)

-- a number that is no file or no rank has no squares
no_line : (line : Place → ℕ) → ((s : Place) → IsOnBoard s → IsFileOrRank (line s))
    → (n : ℕ) (set : Places) → (n < 1) ⊎ ((1 ≤ n) × (8 < n))
    → HoldsExactly (λ s. has_bit 0 (index_of s) ≡ true) set → HoldsExactly (λ s. line s ≡ n) set
no_line line lines n set out found s = (
  (λ h. let bit = ((found s).0 h).1 in
      absurd (true_not_false (has_bit 0 (index_of s)) bit (no_bit (index_of s)))),
  (λ h.
      let same = h.1 in let low = (lines s h.0).0 in let high = (lines s h.0).1 in
      absurd (elim out [ inl less ↦ omega arith | inr more ↦ let beyond = more.1 in omega arith ])),
)

abbrev pub file_bitboard : ℕ → ℕ
file_bitboard n = 72340172838076673 * 2 ^ n % 2 ^ 64

pub file_squares : (file : ℕ) (set : Places) → 1 ≤ file → file ≤ 8
    → HoldsExactly (λ s. has_bit (file_bitboard (file - 1)) (index_of s) ≡ true) set
    → HoldsExactly (λ s. s.file ≡ file) set
file_squares =
    line_squares (λ s. s.file) (λ i. i % 8) file_bitboard refl (λ s on. (on.file_low, file_of s on))

pub no_file : (file : ℕ) (set : Places) → (file < 1) ⊎ ((1 ≤ file) × (8 < file))
    → HoldsExactly (λ s. has_bit 0 (index_of s) ≡ true) set → HoldsExactly (λ s. s.file ≡ file) set
no_file = no_line (λ s. s.file) file_within

abbrev pub rank_bitboard : ℕ → ℕ
rank_bitboard n = 255 * 2 ^ (8 * n) % 2 ^ 64

pub rank_squares : (rank : ℕ) (set : Places) → 1 ≤ rank → rank ≤ 8
    → HoldsExactly (λ s. has_bit (rank_bitboard (rank - 1)) (index_of s) ≡ true) set
    → HoldsExactly (λ s. s.rank ≡ rank) set
rank_squares =
    line_squares (λ s. s.rank) (λ i. i / 8) rank_bitboard refl (λ s on. (on.rank_low, rank_of s on))

pub no_rank : (rank : ℕ) (set : Places) → (rank < 1) ⊎ ((1 ≤ rank) × (8 < rank))
    → HoldsExactly (λ s. has_bit 0 (index_of s) ≡ true) set → HoldsExactly (λ s. s.rank ≡ rank) set
no_rank = no_line (λ s. s.rank) rank_within

pub common_squares : (a b : ℕ) (one other set : Places)
    → ((s : Place) → IsOnBoard s → has_bit a (index_of s) ≡ is_in one s)
    → ((s : Place) → IsOnBoard s → has_bit b (index_of s) ≡ is_in other s)
    → HoldsExactly (λ s. has_bit (bit_and a b) (index_of s) ≡ true) set
    → HoldsExactly (λ s. (is_in one s ≡ true) × (is_in other s ≡ true)) set
common_squares a b one other set first second found s =
    let bits = bit_of_both a b (index_of s) in (
      (λ h.
          let parts = (found s).0 h in
          let both = sym bits ∙ parts.1 in (
            parts.0,
            (
              sym (first s parts.0) ∙ (and_parts _ _ both).0,
              sym (second s parts.0) ∙ (and_parts _ _ both).1,
            ),
          )),
      (λ h. (found s).1 (h.0, bits ∙ and_from _ _ (first s h.0 ∙ h.1.0) (second s h.0 ∙ h.1.1))),
    )
