-- How many squares a bitboard shows.
use Rattle.std.proofs.Common.{◌≡◌, ◌<◌, ◌≤◌, ◌+◌, ◌*◌, ◌/◌, ◌%◌, ◌^◌, ℕ, zero, suc, inl, inr, ap}
use Rattle.std.proofs.Common.{◌∙◌, arith, bit_and, count_ones}
use Rattle.std.proofs.lemmas.Nat.{ones_cat, ones_le_self, zero_from_ones, shr-shr}
use Rattle.chess.proofs.Common.{cases_eq, shr_and_one, size_of, places_of, has_bit}
use Rattle.chess.specs.Shared.SetBitboards.{first_places}
use Rattle.chess.specs.Shared.SetFacts.{size-no_places, size-next_bit}

ones_low : (b : ℕ) → b < 2 → count_ones b ≡ b
ones_low b low =
    let few = ones_le_self b in elim (cases_eq b 0) [
      | inl none ↦ omega arith
      | inr some ↦ elim (cases_eq (count_ones b) 0)
          [ inl none ↦ absurd (some (zero_from_ones b none)) | inr one ↦ omega arith ]
    ]

ones_half : (n : ℕ) → count_ones n ≡ count_ones (n / 2) + n % 2
ones_half n =
    let whole : n ≡ n / 2 * 2 ^ 1 + n % 2 = omega arith in
    ap count_ones whole ∙ ones_cat 1 (n / 2) (n % 2) (omega arith)
    ∙ ap (λ m. count_ones (n / 2) + m) (ones_low (n % 2) (omega arith))

-- the bits below the nth are the first squares, and those from it on are left
size_ones : (bitboard n : ℕ) → n ≤ 64 → size_of (first_places (has_bit bitboard) n)
    + count_ones (bitboard / 2 ^ n) ≡ count_ones bitboard
size_ones bitboard zero h =
    let none = size-no_places (has_bit bitboard) in
    let whole : bitboard / 2 ^ 0 ≡ bitboard = omega arith in
    let same : count_ones (bitboard / 2 ^ 0) ≡ count_ones bitboard = ap count_ones whole in
    omega arith
size_ones bitboard (suc n) h =
    let before = size_ones bitboard n (omega arith) in
    let bit = shr_and_one bitboard n in
    let next : size_of (first_places (has_bit bitboard) (suc n))
    ≡ size_of (first_places (has_bit bitboard) n) + bit_and (bitboard / 2 ^ n) 1 =
    ap (λ m. size_of (first_places (has_bit bitboard) m)) (omega arith)
    ∙ size-next_bit bitboard n (omega arith) in
    let half = ones_half (bitboard / 2 ^ n) in
    let left : count_ones (bitboard / 2 ^ n / 2) ≡ count_ones (bitboard / 2 ^ suc n) =
    ap count_ones (shr-shr bitboard n 1 ∙ ap (λ m. bitboard / 2 ^ m) (omega arith)) in
    omega arith

pub ones-size : (bitboard : ℕ) → bitboard < 2 ^ 64
    → count_ones bitboard ≡ size_of (places_of (has_bit bitboard))
ones-size bitboard fits =
    let all = size_ones bitboard 64 (omega arith) in
    let none : bitboard / 2 ^ 64 ≡ 0 = omega arith in
    let no_ones : count_ones (bitboard / 2 ^ 64) ≡ 0 =
    ap count_ones none ∙ ones_low 0 (omega arith) in
    omega arith
