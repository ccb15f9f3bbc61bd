-- A man that goes to an empty square by his own bitboard alone: he is then carried as if the
-- squares were cleared and he set on one of them.
use Rattle.std.proofs.lemmas.Nat.Bits.{bit_at_xor}
use Rattle.chess.proofs.Common.{◌≡◌, ◌<◌, ◌+◌, ◌%◌, ◌^◌, ◌&&◌, ◌||◌, bit_or, bit_and, bit_xor}
use Rattle.chess.proofs.Common.{length, slice_set, nat_eq, ℕ, Bool, true, false, not, if◌then◌else◌}
use Rattle.chess.proofs.Common.{inl, inr, ap, refl, sym, ◌∙◌, arith, List, Some, bit_at, cases_eq}
use Rattle.chess.proofs.Common.{eqb-true, eq-eqb, ne_eqb, true≢false, or_left, or_right, bit_at-lt}
use Rattle.chess.proofs.Common.{get_or-set_same, get_or-set_other, length-map, Place, IsOnBoard}
use Rattle.chess.proofs.Common.{index_of, Placement, man_at, IsEmpty, has_bit, index_of-below}
use Rattle.chess.proofs.Common.{false_of, IsBitboardOf, AreApart, IsSlid, words_men, bitboard_at}
use Rattle.chess.proofs.Common.{row_of, square_bitboard, Man}
use Rattle.chess.proofs.PlaceFacts.{some_not_none}
use Rattle.chess.proofs.board.FillFacts.{bit_of_either, has_own_bit}
use Rattle.chess.proofs.board.AttackFacts.{no_common_square}
use Rattle.chess.proofs.BitFacts.{IsPut, has_man, man_at-words, bitboard_of_man, row_of-below}
use Rattle.chess.proofs.BitFacts.{no_man_or, square_bit}
use Rattle.chess.proofs.board.MovePieceFacts.{without, is_without}

-- ---- two squares of a bitboard are turned over

turned : (a b : ℕ) → a < 2 → b < 2 → nat_eq ((a + b) % 2) 1
    ≡ (if nat_eq b 1 then not (nat_eq a 1) else nat_eq a 1)
turned a b less_a less_b = elim (cases_eq a 0) [
  | inl e ↦ elim (cases_eq b 0) [
    | inl f ↦ rw (e, f) refl
    | inr g ↦ let f : b ≡ 1 = omega arith in rw (e, f) refl
  ]
  | inr g ↦
      let e : a ≡ 1 = omega arith in
      elim (cases_eq b 0) [
        | inl f ↦ rw (e, f) refl
        | inr h ↦ let f : b ≡ 1 = omega arith in rw (e, f) refl
      ]
]

xor_bit : (a b i : ℕ) → has_bit (bit_xor a b) i
    ≡ (if has_bit b i then not (has_bit a i) else has_bit a i)
xor_bit a b i = ap (λ n. nat_eq n 1) (bit_at_xor a b i)
    ∙ turned (bit_at a i) (bit_at b i) (bit_at-lt a i) (bit_at-lt b i)

pub slide_one : (old : List ℕ) (row a b : ℕ) → length old ≡ 12 → row < 12
    → IsSlid old
    (slice_set old row (bit_xor (bitboard_at old row) (bit_or (2 ^ a) (2 ^ b)))) row a b
slide_one old row a b size in_row k i less on =
    let bitboard = bit_xor (bitboard_at old row) (bit_or (2 ^ a) (2 ^ b)) in
    let here = nat_eq i a || nat_eq i b in
    let was = has_bit (bitboard_at old k) i in elim (cases_eq k row) [
      | inl same ↦
          ap (λ j. has_bit (bitboard_at (slice_set old row bitboard) j) i) same
          ∙ ap (λ w. has_bit w i) (get_or-set_same old row bitboard 0 (omega arith))
          ∙ xor_bit (bitboard_at old row) (bit_or (2 ^ a) (2 ^ b)) i
          ∙ ap (λ t. if t then not (has_bit (bitboard_at old row) i)
          else has_bit (bitboard_at old row) i)
          (bit_of_either (2 ^ a) (2 ^ b) i ∙ (λ j. square_bit a i j || square_bit b i j))
          ∙ ap (λ j. if here then not (has_bit (bitboard_at old j) i)
          else has_bit (bitboard_at old j) i) (sym same)
          ∙ sym (ap (λ t. if t && here then not was else was) (eq-eqb k row same))
      | inr other ↦
          ap (λ w. has_bit w i) (get_or-set_other old row k bitboard 0 other)
          ∙ sym (ap (λ t. if t && here then not was else was) (ne_eqb k row other))
    ]

-- ---- a man of the words on the one square, and none on the others

slid_bit : (was own f t g : Bool) → (t ≡ true → was ≡ false) → (g ≡ true → was ≡ false)
    → (f ≡ true → was ≡ own)
    → (if own && (f || t) then not was else was) ≡ (if t then own else ((was && not g) && not f))
slid_bit true own f true g ht hg hf = absurd (true≢false (ht refl))
slid_bit false true true true g ht hg hf = refl
slid_bit false true false true g ht hg hf = refl
slid_bit false false f true g ht hg hf = refl
slid_bit true true true false true ht hg hf = refl
slid_bit true true true false false ht hg hf = refl
slid_bit true false true false g ht hg hf = absurd (true≢false (hf refl))
slid_bit false true true false g ht hg hf = absurd (true≢false (sym (hf refl)))
slid_bit false false true false g ht hg hf = refl
slid_bit true own false false true ht hg hf = absurd (true≢false (hg refl))
slid_bit true true false false false ht hg hf = refl
slid_bit true false false false false ht hg hf = refl
slid_bit false true false false g ht hg hf = refl
slid_bit false false false false g ht hg hf = refl

no_row : (words : List ℕ) (s : Place) → IsOnBoard s → AreApart words → IsEmpty (words_men words) s
    → (k : ℕ) → k < 12
    → has_bit (bitboard_at words k) (index_of s) ≡ false
no_row words s on apart empty k less = false_of _ (λ e.
    some_not_none (man_at (words_men words) s) _ empty
    (man_at-words words s on
    ∙ has_man words 12 k (index_of s) apart (omega arith) less (index_of-below s on) e))

own_row : (words : List ℕ) (man : Man) (s : Place) → IsOnBoard s → AreApart words
    → man_at (words_men words) s ≡ Some man → (k : ℕ) → k < 12
    → has_bit (bitboard_at words k) (index_of s) ≡ nat_eq k (row_of man)
own_row words man s on apart here k less =
    let own = (bitboard_of_man words man apart s on).1 here in elim (cases_eq k (row_of man)) [
      | inl same ↦ ap (λ j. has_bit (bitboard_at words j) (index_of s)) same ∙ own
          ∙ sym (eq-eqb k (row_of man) same)
      | inr other ↦
          false_of _ (λ e.
          other (apart k (row_of man) (index_of s) less (row_of-below man) (index_of-below s on)
          e own))
          ∙ sym (ne_eqb k (row_of man) other)
    ]

pub slid_put : (old new : List ℕ) (man : Man) (from taken to : Place) → length old ≡ 12
    → IsOnBoard from → IsOnBoard taken → IsOnBoard to
    → AreApart old → man_at (words_men old) from ≡ Some man → IsEmpty (words_men old) taken
    → IsEmpty (words_men old) to
    → IsSlid old new (row_of man) (index_of from) (index_of to)
    → IsPut (without (without old taken) from) new (index_of to) (Some man)
slid_put old new man from taken to size on_from on_taken on_to apart here none free slid k i less
    on =
    let was = has_bit (bitboard_at old k) i in
    let own = nat_eq k (row_of man) in
    let f = nat_eq i (index_of from) in
    let t = nat_eq i (index_of to) in
    let g = nat_eq i (index_of taken) in
    let rest : has_bit (bitboard_at (without (without old taken) from) k) i
    ≡ ((was && not g) && not f) =
    is_without (without old taken) from (length-map old _ ∙ size) on_from k i less on
    ∙ ap (λ b. b && not (has_bit (square_bitboard from) i))
    (is_without old taken size on_taken k i less on)
    ∙ ap (λ b. (was && not (has_bit (square_bitboard taken) i))
    && not b) (square_bit (index_of from) i)
    ∙ ap (λ b. (was && not b) && not f) (square_bit (index_of taken) i) in
    let at : (s : Place) → nat_eq i (index_of s) ≡ true
    → was ≡ has_bit (bitboard_at old k) (index_of s) =
    λ s e. ap (λ j. has_bit (bitboard_at old k) j) (eqb-true i (index_of s) e) in
    slid k i less on
    ∙ slid_bit was own f t g (λ e. at to e ∙ no_row old to on_to apart free k less) (λ e. at taken e
    ∙ no_row old taken on_taken apart none k less)
    (λ e. at from e ∙ own_row old man from on_from apart here k less)
    ∙ sym (ap (λ b. if t then own else b) rest)

-- ---- squares that no man stands on

has_own : (s : Place) (bitboard : ℕ) → bitboard ≡ square_bitboard s
    → has_bit bitboard (index_of s) ≡ true
has_own s bitboard is = ap (λ w. has_bit w (index_of s)) is ∙ has_own_bit s

empty_of : (p : Placement) (all mask : ℕ) (s : Place) → IsOnBoard s
    → IsBitboardOf (λ s. ¬ IsEmpty p s) all → bit_and all mask ≡ 0
    → has_bit mask (index_of s) ≡ true → IsEmpty p s
empty_of p all mask s on men none bit = elim (no_man_or (man_at p s)) [
  | inl empty ↦ empty
  | inr some ↦ absurd (no_common_square all mask none (s, on, (men s on).1 some, bit))
]

pub first_empty : (p : Placement) (all a b : ℕ) (s : Place) → IsOnBoard s
    → IsBitboardOf (λ s. ¬ IsEmpty p s) all → bit_and all (bit_or a b) ≡ 0
    → a ≡ square_bitboard s → IsEmpty p s
first_empty p all a b s on men none is =
    empty_of p all (bit_or a b) s on men none (bit_of_either a b (index_of s)
    ∙ or_left _ (has_bit b (index_of s)) (has_own s a is))

pub second_empty : (p : Placement) (all a b : ℕ) (s : Place) → IsOnBoard s
    → IsBitboardOf (λ s. ¬ IsEmpty p s) all → bit_and all (bit_or a b) ≡ 0
    → b ≡ square_bitboard s → IsEmpty p s
second_empty p all a b s on men none is =
    empty_of p all (bit_or a b) s on men none (bit_of_either a b (index_of s)
    ∙ or_right (has_bit a (index_of s)) _ (has_own s b is))
