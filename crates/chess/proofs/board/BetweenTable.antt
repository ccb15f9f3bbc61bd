-- The squares between two squares are those that the table has: by computing.
use Rattle.chess.proofs.Common.{◌≡◌, ◌⊎◌, ◌+◌, ◌-◌, ◌^◌, ◌%◌, ◌/◌, ◌<◌, ◌≤◌, ◌||◌, not, ℕ, zero}
use Rattle.chess.proofs.Common.{suc, Bool, true, false, nat_eq, bit_or, [], get_or, refl, inl, inr}
use Rattle.chess.proofs.Common.{sym, ap, ◌∙◌, subst, arith, bit_at, agree_below, agree_below_at}
use Rattle.chess.proofs.Common.{cases_eq, eqb-true, eq-eqb, or_cases, false≢true, bit_at_or}
use Rattle.chess.proofs.Common.{bit_at-lt, bit_at-pow_same, bit_at-pow_other, bit_at-zero, Place}
use Rattle.chess.proofs.Common.{IsOnBoard, IsAhead, square_at, index_of, square_at-index_of}
use Rattle.chess.proofs.Common.{index_of-below, has_bit, IsBitboardOf, StandsBetween, Direction}
use Rattle.chess.proofs.Common.{North}
use Rattle.chess.specs.declared.board.attack_tables.between_table.TheConstants.{BETWEEN}
use Rattle.chess.proofs.AxisSteps.{has_room, ahead_at, room_from, room_at, between_ahead}
use Rattle.chess.proofs.AxisSteps.{ahead_index, seven_steps}
use Rattle.chess.proofs.board.PseudoAttackFacts.{any_line, straight, diagonal}

-- the bitboard that the table has of two squares
abbrev pub between_bitboard : ℕ → ℕ → ℕ
between_bitboard a b = get_or (get_or BETWEEN a []) b 0

-- the bitboard of the squares from 1 to k steps ahead of the nth
unfoldable pub steps_bitboard : Direction → ℕ → ℕ → ℕ
steps_bitboard way n zero = 0
steps_bitboard way n (suc k) = bit_or (steps_bitboard way n k) (2 ^ ahead_at way n (k + 1))

abbrev pub fits_way : Direction → ℕ → ℕ → Bool
fits_way way n k = not (has_room way (n % 8) (n / 8) (k + 1))
    || nat_eq (between_bitboard n (ahead_at way n (k + 1))) (steps_bitboard way n k)

abbrev pub fits_ways : Direction → Bool
fits_ways way = agree_below (λ n. agree_below (fits_way way n) (λ _. true) 7) (λ _. true) 64

pub ways_fit : (way : Direction) → fits_ways way ≡ true
unfolding steps_bitboard
ways_fit North = refl
ways_fit way = refl

-- and there are none where no line joins the two
abbrev pub fits_apart : ℕ → ℕ → Bool
fits_apart a b = (straight (square_at a) (square_at b) || diagonal (square_at a) (square_at b))
    || nat_eq (between_bitboard a b) 0

pub apart_fit : agree_below (λ a. agree_below (fits_apart a) (λ _. true) 64) (λ _. true) 64 ≡ true
apart_fit = refl

-- ---- from the computed words to squares

-- what has the place of a square ahead is that square
index_ahead : (way : Direction) (j k : ℕ) (s t u : Place) → IsOnBoard s → IsOnBoard t → IsOnBoard u
    → IsAhead way k s t → j < k
    → index_of u ≡ ahead_at way (index_of s) j → IsAhead way j s u
index_ahead way j k s t u p q r a less e =
    let there = between_ahead way j k s t (omega arith) p q a in
    let same = e ∙ sym (ahead_index way j s there.0 p there.1 there.2) in
    subst (IsAhead way j s) (sym (square_at-index_of there.0 there.1) ∙ ap square_at (sym same)
    ∙ square_at-index_of u r) there.2

-- a bit of the bitboard of steps is a step
pub step_of_bit : (way : Direction) (n m i : ℕ) → bit_at (steps_bitboard way n m) i ≡ 1
    → (j : ℕ) × (1 ≤ j) × (j ≤ m) × (i ≡ ahead_at way n j)
unfolding steps_bitboard
step_of_bit way n zero i e = let none = bit_at-zero i in absurd (omega arith)
step_of_bit way n (suc m) i e = elim (cases_eq i (ahead_at way n (m + 1))) [
  | inl same ↦ (m + 1, omega arith, omega arith, same)
  | inr other ↦
      let parts = bit_at_or (steps_bitboard way n m) (2 ^ ahead_at way n (m + 1)) i in
      let none = bit_at-pow_other (ahead_at way n (m + 1)) i other in
      let before : bit_at (steps_bitboard way n m) i ≡ 1 = omega arith in
      let found = step_of_bit way n m i before in
      let most = found.2 in
      (found.0, found.1, omega arith, found.3)
]

pub bit_of_step : (way : Direction) (n m i j : ℕ) → 1 ≤ j → j ≤ m → i ≡ ahead_at way n j
    → bit_at (steps_bitboard way n m) i ≡ 1
unfolding steps_bitboard
bit_of_step way n zero i j low high e = absurd (omega arith)
bit_of_step way n (suc m) i j low high e =
    let parts = bit_at_or (steps_bitboard way n m) (2 ^ ahead_at way n (m + 1)) i in
    let old = bit_at-lt (steps_bitboard way n m) i in
    let new = bit_at-lt (2 ^ ahead_at way n (m + 1)) i in
    elim (cases_eq j (m + 1)) [
      | inl last ↦
          let here : bit_at (2 ^ ahead_at way n (m + 1)) i ≡ 1 =
          ap (bit_at (2 ^ ahead_at way n (m + 1))) (e ∙ ap (ahead_at way n) last)
          ∙ bit_at-pow_same (ahead_at way n (m + 1)) in omega arith
      | inr other ↦
          let here = bit_of_step way n m i j low (omega arith) e in omega arith
    ]

or_not : (a b : Bool) → (not a || b) ≡ true → a ≡ true → b ≡ true
or_not true b e f = e
or_not false b e f = absurd (false≢true f)

-- the bitboard between two squares of a line
pub bitboard_ahead : (way : Direction) (m : ℕ) (s t : Place) → IsOnBoard s → IsOnBoard t
    → IsAhead way (m + 1) s t
    → between_bitboard (index_of s) (index_of t) ≡ steps_bitboard way (index_of s) m
bitboard_ahead way m s t p q a =
    let n = index_of s in
    let near = seven_steps way (m + 1) s t p q a in
    let row =
    agree_below_at (λ n. agree_below (fits_way way n) (λ _. true) 7) (λ _.
    true) 64 n (ways_fit way) (index_of-below s p) in
    let cell = agree_below_at (fits_way way n) (λ _. true) 7 m row (omega arith) in
    let room = room_at way (m + 1) s p ∙ room_from way (m + 1) s t p q a in
    ap (between_bitboard n) (ahead_index way (m + 1) s t p q a)
    ∙ eqb-true (between_bitboard n (ahead_at way n (m + 1))) (steps_bitboard way n m)
    (or_not (has_room way (n % 8) (n / 8) (m + 1)) _ cell room)

pub bitboard_apart : (s t : Place) → IsOnBoard s → IsOnBoard t
    → ((straight s t || diagonal s t) ≡ true) ⊎ (between_bitboard (index_of s) (index_of t) ≡ 0)
bitboard_apart s t p q =
    let a = index_of s in let b = index_of t in
    let row =
    agree_below_at (λ a. agree_below (fits_apart a) (λ _. true) 64) (λ _.
    true) 64 a apart_fit (index_of-below s p) in
    let cell = agree_below_at (fits_apart a) (λ _. true) 64 b row (index_of-below t q) in
    elim (or_cases _ (nat_eq (between_bitboard a b) 0) cell) [
      | inl line ↦ inl (sym (λ i. straight (square_at-index_of s p i) (square_at-index_of t q i)
          || diagonal (square_at-index_of s p i) (square_at-index_of t q i)) ∙ line)
      | inr none ↦ inr (eqb-true (between_bitboard a b) 0 none)
    ]

from_between : (s t u : Place) → IsOnBoard s → IsOnBoard t → IsOnBoard u → StandsBetween s t u
    → has_bit (between_bitboard (index_of s) (index_of t)) (index_of u) ≡ true
from_between s t u p q r f =
    let way = f.0 in let k = f.1 in let j = f.2 in
    let low = f.5 in let less = f.6 in
    let one : k ≡ (k - 1) + 1 = omega arith in
    let bitboard = bitboard_ahead way (k - 1) s t p q (subst (λ n. IsAhead way n s t) one f.3) in
    ap (λ w. has_bit w (index_of u)) bitboard
    ∙ eq-eqb (bit_at (steps_bitboard way (index_of s) (k - 1)) (index_of u)) 1
    (bit_of_step way (index_of s) (k
    - 1) (index_of u) j low (omega arith) (ahead_index way j s u p r f.4))

to_between : (s t u : Place) → IsOnBoard s → IsOnBoard t → IsOnBoard u
    → has_bit (between_bitboard (index_of s) (index_of t)) (index_of u) ≡ true → StandsBetween s t u
to_between s t u p q r e = elim (bitboard_apart s t p q) [
  | inr none ↦
      let bit = eqb-true (bit_at (between_bitboard (index_of s) (index_of t)) (index_of u)) 1 e in
      let same : bit_at (between_bitboard (index_of s) (index_of t)) (index_of u) ≡ 0 =
      ap (λ w. bit_at w (index_of u)) none ∙ bit_at-zero (index_of u) in
      absurd (omega arith)
  | inl line ↦
      let found = any_line s t line in
      let way = found.0 in let k = found.1.0 in let far = found.1.1 in let a = found.1.2 in
      let one : k ≡ (k - 1) + 1 = omega arith in
      let bitboard = bitboard_ahead way (k - 1) s t p q (subst (λ n. IsAhead way n s t) one a) in
      let bit =
      eqb-true (bit_at (steps_bitboard way (index_of s) (k - 1)) (index_of u)) 1
      (sym (ap (λ w. has_bit w (index_of u)) bitboard) ∙ e) in
      let step = step_of_bit way (index_of s) (k - 1) (index_of u) bit in
      let most = step.2 in let low = step.1 in
      let less : step.0 < k = omega arith in
      (way, k, step.0, a, index_ahead way step.0 k s t u p q r a less step.3, low, less)
]

pub between_is : (s t : Place) → IsOnBoard s → IsOnBoard t
    → IsBitboardOf (StandsBetween s t) (between_bitboard (index_of s) (index_of t))
between_is s t p q u r = (to_between s t u p q r, from_between s t u p q r)
