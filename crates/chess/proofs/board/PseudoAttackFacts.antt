-- What men see on the empty board: tests and the Laws' words.
use Rattle.std.proofs.Common.{◌==◌}
use Rattle.std.proofs.lemmas.Bool.{cases_order}
use Rattle.chess.proofs.Common.{◌≡◌, ◌⊎◌, ◌↔◌, ◌+◌, ◌-◌, ◌<◌, ◌≤◌, ◌&&◌, ◌||◌, not, ℕ, Bool, true}
use Rattle.chess.proofs.Common.{inl, inr, arith, or_cases, or_left, or_right, nat_tests, Place}
use Rattle.chess.proofs.Common.{IsStraight, IsAhead, IsInLine, IsPseudoAttack, Direction, North}
use Rattle.chess.proofs.Common.{South, East, West, NorthEast, NorthWest, SouthEast, SouthWest, Side}
use Rattle.chess.proofs.Common.{Kind, King, Queen, Rook, Bishop, Knight, Pawn}
use Rattle.chess.proofs.AxisSteps.{Axis, Up, Level, Down, file_step, rank_step, IsAheadBy, to_axes}
use Rattle.chess.proofs.AxisSteps.{IsMoving, steps_of, straight_or_not, axis_level, axis_apart}
use Rattle.chess.proofs.board.LeaperFacts.{is_near, is_jump, is_pawn_attack, near_is, jump_is}
use Rattle.chess.proofs.board.LeaperFacts.{pawn_is}

-- ---- tests of two squares
abbrev pub on_file : Place → Place → Bool
on_file s t = s.file == t.file && not (s.rank == t.rank)

abbrev pub on_rank : Place → Place → Bool
on_rank s t = s.rank == t.rank && not (s.file == t.file)

abbrev pub rising : Place → Place → Bool
rising s t = s.file + t.rank == t.file + s.rank && not (s.file == t.file)

abbrev pub falling : Place → Place → Bool
falling s t = s.file + s.rank == t.file + t.rank && not (s.file == t.file)

abbrev pub straight : Place → Place → Bool
straight s t = on_file s t || on_rank s t

abbrev pub diagonal : Place → Place → Bool
diagonal s t = rising s t || falling s t

abbrev pub sees : Side → Kind → Place → Place → Bool
sees side King s t = is_near s t
sees side Queen s t = straight s t || diagonal s t
sees side Rook s t = straight s t
sees side Bishop s t = diagonal s t
sees side Knight s t = is_jump s t
sees side Pawn s t = is_pawn_attack side s t

-- ---- what they say

line_numbers : (a b x y : ℕ) → ((a == b && not (x == y)) ≡ true) ↔ ((a ≡ b) × (x ≡ y → ⊥))
line_numbers a b x y = ((λ e. grind (arith, nat_tests)), (λ f. grind (arith, nat_tests)))

up_or_down : (a b : ℕ) → (a ≡ b → ⊥) → (a < b) ⊎ (b < a)
up_or_down a b apart = elim (cases_order a b) [ inl tie ↦ absurd (apart tie) | inr which ↦ which ]

-- lines
pub straight_line : (s t : Place) → straight s t ≡ true
    → (way : Direction) × IsStraight way × IsInLine way s t
straight_line s t e = elim (or_cases (on_file s t) (on_rank s t) e) [
  | inl file ↦
      let at = (line_numbers s.file t.file s.rank t.rank).0 file in let same = at.0 in
      elim (up_or_down s.rank t.rank at.1) [
        | inl up ↦ (North, tt, (t.rank - s.rank, omega arith, (omega arith, omega arith)))
        | inr down ↦ (South, tt, (s.rank - t.rank, omega arith, (omega arith, omega arith)))
      ]
  | inr rank ↦
      let at = (line_numbers s.rank t.rank s.file t.file).0 rank in let same = at.0 in
      elim (up_or_down s.file t.file at.1) [
        | inl up ↦ (East, tt, (t.file - s.file, omega arith, (omega arith, omega arith)))
        | inr down ↦ (West, tt, (s.file - t.file, omega arith, (omega arith, omega arith)))
      ]
]

pub diagonal_line : (s t : Place) → diagonal s t ≡ true
    → (way : Direction) × (¬ IsStraight way) × IsInLine way s t
diagonal_line s t e = elim (or_cases (rising s t) (falling s t) e) [
  | inl rise ↦
      let at = (line_numbers (s.file + t.rank) (t.file + s.rank) s.file t.file).0 rise in let same =
      at.0 in
      elim (up_or_down s.file t.file at.1) [
        | inl up ↦ (NorthEast, (λ i. i), (t.file - s.file, omega arith, (omega arith, omega arith)))
        | inr down ↦ (
          SouthWest,
          (λ i. i),
          (s.file - t.file, omega arith, (omega arith, omega arith)),
        )
      ]
  | inr fall ↦
      let at = (line_numbers (s.file + s.rank) (t.file + t.rank) s.file t.file).0 fall in let same =
      at.0 in
      elim (up_or_down s.file t.file at.1) [
        | inl up ↦ (SouthEast, (λ i. i), (t.file - s.file, omega arith, (omega arith, omega arith)))
        | inr down ↦ (
          NorthWest,
          (λ i. i),
          (s.file - t.file, omega arith, (omega arith, omega arith)),
        )
      ]
]

on_line : (a b x y : ℕ) → a ≡ b → (x ≡ y → ⊥) → (a == b && not (x == y)) ≡ true
on_line a b x y e f = (line_numbers a b x y).1 (e, f)

pub straight_from : (way : Direction) → IsStraight way → (k : ℕ) (s t : Place) → 1 ≤ k
    → IsAhead way k s t → straight s t ≡ true
straight_from way i k s t far a =
    let x = file_step way in let y = rank_step way in let by = to_axes way k s t a in
    elim (steps_of way) [
      | inl is ↦ elim is.1 [
        | inl file ↦
            or_left (on_file s t) (on_rank s t)
            (on_line s.file t.file s.rank t.rank (axis_level x k s.file t.file file.0 by.0)
            (axis_apart y k s.rank t.rank file.1 far by.1))
        | inr rank ↦
            or_right (on_file s t) (on_rank s t)
            (on_line s.rank t.rank s.file t.file (axis_level y k s.rank t.rank rank.1 by.1)
            (axis_apart x k s.file t.file rank.0 far by.0))
      ]
      | inr not_so ↦ absurd (not_so.0 i)
    ]

rises : (s t : Place) → s.file + t.rank ≡ t.file + s.rank → (s.file ≡ t.file → ⊥)
    → diagonal s t ≡ true
rises s t e apart =
    or_left (rising s t) (falling s t)
    (on_line (s.file + t.rank) (t.file + s.rank) s.file t.file e apart)

falls : (s t : Place) → s.file + s.rank ≡ t.file + t.rank → (s.file ≡ t.file → ⊥)
    → diagonal s t ≡ true
falls s t e apart =
    or_right (rising s t) (falling s t)
    (on_line (s.file + s.rank) (t.file + t.rank) s.file t.file e apart)

slanted : (x y : Axis) → IsMoving x → IsMoving y → (k : ℕ) (s t : Place) → 1 ≤ k
    → IsAheadBy x y k s t → diagonal s t ≡ true
slanted Level y m n k s t far by = absurd m
slanted x Level m n k s t far by = absurd n
slanted Up Up m n k s t far by = rises s t (omega (arith, by.0, by.1)) (λ e. omega (arith, by.0))
slanted Down Down m n k s t far by =
    rises s t (omega (arith, by.0, by.1)) (λ e. omega (arith, by.0))
slanted x y m n k s t far by = falls s t (omega (arith, by.0, by.1)) (λ e. omega (arith, by.0))

pub diagonal_from : (way : Direction) → (¬ IsStraight way) → (k : ℕ) (s t : Place) → 1 ≤ k
    → IsAhead way k s t → diagonal s t ≡ true
diagonal_from way i k s t far a = elim (steps_of way) [
  | inl is ↦ absurd (i is.0)
  | inr moves ↦ slanted (file_step way) (rank_step way) moves.1 moves.2 k s t far
      (to_axes way k s t a)
]

pub any_line : (s t : Place) → (straight s t || diagonal s t) ≡ true
    → (way : Direction) × IsInLine way s t
any_line s t e = elim (or_cases (straight s t) (diagonal s t) e) [
  | inl is ↦ let found = straight_line s t is in (found.0, found.2)
  | inr is ↦ let found = diagonal_line s t is in (found.0, found.2)
]

pub line_from : (way : Direction) (k : ℕ) (s t : Place) → 1 ≤ k → IsAhead way k s t
    → (straight s t || diagonal s t) ≡ true
line_from way k s t far a = elim (straight_or_not way) [
  | inl is ↦ or_left (straight s t) (diagonal s t) (straight_from way is k s t far a)
  | inr not_so ↦ or_right (straight s t) (diagonal s t) (diagonal_from way not_so k s t far a)
]

pub sees_is : (side : Side) (kind : Kind) (s t : Place)
    → (sees side kind s t ≡ true) ↔ IsPseudoAttack side kind s t
sees_is side King s t = near_is s t
sees_is side Queen s t = (any_line s t, (λ f. line_from f.0 f.1.0 s t f.1.1 f.1.2))
sees_is side Rook s t = (straight_line s t, (λ f. straight_from f.0 f.1 f.2.0 s t f.2.1 f.2.2))
sees_is side Bishop s t = (diagonal_line s t, (λ f. diagonal_from f.0 f.1 f.2.0 s t f.2.1 f.2.2))
sees_is side Knight s t = jump_is s t
sees_is side Pawn s t = pawn_is side s t
