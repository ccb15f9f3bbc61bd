-- The squares that kings, knights and pawns attack, as words: computed for each square.
use Rattle.chess.proofs.Common.{◌≡◌, ◌↔◌, ◌⊎◌, ◌≤◌, ◌+◌, ◌^◌, ◌&&◌, ◌||◌, ℕ, Bool, true, ap, refl}
use Rattle.chess.proofs.Common.{sym, ◌∙◌, arith, ltb, ◌==◌, agree_below, agree_below_at, nat_tests}
use Rattle.chess.proofs.Common.{Place, IsOnBoard, square_at, index_of, gap, IsNear, IsJump}
use Rattle.chess.proofs.Common.{IsPawnAttack, has_bit, index_of-below, square_at-index_of}
use Rattle.chess.proofs.Common.{IsBitboardOf, square_bitboard, Side, White, Black}
use Rattle.chess.specs.Private.Bitboards.{near_bitboard, jumps_bitboard, pawn_bitboard}

-- a bitboard of the squares that pass a test, for each square from which men look
abbrev pub fits_bitboard : ℕ → (Place → Bool) → Bool
fits_bitboard bitboard test = agree_below (has_bit bitboard) (λ n. test (square_at n)) 64

abbrev pub fits_words : (ℕ → ℕ) → (Place → Place → Bool) → Bool
fits_words bitboard test =
    agree_below (λ n. fits_bitboard (bitboard (2 ^ n)) (test (square_at n))) (λ _. true) 64

pub bitboard_by_test : (bitboard : ℕ → ℕ) (test : Place → Place → Bool)
    → fits_words bitboard test ≡ true
    → (s t : Place) → IsOnBoard s → IsOnBoard t
    → has_bit (bitboard (square_bitboard s)) (index_of t) ≡ test s t
bitboard_by_test bitboard test fits s t on_s on_t =
    let row =
    agree_below_at (λ n. fits_bitboard (bitboard (2 ^ n)) (test (square_at n))) (λ _.
    true) 64 (index_of s) fits (index_of-below s on_s) in
    let bit =
    agree_below_at (has_bit (bitboard (square_bitboard s))) (λ n.
    test (square_at (index_of s)) (square_at n)) 64 (index_of t) row (index_of-below t on_t) in
    bit ∙ (λ i. test (square_at-index_of s on_s i) (square_at-index_of t on_t i))

-- the tests
unfoldable pub is_near : Place → Place → Bool
is_near s t = ltb (gap s.file t.file) 2
    && (ltb (gap s.rank t.rank) 2 && ltb 0 (gap s.file t.file + gap s.rank t.rank))

unfoldable pub is_jump : Place → Place → Bool
is_jump s t = (gap s.file t.file == 1 && gap s.rank t.rank == 2)
    || (gap s.file t.file == 2 && gap s.rank t.rank == 1)

unfoldable pub is_pawn_attack : Side → Place → Place → Bool
is_pawn_attack White s t = gap s.file t.file == 1 && t.rank == s.rank + 1
is_pawn_attack Black s t = gap s.file t.file == 1 && s.rank == t.rank + 1

near_fits : fits_words near_bitboard is_near ≡ true
unfolding is_near
near_fits = refl

jumps_fit : fits_words jumps_bitboard is_jump ≡ true
unfolding is_jump
jumps_fit = refl

pawns_fit : (side : Side) → fits_words (pawn_bitboard side) (is_pawn_attack side) ≡ true
unfolding is_pawn_attack
pawns_fit White = refl
pawns_fit Black = refl

-- what the tests say, of plain numbers
near_numbers : (f r : ℕ) → (ltb f 2 && (ltb r 2 && ltb 0 (f + r))) ≡ true
    ↔ ((f ≤ 1) × (r ≤ 1) × (1 ≤ f + r))
near_numbers f r = (
  (λ e. (grind (arith, nat_tests), grind (arith, nat_tests), grind (arith, nat_tests))),
  (λ h. grind (arith, nat_tests)),
)

jump_numbers : (f r : ℕ) → (((f == 1 && r == 2) || (f == 2 && r == 1)) ≡ true)
    ↔ (((f ≡ 1) × (r ≡ 2)) ⊎ ((f ≡ 2) × (r ≡ 1)))
jump_numbers f r = ((λ e. grind (arith, nat_tests)), (λ h. grind (arith, nat_tests)))

attack_numbers : (f a b : ℕ) → ((f == 1 && a == b + 1) ≡ true) ↔ ((f ≡ 1) × (a ≡ b + 1))
attack_numbers f a b =
    ((λ e. (grind (arith, nat_tests), grind (arith, nat_tests))), (λ h. grind (arith, nat_tests)))

pub near_is : (s t : Place) → (is_near s t ≡ true) ↔ IsNear s t
unfolding is_near
near_is s t = near_numbers (gap s.file t.file) (gap s.rank t.rank)

pub jump_is : (s t : Place) → (is_jump s t ≡ true) ↔ IsJump s t
unfolding is_jump
jump_is s t = jump_numbers (gap s.file t.file) (gap s.rank t.rank)

pub pawn_is : (side : Side) (s t : Place) → (is_pawn_attack side s t ≡ true) ↔ IsPawnAttack side s t
unfolding is_pawn_attack
pawn_is White s t = attack_numbers (gap s.file t.file) t.rank s.rank
pawn_is Black s t = attack_numbers (gap s.file t.file) s.rank t.rank

-- ---- the words
pub near_of : (s : Place) (here bitboard : ℕ) → IsOnBoard s → here ≡ square_bitboard s
    → bitboard ≡ near_bitboard here → IsBitboardOf (IsNear s) bitboard
near_of s here bitboard on at is t on_t =
    let bit = ap (λ w. has_bit w (index_of t)) (is ∙ ap near_bitboard at)
    ∙ bitboard_by_test near_bitboard is_near near_fits s t on on_t in
    ((λ e. (near_is s t).0 (sym bit ∙ e)), (λ h. bit ∙ (near_is s t).1 h))

pub jumps_of : (s : Place) (here bitboard : ℕ) → IsOnBoard s → here ≡ square_bitboard s
    → bitboard ≡ jumps_bitboard here → IsBitboardOf (IsJump s) bitboard
jumps_of s here bitboard on at is t on_t =
    let bit = ap (λ w. has_bit w (index_of t)) (is ∙ ap jumps_bitboard at)
    ∙ bitboard_by_test jumps_bitboard is_jump jumps_fit s t on on_t in
    ((λ e. (jump_is s t).0 (sym bit ∙ e)), (λ h. bit ∙ (jump_is s t).1 h))

pub pawn_attacks_of : (side : Side) (s : Place) (here bitboard : ℕ) → IsOnBoard s
    → here ≡ square_bitboard s
    → bitboard ≡ pawn_bitboard side here → IsBitboardOf (IsPawnAttack side s) bitboard
pawn_attacks_of side s here bitboard on at is t on_t =
    let bit = ap (λ w. has_bit w (index_of t)) (is ∙ ap (pawn_bitboard side) at)
    ∙ bitboard_by_test (pawn_bitboard side) (is_pawn_attack side) (pawns_fit side) s t on on_t in
    ((λ e. (pawn_is side s t).0 (sym bit ∙ e)), (λ h. bit ∙ (pawn_is side s t).1 h))
