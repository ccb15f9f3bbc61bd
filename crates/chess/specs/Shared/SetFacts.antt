-- Facts about sets of squares and their bitboards.
use Rattle.std.proofs.Common.{◌≡◌, ◌<◌, ◌≤◌, ◌+◌, ◌*◌, ◌^◌, ◌%◌, ◌/◌, ◌||◌, ◌&&◌, bit_and, bit_or}
use Rattle.std.proofs.Common.{w64, ℕ, zero, suc, Bool, true, false, not, inl, inr, ap, refl, sym}
use Rattle.std.proofs.Common.{subst, ◌∙◌, arith, if◌then◌else◌}
use Rattle.std.specs.Prelude.{◌==◌}
use Rattle.std.specs.Ordering.{eq_by_cmp, is_eq}
use Rattle.std.specs.Cmp.{tied_itself, Equal-is}
use Rattle.std.specs.FinSet.{empty, insert, contains-empty, contains-insert, len-empty, len-insert}
use Rattle.std.specs.Int.{bit_at, bit_not, trailing_zeros}
use Rattle.std.proofs.lemmas.Bool.{cases_eq}
use Rattle.std.proofs.lemmas.Nat.Bits.{bit_at-zero, bit_at-lt, shr_and_one, bit_at-trailing_zeros}
use Rattle.std.proofs.lemmas.Nat.Bits.{bit_at_set_same, bit_at_set_other, bit_at_clear_same}
use Rattle.std.proofs.lemmas.Nat.Bits.{bit_at_clear_other}
use Rattle.std.proofs.lemmas.Bool.Decides.{nat_tests}
use Rattle.chess.specs.Public.Squares.{Place, IsOnBoard, place_cmp, square_at, index_of}
use Rattle.chess.specs.Public.Squares.{same_square}
use Rattle.chess.specs.Shared.SquareFacts.{index_of-square_at}
use Rattle.chess.specs.Shared.OrderFacts.{place_total, place_exact}
use Rattle.chess.specs.Public.Sets.{Places, is_in, no_places, size_of, has_bit}
use Rattle.chess.specs.Shared.SetBitboards.{first_places, places_of}

-- a square of the board stands at its place in order
pub square_at-index_of : (s : Place) → IsOnBoard s → square_at (index_of s) ≡ s
square_at-index_of s h =
    let low = h.file_low in let high = h.file_high in let bottom = h.rank_low in let top =
    h.rank_high in
    let file : index_of s % 8 + 1 ≡ s.file = omega arith in
    let rank : index_of s / 8 + 1 ≡ s.rank = omega arith in
    λ i. record { file = file i; rank = rank i }

pub index_of-below : (s : Place) → IsOnBoard s → index_of s < 64
index_of-below s h =
    let low = h.file_low in let high = h.file_high in let bottom = h.rank_low in let top =
    h.rank_high in omega arith

pub on_board-square_at : (n : ℕ) → n < 64 → IsOnBoard (square_at n)
on_board-square_at n h =
    record {
      file_low = omega arith;
      file_high = omega arith;
      rank_low = omega arith;
      rank_high =
          omega arith;
    }

-- the test of squares by their numbers
pub and_false : (b : Bool) → (b && false) ≡ false
and_false true = refl
and_false false = refl

pub and_true : (b : Bool) → (b && true) ≡ b
and_true true = refl
and_true false = refl

numbers_same : (a b c d : ℕ) → a ≡ c → b ≡ d → (a == c && b == d) ≡ true
numbers_same a b c d e f = grind (arith, nat_tests)

numbers_other : (a b c d : ℕ) → (a ≡ c → b ≡ d → ⊥) → (a == c && b == d) ≡ false
numbers_other a b c d h = elim (cases_eq a c) [
  | inl e ↦ elim (cases_eq b d) [ inl f ↦ absurd (h e f) | inr f ↦ grind (arith, nat_tests) ]
  | inr e ↦ grind (arith, nat_tests)
]

pub same_squares : (s t : Place) → IsOnBoard s → IsOnBoard t → index_of s ≡ index_of t
    → same_square s t ≡ true
same_squares s t a b e =
    let at = sym (square_at-index_of s a) ∙ ap square_at e ∙ square_at-index_of t b in
    numbers_same s.file s.rank t.file t.rank (ap (λ (u : Place). u.file) at)
    (ap (λ (u : Place). u.rank) at)

pub other_squares : (s t : Place) → IsOnBoard s → IsOnBoard t → (index_of s ≡ index_of t → ⊥)
    → same_square s t ≡ false
other_squares s t a b h =
    numbers_other s.file s.rank t.file t.rank (λ e f.
    h (λ i. index_of (record { file = e i; rank = f i })))

-- squares that tie are one, and a square ties with itself
pub tied : (s t : Place) (b : Bool) → eq_by_cmp place_cmp s t ≡ b → b ≡ true → s ≡ t
tied s t b e h = place_exact s t ((Equal-is (place_cmp s t)).0 (e ∙ h))

pub ties : (s : Place) → eq_by_cmp place_cmp s s ≡ true
ties s = ap is_eq (tied_itself place_total s)

pub false_of : (b : Bool) → (b ≡ true → ⊥) → b ≡ false
false_of true h = absurd (h refl)
false_of false h = refl

pub apart : (s : Place) (n : ℕ) → n < 64 → (index_of s ≡ n → ⊥)
    → eq_by_cmp place_cmp s (square_at n) ≡ false
apart s n h other =
    false_of _ (λ e. other (ap index_of (tied s (square_at n) _ refl e) ∙ index_of-square_at n h))

pub is_in-empty : (s : Place) → is_in empty s ≡ false
is_in-empty s = contains-empty place_cmp s

is_in-insert : (set : Places) (t s : Place)
    → is_in (insert set t) s ≡ (eq_by_cmp place_cmp s t || is_in set s)
is_in-insert set t s = contains-insert place_total set t s

-- none of the first n squares is one after them, and one of them is in their set as the test says
pub none_beyond : (test : ℕ → Bool) (n : ℕ) → n ≤ 64 → (s : Place) → n ≤ index_of s
    → is_in (first_places test n) s ≡ false
unfolding first_places
none_beyond test zero h s far = is_in-empty s
none_beyond test (suc n) h s far =
    let before = none_beyond test n (omega arith) s (omega arith) in
    elim (test n) as (λ b.
    is_in (if b then insert (first_places test n) (square_at n) else first_places test n) s
    ≡ false) [
      | true ↦ is_in-insert (first_places test n) (square_at n) s
          ∙ ap (λ b. b || is_in (first_places test n) s)
          (apart s n (omega arith) (λ e. omega arith)) ∙ before
      | false ↦ before
    ]

pub in_first : (test : ℕ → Bool) (n : ℕ) → n ≤ 64 → (s : Place) → IsOnBoard s → index_of s < n
    → is_in (first_places test n) s ≡ test (index_of s)
unfolding first_places
in_first test zero h s on_board near = absurd (omega arith)
in_first test (suc n) h s on_board near =
    elim (cases_eq (index_of s) n) [
      | inl same ↦
          let here : square_at n ≡ s = ap square_at (sym same) ∙ square_at-index_of s on_board in
          elim (test n) as (λ b. test n ≡ b
          → is_in (if b then insert (first_places test n) (square_at n)
          else first_places test n) s ≡ b) [
            | true ↦ λ e. is_in-insert (first_places test n) (square_at n) s
                ∙ ap (λ (t : Place). eq_by_cmp place_cmp s t || is_in (first_places test n) s) here
                ∙ ap (λ b. b || is_in (first_places test n) s) (ties s)
            | false ↦ λ e. none_beyond test n (omega arith) s (omega arith)
          ] refl ∙ ap test (sym same)
      | inr other ↦
          let before = in_first test n (omega arith) s on_board (omega arith) in
          elim (test n) as (λ b.
          is_in (if b then insert (first_places test n) (square_at n)
          else first_places test n) s ≡ test (index_of s)) [
            | true ↦ is_in-insert (first_places test n) (square_at n) s
                ∙ ap (λ b. b || is_in (first_places test n) s) (apart s n (omega arith) other)
                ∙ before
            | false ↦ before
          ]
    ]

-- a square of the board is among those that pass the test if it passes
pub is_in-places_of : (test : ℕ → Bool) (s : Place) → IsOnBoard s
    → is_in (places_of test) s ≡ test (index_of s)
is_in-places_of test s on_board =
    in_first test 64 (omega arith) s on_board (index_of-below s on_board)

-- a square among them is one of the board
in_first-on : (test : ℕ → Bool) (n : ℕ) → n ≤ 64 → (s : Place)
    → is_in (first_places test n) s ≡ true → IsOnBoard s
unfolding first_places
in_first-on test zero h s here = let clash : true ≡ false = sym here ∙ is_in-empty s in absurd (cc)
in_first-on test (suc n) h s here =
    elim (test n) as (λ b.
    is_in (if b then insert (first_places test n) (square_at n) else first_places test n) s
    ≡ true → IsOnBoard s) [
      | true ↦ λ e. elim (eq_by_cmp place_cmp s (square_at n)) as (λ b.
          eq_by_cmp place_cmp s (square_at n) ≡ b → IsOnBoard s) [
            | true ↦ λ same. subst IsOnBoard (sym (tied s (square_at n) true same refl))
                (on_board-square_at n (omega arith))
            | false ↦ λ other. in_first-on test n (omega arith) s
                (sym (is_in-insert (first_places test n) (square_at n) s
                ∙ ap (λ b. b || is_in (first_places test n) s) other) ∙ e)
          ] refl
      | false ↦ λ e. in_first-on test n (omega arith) s e
    ] here

pub on_board-places_of : (test : ℕ → Bool) (s : Place) → is_in (places_of test) s ≡ true
    → IsOnBoard s
on_board-places_of test s here = in_first-on test 64 (omega arith) s here

-- ---- bitboards

-- a test of sets that no square passes
pub no_places_of : (test : ℕ → Bool) → ((n : ℕ) → test n ≡ false) → (n : ℕ)
    → first_places test n ≡ empty
unfolding first_places
no_places_of test none zero = refl
no_places_of test none (suc n) =
    ap (λ b. if b then insert (first_places test n) (square_at n) else first_places test n) (none n)
    ∙ no_places_of test none n

pub empty_bitboard : places_of (has_bit 0) ≡ no_places
empty_bitboard = no_places_of (has_bit 0) (λ n. ap (λ b. b == 1) (bit_at-zero n)) 64

-- a bitboard with a bit below 64 shows a square
pub not_empty_bitboard : (bitboard : ℕ) → 0 < bitboard → bitboard < 2 ^ 64
    → places_of (has_bit bitboard) ≡ no_places
    → ⊥
not_empty_bitboard bitboard some fits none =
    let found = bit_at-trailing_zeros w64 bitboard some fits in
    let at = trailing_zeros w64 bitboard in
    let shown : is_in (places_of (has_bit bitboard)) (square_at at)
    ≡ has_bit bitboard (index_of (square_at at)) =
    is_in-places_of (has_bit bitboard) (square_at at) (on_board-square_at at found.0) in
    let here : has_bit bitboard (index_of (square_at at)) ≡ true =
    ap (has_bit bitboard) (index_of-square_at at found.0) ∙ ap (λ b. b == 1) found.1 in
    let yes : true ≡ false = sym here ∙ sym shown ∙ ap (λ set. is_in set (square_at at)) none
    ∙ is_in-empty (square_at at) in
    cc

-- one more bit is one more square
pub is_in-set_bit : (bitboard : ℕ) (t s : Place) → IsOnBoard t → IsOnBoard s
    → is_in (places_of (has_bit (bit_or bitboard (1 * 2 ^ index_of t % 2 ^ 64)))) s
    ≡ (same_square t s || is_in (places_of (has_bit bitboard)) s)
is_in-set_bit bitboard t s on_board_t on_board_s =
    let new = bit_or bitboard (1 * 2 ^ index_of t % 2 ^ 64) in
    let after = is_in-places_of (has_bit new) s on_board_s in
    let before = is_in-places_of (has_bit bitboard) s on_board_s in
    let within = index_of-below t on_board_t in
    elim (cases_eq (index_of s) (index_of t)) [
      | inl same ↦
          after ∙ ap (has_bit new) same
          ∙ ap (λ b. b == 1) (bit_at_set_same w64 bitboard (index_of t) within)
          ∙ sym (ap (λ b. b || is_in (places_of (has_bit bitboard)) s)
          (same_squares t s on_board_t on_board_s (sym same)))
      | inr other ↦
          after ∙ ap (λ b.
          b == 1) (bit_at_set_other w64 bitboard (index_of t) within (index_of s) other)
          ∙ sym before
          ∙ sym (ap (λ b. b || is_in (places_of (has_bit bitboard)) s)
          (other_squares t s on_board_t on_board_s (λ e. other (sym e))))
    ]

-- one bit less is one square less
pub is_in-clear_bit : (bitboard at : ℕ) (s : Place) → at < 64 → IsOnBoard s
    → is_in (places_of (has_bit (bit_and bitboard (bit_not w64 (1 * 2 ^ at % 2 ^ 64))))) s
    ≡ (is_in (places_of (has_bit bitboard)) s && not (same_square s (square_at at)))
is_in-clear_bit bitboard at s within on_board =
    let new = bit_and bitboard (bit_not w64 (1 * 2 ^ at % 2 ^ 64)) in
    let after = is_in-places_of (has_bit new) s on_board in
    let before = is_in-places_of (has_bit bitboard) s on_board in
    let below = index_of-below s on_board in
    let there = on_board-square_at at within in
    let place = index_of-square_at at within in
    elim (cases_eq (index_of s) at) [
      | inl same ↦
          after ∙ ap (has_bit new) same
          ∙ ap (λ b. b == 1) (bit_at_clear_same w64 bitboard at within)
          ∙ sym (ap (λ b. is_in (places_of (has_bit bitboard)) s
          && not b) (same_squares s (square_at at) on_board there (same ∙ sym place))
          ∙ and_false _)
      | inr other ↦
          after ∙ ap (λ b.
          b == 1) (bit_at_clear_other w64 bitboard at within (index_of s) below other)
          ∙ sym before
          ∙ sym (ap (λ b. is_in (places_of (has_bit bitboard)) s
          && not b) (other_squares s (square_at at) on_board there (λ e. other (e ∙ place)))
          ∙ and_true _)
    ]

-- the first squares of a bitboard, counted one by one
pub size-first_places : (test : ℕ → Bool) (n : ℕ) → n < 64
    → size_of (first_places test (suc n))
    ≡ (if test n then size_of (first_places test n) + 1 else size_of (first_places test n))
unfolding first_places
size-first_places test n h =
    elim (test n) as (λ b.
    size_of (if b then insert (first_places test n) (square_at n) else first_places test n)
    ≡ (if b then size_of (first_places test n) + 1 else size_of (first_places test n))) [
      | true ↦ len-insert place_total (first_places test n) (square_at n)
          ∙ ap (λ b. if b then size_of (first_places test n) else size_of (first_places test n) + 1)
          (none_beyond test n (omega arith) (square_at n) (let at = index_of-square_at n h in
          omega arith))
      | false ↦ refl
    ]

pub size-no_places : (test : ℕ → Bool) → size_of (first_places test 0) ≡ 0
unfolding first_places
size-no_places test = len-empty place_cmp

plus_none : (n : ℕ) → n + 0 ≡ n
plus_none n = omega arith

-- a bit of a bitboard counts one more square or none
bit_or_none : (b : ℕ) → b < 2 → (size : ℕ) → (if b == 1 then size + 1 else size) ≡ size + b
bit_or_none b h size = elim (cases_eq b 1) [
  | inl e ↦ ap (λ n. if n == 1 then size + 1 else size) e ∙ ap (λ n. size + n) (sym e)
  | inr e ↦ let zero_bit : b ≡ 0 = omega arith in
      ap (λ n. if n == 1 then size + 1 else size) zero_bit
      ∙ sym (ap (λ n. size + n) zero_bit ∙ plus_none size)
]

pub size-next_bit : (bitboard n : ℕ) → n < 64
    → size_of (first_places (has_bit bitboard) (n + 1))
    ≡ size_of (first_places (has_bit bitboard) n) + bit_and (bitboard / 2 ^ n) 1
size-next_bit bitboard n h =
    let next : n + 1 ≡ suc n = omega arith in
    ap (λ m. size_of (first_places (has_bit bitboard) m)) next
    ∙ size-first_places (has_bit bitboard) n h
    ∙ bit_or_none (bit_at bitboard n) (bit_at-lt bitboard n)
    (size_of (first_places (has_bit bitboard) n))
    ∙ ap (λ b. size_of (first_places (has_bit bitboard) n) + b) (sym (shr_and_one bitboard n))
