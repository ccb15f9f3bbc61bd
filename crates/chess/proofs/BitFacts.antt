-- Twelve words as a board: the man on a square, a man that is put, and the words of a man and of
-- the empty squares.
use Rattle.std.proofs.lemmas.Nat.Bits.{bit_at-lt, bit_at_not, bit_at-pow_same, bit_at-pow_other}
use Rattle.std.proofs.Math.Bool.{or_comm}
use Rattle.chess.proofs.Common.{◌≡◌, ◌↔◌, ◌⊎◌, ◌<◌, ◌≤◌, ◌+◌, ◌-◌, ◌^◌, bit_or, bit_and, w64}
use Rattle.chess.proofs.Common.{length, slice_set, ◌&&◌, ◌||◌, ℕ, zero, suc, Bool, true, false, not}
use Rattle.chess.proofs.Common.{nat_eq, inl, inr, ap, refl, sym, ◌∙◌, arith, if◌then◌else◌}
use Rattle.chess.proofs.Common.{List, Option, Some, None, agree_below, agree_below_at, cases_eq}
use Rattle.chess.proofs.Common.{eqb-true, eq-eqb, ne_eqb, not-true, or_cases, or_left, or_right}
use Rattle.chess.proofs.Common.{cases_Bool, bit_at, bit_not, replicate, get_or-set_same}
use Rattle.chess.proofs.Common.{get_or-set_other, get_or-replicate, length-set, nat_tests, Place}
use Rattle.chess.proofs.Common.{IsOnBoard, index_of, Placement, no_men, man_at, with_man, IsEmpty}
use Rattle.chess.proofs.Common.{has_bit, index_of-below, false_of, man_at-men_of, men_of-put}
use Rattle.chess.proofs.Common.{men_of-none, IsBitboardOf, AreApart, man_in, words_men, bitboard_at}
use Rattle.chess.proofs.Common.{square_bitboard, row_of, man_of_row, IsCleared, IsBitSet}
use Rattle.chess.proofs.Common.{number_of_side, Man, Side, Kind, White, Black, King}
use Rattle.chess.specs.Public.Placements.{number_of_kind}
use Rattle.chess.specs.Private.Bitboards.{man_below, is_row}
use Rattle.chess.proofs.PlaceFacts.{true_not_false}
use Rattle.chess.proofs.board.FillFacts.{bit_of_either, bit_of_both, no_bit, common_none}
use Rattle.chess.proofs.board.FillFacts.{common_some}

-- ---- the words of men

men_back : (side : Side) (other : Kind)
    → man_of_row (number_of_side side + number_of_kind other) ≡ record { side = side; kind = other }
men_back White King = refl
men_back Black King = refl
men_back _ _ = refl

pub man_of_row-row_of : (man : Man) → man_of_row (row_of man) ≡ man
man_of_row-row_of man = men_back man.side man.kind

row_back : ℕ → Bool
row_back n = nat_eq (row_of (man_of_row n)) n

rows_back : agree_below row_back (λ _. true) 12 ≡ true
unfolding row_back
rows_back = refl

pub row_of-man_of_row : (n : ℕ) → n < 12 → row_of (man_of_row n) ≡ n
unfolding row_back
row_of-man_of_row n h = eqb-true _ _ (agree_below_at row_back (λ _. true) 12 n rows_back h)

kind_below : (other : Kind) → number_of_kind other < 6
kind_below King = omega arith
kind_below _ = omega arith

side_below : (side : Side) → number_of_side side ≤ 6
side_below White = omega arith
side_below Black = omega arith

pub row_of-below : (man : Man) → row_of man < 12
row_of-below man = let a = side_below man.side in let b = kind_below man.kind in omega arith

-- ---- the man on a square

pub has_man : (words : List ℕ) (n k i : ℕ) → AreApart words → n ≤ 12 → k < n → i < 64
    → has_bit (bitboard_at words k) i ≡ true
    → man_below words n i ≡ Some (man_of_row k)
unfolding man_below
has_man words zero k i apart within less on bit = absurd (omega arith)
has_man words (suc n) k i apart within less on bit =
    elim (has_bit (bitboard_at words n) i) as (λ b. has_bit (bitboard_at words n) i ≡ b
    → (if b then Some (man_of_row n) else man_below words n i) ≡ Some (man_of_row k)) [
      | true ↦ λ e. ap (λ m. Some (man_of_row m)) (apart n k i (omega arith) (omega arith) on e bit)
      | false ↦ λ e. elim (cases_eq k n) [
        | inl same ↦ absurd (true_not_false _ (ap (λ m. has_bit (bitboard_at words m) i) (sym same)
            ∙ bit) e)
        | inr other ↦ has_man words n k i apart (omega arith) (omega arith) on bit
      ]
    ] refl

pub no_man : (words : List ℕ) (n i : ℕ)
    → ((k : ℕ) → k < n → has_bit (bitboard_at words k) i ≡ false)
    → man_below words n i ≡ None
unfolding man_below
no_man words zero i none = refl
no_man words (suc n) i none =
    ap (λ b. if b then Some (man_of_row n) else man_below words n i) (none n (omega arith))
    ∙ no_man words n i (λ k less. none k (omega arith))

pub found_man : (words : List ℕ) (n i : ℕ) (man : Man) → man_below words n i ≡ Some man
    → (k : ℕ) × (k < n) × (has_bit (bitboard_at words k) i ≡ true) × (man ≡ man_of_row k)
unfolding man_below
found_man words zero i man e = let f : None ≡ Some man = e in absurd (cc)
found_man words (suc n) i man e =
    elim (has_bit (bitboard_at words n) i) as (λ b. has_bit (bitboard_at words n) i ≡ b
    → (if b then Some (man_of_row n) else man_below words n i) ≡ Some man
    → (k : ℕ) × (k < suc n) × (has_bit (bitboard_at words k) i ≡ true) × (man ≡ man_of_row k)) [
      | true ↦ λ bit f. (n, omega arith, bit, cc)
      | false ↦ λ bit f. let h = found_man words n i man f in let less = h.1 in
          (h.0, omega arith, h.2, h.3)
    ] refl e

pub man_at-words : (words : List ℕ) (s : Place) → IsOnBoard s
    → man_at (words_men words) s ≡ man_in words (index_of s)
man_at-words words s on = man_at-men_of (man_in words) s on

-- a man's bitboard has the squares on which he stands
pub bitboard_of_man : (words : List ℕ) (man : Man) → AreApart words
    → IsBitboardOf (λ s. man_at (words_men words) s ≡ Some man) (bitboard_at words (row_of man))
bitboard_of_man words man apart s on =
    let at = man_at-words words s on in (
      (λ e. at
          ∙ has_man words 12 (row_of man) (index_of s) apart (omega arith) (row_of-below man)
          (index_of-below s on) e ∙ ap Some (man_of_row-row_of man)),
      (λ here.
          let f = found_man words 12 (index_of s) man (sym at ∙ here) in
          rw (ap row_of f.3 ∙ row_of-man_of_row f.0 f.1) f.2),
    )

-- ---- the empty squares

-- the bits of the first n words
abbrev pub IsUnion : List ℕ → ℕ → ℕ → Type 0
IsUnion words n all = (i : ℕ) → (has_bit all i ≡ true)
    ↔ ((k : ℕ) × (k < n) × (has_bit (bitboard_at words k) i ≡ true))

pub union_none : (words : List ℕ) → IsUnion words 0 0
union_none words i = (
  (λ e. absurd (true_not_false _ e (no_bit i))),
  (λ h. let less = h.1 in absurd (omega arith)),
)

pub union_more : (words : List ℕ) (n all : ℕ) → IsUnion words n all
    → IsUnion words (n + 1) (bit_or all (bitboard_at words n))
union_more words n all so_far i =
    let bit = bit_of_either all (bitboard_at words n) i in (
      (λ e. elim (or_cases _ _ (sym bit ∙ e)) [
        | inl old ↦ let h = (so_far i).0 old in let less = h.1 in (h.0, omega arith, h.2)
        | inr new ↦ (n, omega arith, new)
      ]),
      (λ h. let less = h.1 in bit ∙ elim (cases_eq h.0 n) [
        | inl same ↦ or_right _ _ (ap (λ k. has_bit (bitboard_at words k) i) (sym same) ∙ h.2)
        | inr other ↦ or_left _ _ ((so_far i).1 (h.0, omega arith, h.2))
      ]),
    )

not_one : (b : ℕ) → b < 2 → nat_eq (1 - b) 1 ≡ not (nat_eq b 1)
not_one b h = grind (arith, nat_tests)

pub no_man_or : (o : Option Man) → (o ≡ None) ⊎ (o ≡ None → ⊥)
no_man_or None = inl refl
no_man_or (Some man) = inr (λ e. cc)

pub bitboard_of_men : (words : List ℕ) (all : ℕ) → AreApart words → IsUnion words 12 all
    → IsBitboardOf (λ s. ¬ IsEmpty (words_men words) s) all
bitboard_of_men words all apart union s on =
    let at = man_at-words words s on in
    let i = index_of s in (
      (λ one here.
          let k = (union i).0 one in
          let man = has_man words 12 k.0 i apart (omega arith) k.1 (index_of-below s on) k.2 in
          let clash : None ≡ Some (man_of_row k.0) = sym here ∙ at ∙ man in cc),
      (λ some. elim (cases_Bool (has_bit all i)) [
        | inl bit ↦ bit
        | inr none ↦ absurd
            (some (at
            ∙ no_man words 12 i (λ k less.
            false_of _ (λ one. true_not_false _ ((union i).1 (k, less, one)) none))))
      ]),
    )

pub bit_of_rest : (bitboard i : ℕ) → bitboard < 2 ^ 64 → i < 64
    → has_bit (bit_not w64 bitboard) i ≡ not (has_bit bitboard i)
bit_of_rest bitboard i fits on = ap (λ n. nat_eq n 1) (bit_at_not w64 bitboard i fits on)
    ∙ not_one (bit_at bitboard i) (bit_at-lt bitboard i)

pub bitboard_of_empty : (p : Placement) (all : ℕ) → IsBitboardOf (λ s. ¬ IsEmpty p s) all
    → all < 2 ^ 64
    → IsBitboardOf (IsEmpty p) (bit_not w64 all)
bitboard_of_empty p all men fits s on =
    let i = index_of s in
    let bit : has_bit (bit_not w64 all) i ≡ not (has_bit all i) =
    bit_of_rest all i fits (index_of-below s on) in (
      (λ e. elim (no_man_or (man_at p s)) [
        | inl none ↦ none
        | inr some ↦ absurd (true_not_false _ ((men s on).1 some) (not-true _ (sym bit ∙ e)))
      ]),
      (λ here. bit ∙ ap not (false_of (has_bit all i) (λ one. (men s on).0 one here))),
    )

pub empty_by_bitboard : (p : Placement) (all bitboard : ℕ) (s : Place) → IsOnBoard s
    → bitboard ≡ square_bitboard s
    → IsBitboardOf (λ s. ¬ IsEmpty p s) all
    → (nat_eq (bit_and all bitboard) 0 ≡ true) ↔ IsEmpty p s
empty_by_bitboard p all bitboard s on is men = (
  (λ e. elim (no_man_or (man_at p s)) [
    | inl none ↦ none
    | inr some ↦ absurd (common_some all bitboard s is ((men s on).1 some) (eqb-true _ 0 e))
  ]),
  (λ here.
      eq-eqb _ 0
      (common_none all bitboard s is
      (false_of (has_bit all (index_of s)) (λ one. (men s on).0 one here)))),
)

-- ---- a man that is put

-- the square has the man's bit alone, and all other squares have theirs as before
abbrev pub IsPut : List ℕ → List ℕ → ℕ → Option Man → Type 0
IsPut old new at man =
    (k i : ℕ) → k < 12 → i < 64 → has_bit (bitboard_at new k) i
    ≡ (if nat_eq i at then is_row man k else has_bit (bitboard_at old k) i)

put_here : (old new : List ℕ) (at : ℕ) (man : Option Man) → IsPut old new at man → (k i : ℕ)
    → k < 12 → i < 64 → i ≡ at → has_bit (bitboard_at new k) i ≡ is_row man k
put_here old new at man put k i within on e =
    put k i within on
    ∙ ap (λ b. if b then is_row man k else has_bit (bitboard_at old k) i) (eq-eqb i at e)

put_there : (old new : List ℕ) (at : ℕ) (man : Option Man) → IsPut old new at man → (k i : ℕ)
    → k < 12 → i < 64 → (i ≡ at → ⊥)
    → has_bit (bitboard_at new k) i ≡ has_bit (bitboard_at old k) i
put_there old new at man put k i within on e =
    put k i within on
    ∙ ap (λ b. if b then is_row man k else has_bit (bitboard_at old k) i) (ne_eqb i at e)

one_row : (man : Option Man) (j k : ℕ) → is_row man j ≡ true → is_row man k ≡ true → j ≡ k
one_row None j k a b = let f : false ≡ true = a in absurd (cc)
one_row (Some man) j k a b = eqb-true j (row_of man) a ∙ sym (eqb-true k (row_of man) b)

pub put_apart : (old new : List ℕ) (at : ℕ) (man : Option Man) → AreApart old → IsPut old new at man
    → AreApart new
put_apart old new at man apart put j k i in_j in_k on a b = elim (cases_eq i at) [
  | inl same ↦ one_row man j k (sym (put_here old new at man put j i in_j on same)
      ∙ a) (sym (put_here old new at man put k i in_k on same) ∙ b)
  | inr other ↦
      apart j k i in_j in_k on (sym (put_there old new at man put j i in_j on other)
      ∙ a) (sym (put_there old new at man put k i in_k on other) ∙ b)
]

man_here : (old new : List ℕ) (at : ℕ) (man : Option Man) → at < 64 → AreApart new
    → IsPut old new at man → man_below new 12 at ≡ man
man_here old new at None on apart put =
    no_man new 12 at (λ k less. put_here old new at None put k at less on refl)
man_here old new at (Some man) on apart put =
    has_man new 12 (row_of man) at apart (omega arith) (row_of-below man) on
    (put_here old new at (Some man) put (row_of man) at (row_of-below man) on refl
    ∙ eq-eqb (row_of man) (row_of man) refl)
    ∙ ap Some (man_of_row-row_of man)

man_there : (old new : List ℕ) (n i : ℕ)
    → ((k : ℕ) → k < n → has_bit (bitboard_at new k) i ≡ has_bit (bitboard_at old k) i)
    → man_below new n i ≡ man_below old n i
unfolding man_below
man_there old new zero i same = refl
man_there old new (suc n) i same =
    ap (λ b. if b then Some (man_of_row n) else man_below new n i) (same n (omega arith))
    ∙ ap (λ (m : Option Man). if has_bit (bitboard_at old n) i then Some (man_of_row n)
    else m) (man_there old new n i (λ k less. same k (omega arith)))

pub put_men : (old new : List ℕ) (s : Place) (man : Option Man) → IsOnBoard s → AreApart old
    → IsPut old new (index_of s) man
    → words_men new ≡ with_man (words_men old) s man
put_men old new s man on apart put =
    men_of-put (man_in old) (man_in new) s man on
    (man_here old new (index_of s) man (index_of-below s on)
    (put_apart old new (index_of s) man apart put) put)
    (λ i within other.
    man_there old new 12 i (λ k less.
    put_there old new (index_of s) man put k i less within other))

-- the code's two steps
pub square_bit : (at i : ℕ) → has_bit (2 ^ at) i ≡ nat_eq i at
square_bit at i = elim (cases_eq i at) [
  | inl same ↦ ap (λ j. has_bit (2 ^ at) j) same ∙ eq-eqb _ 1 (bit_at-pow_same at)
      ∙ sym (eq-eqb i at same)
  | inr other ↦ ap (λ n. nat_eq n 1) (bit_at-pow_other at i other) ∙ sym (ne_eqb i at other)
]

cleared_put : (b c : Bool) → (b && not c) ≡ (if c then false else b)
cleared_put true true = refl
cleared_put false true = refl
cleared_put _ _ = refl

set_put : (b c r : Bool) → ((r && c) || (b && not c)) ≡ (if c then r else b)
set_put true true true = refl
set_put true false true = refl
set_put false true true = refl
set_put false false true = refl
set_put _ _ _ = refl

pub put_none : (old new : List ℕ) (at : ℕ) → IsCleared old new (2 ^ at) → IsPut old new at None
put_none old new at cleared k i less on =
    cleared k i less on ∙ ap (λ b. has_bit (bitboard_at old k) i && not b) (square_bit at i)
    ∙ cleared_put (has_bit (bitboard_at old k) i) (nat_eq i at)

pub put_some : (old mid new : List ℕ) (at : ℕ) (man : Man) → IsCleared old mid (2 ^ at)
    → IsBitSet mid new (row_of man) at → IsPut old new at (Some man)
put_some old mid new at man cleared set k i less on =
    set k i less on ∙ ap (λ b. (nat_eq k (row_of man) && nat_eq i at) || b) (cleared k i less on)
    ∙ ap (λ b. (nat_eq k (row_of man) && nat_eq i at)
    || (has_bit (bitboard_at old k) i && not b)) (square_bit at i)
    ∙ set_put (has_bit (bitboard_at old k) i) (nat_eq i at) (nat_eq k (row_of man))

-- the first n words are cleared
pub record IsClearedTo (old new : List ℕ) (n squares : ℕ) : Type 0 where
  pub size : length new ≡ 12
  pub before : (k i : ℕ) → k < n → i < 64
      → has_bit (bitboard_at new k) i ≡ (has_bit (bitboard_at old k) i && not (has_bit squares i))
  pub after : (k : ℕ) → n ≤ k → bitboard_at new k ≡ bitboard_at old k

pub cleared_bit : (bitboard squares i : ℕ) → squares < 2 ^ 64 → i < 64
    → has_bit (bit_and bitboard (bit_not w64 squares)) i
    ≡ (has_bit bitboard i && not (has_bit squares i))
cleared_bit bitboard squares i fits on = bit_of_both bitboard (bit_not w64 squares) i
    ∙ ap (λ b. has_bit bitboard i && b) (bit_of_rest squares i fits on)

pub cleared_more : (old new : List ℕ) (n squares : ℕ) → squares < 2 ^ 64 → n < 12
    → IsClearedTo old new n squares
    → IsClearedTo old (slice_set new n (bit_and (bitboard_at new n) (bit_not w64 squares))) (n
    + 1) squares
cleared_more old new n squares fits on so_far =
    let size = so_far.size in
    let bitboard = bit_and (bitboard_at new n) (bit_not w64 squares) in record {
      size = length-set new n bitboard ∙ size;
      before = λ k i less in_bitboard. elim (cases_eq k n) [
        | inl same ↦
            ap (λ j. has_bit (bitboard_at (slice_set new n bitboard) j) i) same
            ∙ ap (λ w. has_bit w i) (get_or-set_same new n bitboard 0 (omega arith))
            ∙ cleared_bit (bitboard_at new n) squares i fits in_bitboard
            ∙ ap (λ w. has_bit w i && not (has_bit squares i)) (so_far.after n (omega arith))
            ∙ ap (λ j. has_bit (bitboard_at old j) i && not (has_bit squares i)) (sym same)
        | inr other ↦ ap (λ w. has_bit w i) (get_or-set_other new n k bitboard 0 other)
            ∙ so_far.before k i (omega arith) in_bitboard
      ];
      after = λ k more. get_or-set_other new n k bitboard 0 (λ e. omega arith)
          ∙ so_far.after k (omega arith);
    }

pub set_one : (old : List ℕ) (row at : ℕ) → length old ≡ 12 → row < 12
    → IsBitSet old (slice_set old row (bit_or (bitboard_at old row) (2 ^ at))) row at
set_one old row at size in_row k i less on =
    let bitboard = bit_or (bitboard_at old row) (2 ^ at) in elim (cases_eq k row) [
      | inl same ↦
          ap (λ j. has_bit (bitboard_at (slice_set old row bitboard) j) i) same
          ∙ ap (λ w. has_bit w i) (get_or-set_same old row bitboard 0 (omega arith))
          ∙ bit_of_either (bitboard_at old row) (2 ^ at) i
          ∙ or_comm (has_bit (bitboard_at old row) i) (has_bit (2 ^ at) i)
          ∙ ap (λ b. b || has_bit (bitboard_at old row) i) (square_bit at i)
          ∙ ap (λ j. nat_eq i at || has_bit (bitboard_at old j) i) (sym same)
          ∙ sym (ap (λ b. (b && nat_eq i at) || has_bit (bitboard_at old k) i) (eq-eqb k row same))
      | inr other ↦
          ap (λ w. has_bit w i) (get_or-set_other old row k bitboard 0 other)
          ∙ sym (ap (λ b. (b && nat_eq i at) || has_bit (bitboard_at old k) i) (ne_eqb k row other))
    ]

-- no words hold no men
no_words : (k i : ℕ) → k < 12 → has_bit (bitboard_at (replicate 12 0) k) i ≡ false
no_words k i less = ap (λ w. has_bit w i) (get_or-replicate 12 k 0 0 less) ∙ no_bit i

pub no_words_apart : AreApart (replicate 12 0)
no_words_apart j k i in_j in_k on a b = absurd (true_not_false _ a (no_words j i in_j))

pub no_words_men : words_men (replicate 12 0) ≡ no_men
no_words_men =
    men_of-none (man_in (replicate 12 0)) (λ n.
    no_man (replicate 12 0) 12 n (λ k less. no_words k n less)) 64
