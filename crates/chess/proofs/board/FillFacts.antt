-- Rays filled square by square, from one square and along one way.
use Rattle.std.proofs.Common.{pow_pos}
use Rattle.std.proofs.lemmas.Nat.{and_mask}
use Rattle.std.proofs.lemmas.Nat.Bits.{bit_at-zero, bit_at-lt, bit_at_or, bit_at_and}
use Rattle.std.proofs.lemmas.Nat.Bits.{bit_at-pow_same, bit_at-pow_other, and_pow}
use Rattle.chess.proofs.Common.{◌≡◌, ◌⊎◌, ◌<◌, ◌≤◌, ◌+◌, ◌*◌, ◌^◌, ◌&&◌, ◌||◌, bit_and, bit_or, ℕ}
use Rattle.chess.proofs.Common.{true, false, nat_eq, inl, inr, ap, sym, subst, ◌∙◌, arith, min, max}
use Rattle.chess.proofs.Common.{bit_at, cases_eq, cases_lt, eqb-true, eq-eqb, or_cases, or_left}
use Rattle.chess.proofs.Common.{or_right, true_from_ne_false, nat_tests, Place, IsOnBoard}
use Rattle.chess.proofs.Common.{IsStraight, IsAhead, index_of, square_at, square_at-index_of}
use Rattle.chess.proofs.Common.{Placement, IsEmpty, IsOnRay, IsClearFor, has_bit, IsBitboardOf}
use Rattle.chess.proofs.Common.{IsNextBitboard, square_bitboard, Direction, North, South, East}
use Rattle.chess.proofs.Common.{West, NorthEast, NorthWest, SouthEast, SouthWest}
use Rattle.chess.specs.Private.Bitboards.{IsStraightRun, IsDiagonalRun}
use Rattle.chess.proofs.AxisSteps.{one_ahead, itself, ahead_more, ahead_rest, between_ahead}
use Rattle.chess.proofs.AxisSteps.{seven_steps, straight_or_not}

-- ---- bits

-- the bitboard of one square has the bit of that square alone
pub bit_of_square : (s t : Place) → IsOnBoard s → IsOnBoard t
    → has_bit (square_bitboard s) (index_of t) ≡ true → t ≡ s
bit_of_square s t on on_t e = elim (cases_eq (index_of t) (index_of s)) [
  | inl same ↦ sym (square_at-index_of t on_t) ∙ ap square_at same ∙ square_at-index_of s on
  | inr other ↦
      let none = bit_at-pow_other (index_of s) (index_of t) other in
      let one = eqb-true _ _ e in absurd (omega arith)
]

pub has_own_bit : (s : Place) → has_bit (square_bitboard s) (index_of s) ≡ true
has_own_bit s = eq-eqb _ 1 (bit_at-pow_same (index_of s))

-- a bit of two words joined, and of two words' common part
max_one : (a b : ℕ) → a < 2 → b < 2 → nat_eq (max a b) 1 ≡ (nat_eq a 1 || nat_eq b 1)
max_one a b ha hb = grind (arith, nat_tests)

min_one : (a b : ℕ) → a < 2 → b < 2 → nat_eq (min a b) 1 ≡ (nat_eq a 1 && nat_eq b 1)
min_one a b ha hb = grind (arith, nat_tests)

pub bit_of_either : (a b i : ℕ) → has_bit (bit_or a b) i ≡ (has_bit a i || has_bit b i)
bit_of_either a b i = ap (λ n. nat_eq n 1) (bit_at_or a b i)
    ∙ max_one (bit_at a i) (bit_at b i) (bit_at-lt a i) (bit_at-lt b i)

pub bit_of_both : (a b i : ℕ) → has_bit (bit_and a b) i ≡ (has_bit a i && has_bit b i)
bit_of_both a b i = ap (λ n. nat_eq n 1) (bit_at_and a b i)
    ∙ min_one (bit_at a i) (bit_at b i) (bit_at-lt a i) (bit_at-lt b i)

pub no_bit : (i : ℕ) → has_bit 0 i ≡ false
no_bit i = ap (λ n. nat_eq n 1) (bit_at-zero i)

-- ---- the loop

-- the squares up to k steps ahead
abbrev pub IsWithin : Direction → Place → ℕ → Place → Type 0
IsWithin way s k t = (j : ℕ) × (1 ≤ j) × (j ≤ k) × IsAhead way j s t

-- after k steps: the last square, before which and on which no man stands, and the squares so far
pub record IsFilled (p : Placement) (way : Direction) (s : Place) (k last seen : ℕ) : Type 0 where
  pub on_board : IsOnBoard s
  pub here : Place
  pub inside : IsOnBoard here
  pub ahead : IsAhead way k s here
  pub last_is : last ≡ square_bitboard here
  pub clear : IsClearFor p way s (k + 1)
  pub seen_is : IsBitboardOf (IsWithin way s k) seen

pub filled_start : (p : Placement) (way : Direction) (s : Place) (bitboard : ℕ) → IsOnBoard s
    → bitboard ≡ square_bitboard s → IsFilled p way s 0 bitboard 0
filled_start p way s bitboard on is = record {
  on_board = on;
  here = s;
  inside = on;
  ahead = itself way s;
  last_is = is;
  clear = λ j u on_u far less ahead. absurd (omega arith);
  seen_is =
      λ t on_t. (
        (λ e. let f : false ≡ true = sym (no_bit (index_of t)) ∙ e in absurd (cc)),
        (λ h. let a = h.1 in let b = h.2 in absurd (omega arith)),
      );
}

-- one more square
pub within_more : (way : Direction) (s u : Place) (k seen last : ℕ) → IsOnBoard u
    → IsAhead way (k + 1) s u → last ≡ square_bitboard u
    → IsBitboardOf (IsWithin way s k) seen
    → IsBitboardOf (IsWithin way s (k + 1)) (bit_or seen last)
within_more way s u k seen last on ahead is so_far t on_t =
    let bit = bit_of_either seen last (index_of t) in (
      (λ e. elim (or_cases _ _ (sym bit ∙ e)) [
        | inl old ↦ let w = (so_far t on_t).0 old in let a = w.1 in let b = w.2 in
            (w.0, a, omega arith, w.3)
        | inr new ↦
            let same = bit_of_square u t on on_t (ap (λ w. has_bit w (index_of t)) (sym is) ∙ new)
            in
            (k + 1, omega arith, omega arith, subst (IsAhead way (k + 1) s) (sym same) ahead)
      ]),
      (λ h. let a = h.1 in let b = h.2 in bit ∙ elim (cases_eq h.0 (k + 1)) [
        | inl last_one ↦
            let same =
            one_ahead way (k + 1) s t u (subst (λ j. IsAhead way j s t) last_one h.3) ahead in
            or_right _ _ (ap (λ (v : Place). has_bit last (index_of v)) same
            ∙ ap (λ w. has_bit w (index_of u)) is ∙ has_own_bit u)
        | inr before ↦ or_left _ _ ((so_far t on_t).1 (h.0, a, omega arith, h.3))
      ]),
    )

zero_times : (b n : ℕ) → nat_eq b 1 ≡ false → b < 2 → b * n ≡ 0
zero_times b n e h = let zero_bit : b ≡ 0 = grind (arith, nat_tests) in
    ap (λ m. m * n) zero_bit ∙ omega arith

not_zero : (b n : ℕ) → nat_eq b 1 ≡ true → 0 < n → b * n ≡ 0 → ⊥
not_zero b n e h z = let one : b ≡ 1 = eqb-true b 1 e in let f : 1 * n ≡ 0 =
    ap (λ m. m * n) (sym one) ∙ z in omega arith

and_zero : (n : ℕ) → bit_and n 0 ≡ 0
and_zero n = and_mask n 0 ∙ omega arith

pub common_none : (empty bitboard : ℕ) (t : Place) → bitboard ≡ square_bitboard t
    → has_bit empty (index_of t) ≡ false → bit_and empty bitboard ≡ 0
common_none empty bitboard t is e =
    ap (bit_and empty) is ∙ and_pow empty (index_of t)
    ∙ zero_times (bit_at empty (index_of t)) (2 ^ index_of t) e (bit_at-lt empty (index_of t))

pub common_some : (empty bitboard : ℕ) (t : Place) → bitboard ≡ square_bitboard t
    → has_bit empty (index_of t) ≡ true → bit_and empty bitboard ≡ 0 → ⊥
common_some empty bitboard t is e zero =
    not_zero (bit_at empty (index_of t)) (2 ^ index_of t) e (pow_pos (index_of t))
    (sym (ap (bit_and empty) is ∙ and_pow empty (index_of t)) ∙ zero)

-- the next square is empty, and the ray goes on
pub filled_more : (p : Placement) (way : Direction) (s : Place) (k last seen empty bitboard : ℕ)
    (h : IsFilled p way s k last seen)
    → IsBitboardOf (IsEmpty p) empty → IsNextBitboard way h.here bitboard
    → (bit_and empty bitboard ≡ 0 → ⊥)
    → IsFilled p way s (k + 1) bitboard (bit_or seen bitboard)
filled_more p way s k last seen empty bitboard h shows (inl next) some =
    let t = next.0 in
    let ahead = ahead_more way k 1 s h.here t h.ahead next.2 in
    let bare =
    (shows t next.1).0 (true_from_ne_false (has_bit empty (index_of t)) (λ e.
    some (common_none empty bitboard t next.3 e))) in record {
      on_board = h.on_board;
      here = t;
      inside = next.1;
      ahead = ahead;
      last_is = next.3;
      clear = λ j u on_u far less there. elim (cases_eq j (k + 1)) [
        | inl same ↦ subst (IsEmpty p)
            (one_ahead way (k + 1) s t u ahead (subst (λ n. IsAhead way n s u) same there)) bare
        | inr other ↦ h.clear j u on_u far (omega arith) there
      ];
      seen_is = within_more way s t k seen bitboard next.1 ahead next.3 h.seen_is;
    }
filled_more p way s k last seen empty bitboard h shows (inr next) some =
    absurd (some (ap (bit_and empty) next.1 ∙ and_zero empty))

-- squares within the steps that were taken are on the ray
on_ray : (p : Placement) (way : Direction) (s t : Place) (k : ℕ) → IsClearFor p way s k
    → IsWithin way s k t → IsOnRay p way s t
on_ray p way s t k clear h =
    let less = h.2 in
    record {
      steps = h.0;
      far = h.1;
      ahead = h.3;
      clear =
          λ j u on far below ahead. clear j u on far (omega arith) ahead;
    }

-- the ray ends at a man, or at the edge of the board
pub filled_stop : (p : Placement) (way : Direction) (s : Place) (k last seen empty bitboard : ℕ)
    (h : IsFilled p way s k last seen)
    → IsBitboardOf (IsEmpty p) empty → IsNextBitboard way h.here bitboard
    → bit_and empty bitboard ≡ 0
    → IsBitboardOf (IsOnRay p way s) (bit_or seen bitboard)
filled_stop p way s k last seen empty bitboard h shows (inl next) stop t on =
    let u = next.0 in
    let ahead = ahead_more way k 1 s h.here u h.ahead next.2 in
    let within = within_more way s u k seen bitboard next.1 ahead next.3 h.seen_is t on in (
      (λ e. on_ray p way s t (k + 1) h.clear (within.0 e)),
      (λ ray. elim (cases_lt ray.steps (k + 2)) [
        | inl near ↦ within.1 (ray.steps, ray.far, omega arith, ray.ahead)
        | inr far ↦
            let bare = ray.clear (k + 1) u next.1 (omega arith) (omega arith) ahead in
            absurd (common_some empty bitboard u next.3 ((shows u next.1).1 bare) stop)
      ]),
    )
filled_stop p way s k last seen empty bitboard h shows (inr next) stop t on =
    let bit = bit_of_either seen bitboard (index_of t) in (
      (λ e. elim (or_cases _ _ (sym bit ∙ e)) [
        | inl old ↦ let w = (h.seen_is t on).0 old in let low = w.1 in let high = w.2 in
            on_ray p way s t (k + 1) h.clear (w.0, low, omega arith, w.3)
        | inr new ↦ let f : false ≡ true =
            sym (ap (λ w. has_bit w (index_of t)) next.1 ∙ no_bit (index_of t)) ∙ new in absurd (cc)
      ]),
      (λ ray. elim (cases_lt ray.steps (k + 1)) [
        | inl near ↦ bit
            ∙ or_left _ _ ((h.seen_is t on).1 (ray.steps, ray.far, omega arith, ray.ahead))
        | inr far ↦
            let v = between_ahead way (k + 1) ray.steps s t far h.on_board on ray.ahead in
            absurd (next.0 v.0 v.1 (ahead_rest way k 1 s h.here v.0 h.ahead v.2))
      ]),
    )

-- seven steps are all
pub filled_end : (p : Placement) (way : Direction) (s : Place) (k last seen : ℕ)
    → IsFilled p way s k last seen → 7 ≤ k → IsBitboardOf (IsOnRay p way s) seen
filled_end p way s k last seen h all t on = (
  (λ e.
      let w = (h.seen_is t on).0 e in let low = w.1 in let high = w.2 in
      on_ray p way s t (k + 1) h.clear (w.0, low, omega arith, w.3)),
  (λ ray. let few = seven_steps way ray.steps s t h.on_board on ray.ahead in
      (h.seen_is t on).1 (ray.steps, ray.far, omega arith, ray.ahead)),
)

-- ---- four ways joined

pub either_bitboard : (A B : Place → Type 0) (a b : ℕ) → IsBitboardOf A a → IsBitboardOf B b
    → IsBitboardOf (λ t. A t ⊎ B t) (bit_or a b)
either_bitboard A B a b in_a in_b t on =
    let bit = bit_of_either a b (index_of t) in (
      (λ e. elim (or_cases _ _ (sym bit ∙ e))
          [ inl f ↦ inl ((in_a t on).0 f) | inr f ↦ inr ((in_b t on).0 f) ]),
      (λ h. bit
          ∙ elim h [
            | inl f ↦ or_left _ _ ((in_a t on).1 f)
            | inr f ↦ or_right _ _ ((in_b t on).1 f)
          ]),
    )

abbrev AreFourRays : Placement → Direction → Direction → Direction → Direction → Place → Place
    → Type 0
AreFourRays p a b c d s t = (IsOnRay p a s t ⊎ IsOnRay p b s t)
    ⊎ (IsOnRay p c s t ⊎ IsOnRay p d s t)

straight_of : (p : Placement) (s t : Place) → AreFourRays p North South East West s t
    → IsStraightRun p s t
straight_of p s t (inl (inl ray)) = (North, tt, ray)
straight_of p s t (inl (inr ray)) = (South, tt, ray)
straight_of p s t (inr (inl ray)) = (East, tt, ray)
straight_of p s t (inr (inr ray)) = (West, tt, ray)

of_straight : (p : Placement) (s t : Place) (way : Direction) → IsStraight way → IsOnRay p way s t
    → AreFourRays p North South East West s t
of_straight p s t North is ray = inl (inl ray)
of_straight p s t South is ray = inl (inr ray)
of_straight p s t East is ray = inr (inl ray)
of_straight p s t West is ray = inr (inr ray)
of_straight p s t way is ray = absurd is

diagonal_of : (p : Placement) (s t : Place)
    → AreFourRays p NorthEast NorthWest SouthEast SouthWest s t → IsDiagonalRun p s t
diagonal_of p s t (inl (inl ray)) = (NorthEast, (λ h. h), ray)
diagonal_of p s t (inl (inr ray)) = (NorthWest, (λ h. h), ray)
diagonal_of p s t (inr (inl ray)) = (SouthEast, (λ h. h), ray)
diagonal_of p s t (inr (inr ray)) = (SouthWest, (λ h. h), ray)

of_diagonal : (p : Placement) (s t : Place) (way : Direction) → (¬ IsStraight way)
    → IsOnRay p way s t
    → AreFourRays p NorthEast NorthWest SouthEast SouthWest s t
of_diagonal p s t NorthEast is ray = inl (inl ray)
of_diagonal p s t NorthWest is ray = inl (inr ray)
of_diagonal p s t SouthEast is ray = inr (inl ray)
of_diagonal p s t SouthWest is ray = inr (inr ray)
of_diagonal p s t way is ray = absurd (is tt)

four_rays : (p : Placement) (s : Place) (a b c d : Direction) (k l m n : ℕ)
    → IsBitboardOf (IsOnRay p a s) k → IsBitboardOf (IsOnRay p b s) l
    → IsBitboardOf (IsOnRay p c s) m → IsBitboardOf (IsOnRay p d s) n
    → IsBitboardOf (AreFourRays p a b c d s) (bit_or (bit_or k l) (bit_or m n))
four_rays p s a b c d k l m n in_k in_l in_m in_n =
    either_bitboard (λ t. IsOnRay p a s t ⊎ IsOnRay p b s t) (λ t. IsOnRay p c s t
    ⊎ IsOnRay p d s t) (bit_or k l) (bit_or m n)
    (either_bitboard (IsOnRay p a s) (IsOnRay p b s) k l in_k in_l)
    (either_bitboard (IsOnRay p c s) (IsOnRay p d s) m n in_m in_n)

pub straight_joined : (p : Placement) (s : Place) (k l m n : ℕ) → IsBitboardOf (IsOnRay p North s) k
    → IsBitboardOf (IsOnRay p South s) l
    → IsBitboardOf (IsOnRay p East s) m → IsBitboardOf (IsOnRay p West s) n
    → IsBitboardOf (IsStraightRun p s) (bit_or (bit_or k l) (bit_or m n))
straight_joined p s k l m n in_k in_l in_m in_n t on =
    let four = four_rays p s North South East West k l m n in_k in_l in_m in_n t on in
    ((λ e. straight_of p s t (four.0 e)), (λ h. four.1 (of_straight p s t h.0 h.1 h.2)))

pub diagonal_joined : (p : Placement) (s : Place) (k l m n : ℕ)
    → IsBitboardOf (IsOnRay p NorthEast s) k
    → IsBitboardOf (IsOnRay p NorthWest s) l
    → IsBitboardOf (IsOnRay p SouthEast s) m → IsBitboardOf (IsOnRay p SouthWest s) n
    → IsBitboardOf (IsDiagonalRun p s) (bit_or (bit_or k l) (bit_or m n))
diagonal_joined p s k l m n in_k in_l in_m in_n t on =
    let four =
    four_rays p s NorthEast NorthWest SouthEast SouthWest k l m n in_k in_l in_m in_n t on in
    ((λ e. diagonal_of p s t (four.0 e)), (λ h. four.1 (of_diagonal p s t h.0 h.1 h.2)))

-- queens run straight and along diagonals
pub queen_joined : (p : Placement) (s : Place) (a b : ℕ) → IsBitboardOf (IsStraightRun p s) a
    → IsBitboardOf (IsDiagonalRun p s) b
    → IsBitboardOf (λ t. (way : Direction) × IsOnRay p way s t) (bit_or a b)
queen_joined p s a b in_a in_b t on =
    let both = either_bitboard (IsStraightRun p s) (IsDiagonalRun p s) a b in_a in_b t on in (
      (λ e. elim (both.0 e) [ inl h ↦ (h.0, h.2) | inr h ↦ (h.0, h.2) ]),
      (λ h. elim (straight_or_not h.0) [
        | inl straight ↦ both.1 (inl (h.0, straight, h.1))
        | inr diagonal ↦ both.1
            (inr (h.0, diagonal, h.1))
      ]),
    )
