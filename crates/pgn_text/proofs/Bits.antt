-- One bit of a word, through each operation.
use Rattle.std.proofs.Common.{◌≡◌, ℕ, zero, suc, ◌+◌, ◌-◌, ◌*◌, ◌/◌, ◌%◌, ◌^◌, ◌<◌, ◌≤◌, min, max}
use Rattle.std.proofs.Common.{Bool, true, false, not, ◌&&◌, ◌||◌, ◌==◌, List, get_or, cond, T, ◌⊎◌}
use Rattle.std.proofs.Common.{inl, inr, refl, sym, ap, ◌∙◌, subst, arith, w64, mod-lt, zero-lt-suc}
use Rattle.std.proofs.Common.{le_of_suc-le-suc, not-suc-le-zero, mul_assoc, pow_pos, pow-suc}
use Rattle.std.specs.Int.{bit_at, trailing_zeros}
use Rattle.std.proofs.lemmas.Nat.{leading_top, le_or_r}
use Rattle.std.proofs.lemmas.Nat.Bits.{bit_at_above, bit_at_lowest, bit_at-zero, bit_at_cat_high}
use Rattle.std.proofs.lemmas.Nat.Bits.{bit_at-suc, bit_at_and, bit_at_or, bit_at_not, ones_shl}
use Rattle.std.proofs.lemmas.Nat.Bits.{bit_at_mask_inside, bit_at_mask_below, bit_at-trailing_zeros}
use Rattle.std.proofs.lemmas.Simd.{bit_mask_l}
use Rattle.std.proofs.lemmas.Bool.{cases_order, cases_lt}
use Rattle.pgn_text.proofs.Common.{eqb-true}
use lib.Bits.{bit_and, bit_or, and_le_l, or_lt, shifted_even}
use lib.Count.{count_leading_zeros, count_trailing_zeros, leading_of_zero, trailing_of_zero}
use lib.Pow.{field, mod-mod-pow, shr-shr, shl-shr, pow-add}
use lib.Lanes.{mask_l}
use Rattle.pgn_text.specs.Shared.Lanes.{has_bit}

pub bit_cases : (P : ℕ → Type 0) → P 0 → P 1 → (x : ℕ) → x < 2 → P x
bit_cases P p q zero h = p
bit_cases P p q (suc zero) h = q
bit_cases P p q (suc (suc r)) h = absurd (not-suc-le-zero (le_of_suc-le-suc (le_of_suc-le-suc h)))

pub bit_lt : (n i : ℕ) → bit_at n i < 2
bit_lt n i = mod-lt (n / 2 ^ i) (zero-lt-suc 1)

pub two_bits : (P : ℕ → ℕ → Type 0) → P 0 0 → P 0 1 → P 1 0 → P 1 1 → (a b i : ℕ)
    → P (bit_at a i) (bit_at b i)
two_bits P p q r s a b i =
    bit_cases (λ x. P x (bit_at b i)) (bit_cases (P 0) p q (bit_at b i) (bit_lt b i))
    (bit_cases (P 1) r s (bit_at b i) (bit_lt b i)) (bit_at a i) (bit_lt a i)

-- of `a & b`
pub bit-and : (a b i : ℕ) → has_bit (bit_and a b) i ≡ (has_bit a i && has_bit b i)
unfolding has_bit
bit-and a b i = ap (λ n. n == 1) (bit_at_and a b i)
    ∙ two_bits (λ x y. (min x y == 1) ≡ ((x == 1) && (y == 1))) refl refl refl refl a b i

-- of `a | b`
pub bit-or : (a b i : ℕ) → has_bit (bit_or a b) i ≡ (has_bit a i || has_bit b i)
unfolding has_bit
bit-or a b i = ap (λ n. n == 1) (bit_at_or a b i)
    ∙ two_bits (λ x y. (max x y == 1) ≡ ((x == 1) || (y == 1))) refl refl refl refl a b i

-- of `!a`
abbrev pub flip : ℕ → ℕ
flip a = 2 ^ 64 - 1 - a

pub bit-flip : (a i : ℕ) → a < 2 ^ 64 → i < 64 → has_bit (flip a) i ≡ not (has_bit a i)
unfolding has_bit
bit-flip a i ha hi = ap (λ n. n == 1) (bit_at_not w64 a i ha hi)
    ∙ bit_cases (λ x. ((1 - x) == 1) ≡ not (x == 1)) refl refl (bit_at a i) (bit_lt a i)

pub bit-mod : (n i : ℕ) → i < 64 → has_bit (n % 2 ^ 64) i ≡ has_bit n i
unfolding has_bit
bit-mod n i h =
    let m = 63 - i in
    let e : m + 1 + i ≡ 64 = omega arith in
    ap (λ x. x == 1) (rw e at (ap (λ x. x % 2) (field n (m + 1) i) ∙ mod-mod-pow (n / 2 ^ i) m 1))

-- of `y << 1`
abbrev pub shl : ℕ → ℕ → ℕ
shl k y = y * 2 ^ k % 2 ^ 64

pub bit-shl_high : (k j y : ℕ) → k + j < 64 → has_bit (shl k y) (k + j) ≡ has_bit y j
unfolding has_bit
bit-shl_high k j y h = bit-mod (y * 2 ^ k) (k + j) h
    ∙ ap (λ x. x % 2 == 1) (sym (shr-shr (y * 2 ^ k) k j) ∙ ap (λ x. x / 2 ^ j) (shl-shr y k))

pub bit-shl_low : (k i y : ℕ) → i < k → i < 64 → has_bit (shl k y) i ≡ false
unfolding has_bit
bit-shl_low k i y lt h =
    let m = k - i - 1 in
    let e : suc m + i ≡ k = omega arith in
    let moved : y * 2 ^ (suc m + i) / 2 ^ i ≡ y * 2 ^ suc m =
    ap (λ x. x / 2 ^ i) (ap (λ x. y * x) (pow-add 2 (suc m) i)
    ∙ sym (mul_assoc y (2 ^ suc m) (2 ^ i))) ∙ shl-shr (y * 2 ^ suc m) i in
    bit-mod (y * 2 ^ k) i h
    ∙ ap (λ x.
    x == 1) (subst (λ w. bit_at (y * 2 ^ w) i ≡ 0) e (ap (λ x. x % 2) moved ∙ shifted_even y m))

pub bit-shl_one : (j y : ℕ) → suc j < 64 → has_bit (shl 1 y) (suc j) ≡ has_bit y j
bit-shl_one j y h =
    let e : 1 + j ≡ suc j = omega arith in
    ap (has_bit (shl 1 y)) (sym e) ∙ bit-shl_high 1 j y (omega arith)

-- of `MAX << k`
pub bit-ones_high : (k i : ℕ) → k ≤ i → i < 64 → has_bit ((2 ^ 64 - 1) * 2 ^ k % 2 ^ 64) i ≡ true
unfolding has_bit
bit-ones_high k i le lt = ap (λ n. bit_at n i == 1) (ones_shl 64 k (omega arith))
    ∙ ap (λ x. x == 1) (bit_at_mask_inside k 64 i le lt)

pub bit-ones_low : (k i : ℕ) → i < k → k ≤ 64 → has_bit ((2 ^ 64 - 1) * 2 ^ k % 2 ^ 64) i ≡ false
unfolding has_bit
bit-ones_low k i lt le = ap (λ n. bit_at n i == 1) (ones_shl 64 k le)
    ∙ ap (λ x. x == 1) (bit_at_mask_below k 64 i lt)

-- of a mask of lanes
pub bit-mask_l : (ms : List Bool) (i : ℕ) → has_bit (mask_l ms) i ≡ get_or ms i false
unfolding has_bit
bit-mask_l ms i = ap (λ x. x == 1) (bit_mask_l ms i) ∙ back (get_or ms i false)
  where
    back : (b : Bool) → (cond b 1 0 == 1) ≡ b
    back true = refl
    back false = refl

-- the lowest set bit
pub lowest_bit : (n : ℕ) → 0 < n → n < 2 ^ 64
    → (trailing_zeros w64 n < 64) × (has_bit n (trailing_zeros w64 n) ≡ true)
    × ((i : ℕ) → i < trailing_zeros w64 n → has_bit n i ≡ false)
unfolding has_bit
lowest_bit n some small =
    let found = bit_at-trailing_zeros w64 n some small in
    (found.0, ap (λ x. x == 1) found.1, λ i lt. ap (λ x. x == 1) (found.2 i lt))

-- a fact of each number below n, by computation
abbrev pub upto : (ℕ → Bool) → ℕ → Bool
upto p zero = true
upto p (suc n) = p n && upto p n

both : (a b : Bool) → T (a && b) → T a × T b
both true b h = (tt, h)
both false b h = absurd h

pub upto_sound : (p : ℕ → Bool) (n : ℕ) → T (upto p n) → (i : ℕ) → i < n → T (p i)
upto_sound p zero h i lt = absurd (not-suc-le-zero lt)
upto_sound p (suc n) h i lt = go (upto_sound p n (both (p n) (upto p n) h).1 i) (cases_order i n)
  where
    go : (i < n → T (p i)) → (i ≡ n) ⊎ ((i < n) ⊎ (n < i)) → T (p i)
    go below (inl e) = subst (λ x. T (p x)) (sym e) (both (p n) (upto p n) h).0
    go below (inr (inl l)) = below l
    go below (inr (inr g)) = let no : ⊥ = omega arith in absurd no

abbrev pub same : Bool → Bool → Bool
same true b = b
same false b = not b

pub same_is : (a b : Bool) → T (same a b) → a ≡ b
same_is true true h = refl
same_is false false h = refl
same_is true false h = absurd h
same_is false true h = absurd h

and-true : (b : Bool) → (b && true) ≡ b
and-true true = refl
and-true false = refl

-- of `words & !(words << 1)`
pub bit-begins_first : (words : ℕ) → has_bit (bit_and words (flip (shl 1 words))) 0
    ≡ has_bit words 0
bit-begins_first words =
    bit-and words (flip (shl 1 words)) 0
    ∙ ap (λ b. has_bit words 0
    && b) (bit-flip (shl 1 words) 0 (mod-lt (words * 2) (pow_pos 64)) (omega arith)
    ∙ ap not (bit-shl_low 1 0 words (omega arith) (omega arith)))
    ∙ and-true (has_bit words 0)

pub bit-begins_next : (words i : ℕ) → suc i < 64
    → has_bit (bit_and words (flip (shl 1 words))) (suc i)
    ≡ (has_bit words (suc i) && not (has_bit words i))
bit-begins_next words i lt =
    bit-and words (flip (shl 1 words)) (suc i)
    ∙ ap (λ b. has_bit words (suc i)
    && b) (bit-flip (shl 1 words) (suc i) (mod-lt (words * 2) (pow_pos 64)) lt
    ∙ ap not (bit-shl_one i words lt))

-- of `word & (MAX << k)` and of `word & !(MAX << k)`
abbrev pub ones_from : ℕ → ℕ
ones_from k = (2 ^ 64 - 1) * 2 ^ k % 2 ^ 64

pub bit-from_high : (word k i : ℕ) → k ≤ i → i < 64
    → has_bit (bit_and word (ones_from k)) i ≡ has_bit word i
bit-from_high word k i le lt = bit-and word (ones_from k) i
    ∙ ap (λ b. has_bit word i && b) (bit-ones_high k i le lt) ∙ and-true (has_bit word i)

and-false : (b : Bool) → (b && false) ≡ false
and-false true = refl
and-false false = refl

pub bit-from_low : (word k i : ℕ) → i < k → k ≤ 64 → has_bit (bit_and word (ones_from k)) i ≡ false
bit-from_low word k i lt le = bit-and word (ones_from k) i
    ∙ ap (λ b. has_bit word i && b) (bit-ones_low k i lt le) ∙ and-false (has_bit word i)

pub bit-below_low : (word k i : ℕ) → i < k → k < 64
    → has_bit (bit_and word (flip (ones_from k))) i ≡ has_bit word i
bit-below_low word k i lt le =
    bit-and word (flip (ones_from k)) i
    ∙ ap (λ b. has_bit word i
    && b) (bit-flip (ones_from k) i (mod-lt ((2 ^ 64 - 1) * 2 ^ k) (pow_pos 64)) (omega arith)
    ∙ ap not (bit-ones_low k i lt (omega arith)))
    ∙ and-true (has_bit word i)

pub bit-below_high : (word k i : ℕ) → k ≤ i → i < 64
    → has_bit (bit_and word (flip (ones_from k))) i ≡ false
bit-below_high word k i le lt =
    bit-and word (flip (ones_from k)) i
    ∙ ap (λ b. has_bit word i
    && b) (bit-flip (ones_from k) i (mod-lt ((2 ^ 64 - 1) * 2 ^ k) (pow_pos 64)) lt
    ∙ ap not (bit-ones_high k i le lt))
    ∙ and-false (has_bit word i)

-- the highest set bit
pub highest_bit : (n : ℕ) → 0 < n → n < 2 ^ 64
    → (j : ℕ) × (count_leading_zeros 64 n + suc j ≡ 64) × (has_bit n j ≡ true)
unfolding has_bit
highest_bit n some small =
    let found = leading_top 64 n some small in
    let j : ℕ = found.0 in
    let split : 1 * 2 ^ j + (n - 2 ^ j) ≡ n = omega (arith, found.2) in
    let rest : n - 2 ^ j < 2 ^ j = omega (arith, found.2, found.3, pow-suc 2 j) in
    let none : j - j ≡ 0 = omega arith in (
      j,
      found.1,
      ap (λ x. x == 1) (ap (λ m. bit_at m j) (sym split)
          ∙ bit_at_cat_high 1 j (n - 2 ^ j) j rest (omega arith) ∙ ap (bit_at 1) none),
    )

pub neither : (a b : Bool) → (a || b) ≡ false → (a ≡ false) × (b ≡ false)
neither true b off = absurd (cc)
neither false b off = (refl, off)

pub both_true : (a b : Bool) → (a && b) ≡ true → (a ≡ true) × (b ≡ true)
both_true true b on = (refl, on)
both_true false b on = absurd (cc)

unless : (a b : Bool) → (a && not b) ≡ false → a ≡ true → b ≡ true
unless true true off on = refl
unless true false off on = absurd (cc)
unless false b off on = absurd (cc)

twice_not : (b : Bool) → not b ≡ false → b ≡ true
twice_not true off = refl
twice_not false off = absurd (cc)

module _ (words gaps begins letters numbers : ℕ) (words_fit : words
    < 2 ^ 64) (gaps_fit : gaps < 2 ^ 64) (letters_fit : letters
    < 2 ^ 64) (numbers_fit : numbers < 2 ^ 64) where
  abbrev known_bits : ℕ
  known_bits = bit_or words gaps

  abbrev firsts : ℕ
  firsts = bit_or letters numbers

  abbrev nexts : ℕ
  nexts = bit_or numbers gaps

  abbrev pub strange_bits : ℕ
  strange_bits =
      bit_or (bit_or (flip known_bits) (bit_and begins (flip firsts)))
      (bit_and (shl 1 numbers) (flip nexts))

  parts : (i : ℕ) → has_bit strange_bits i ≡ false
      → (has_bit (flip known_bits) i ≡ false) × (has_bit (bit_and begins (flip firsts)) i ≡ false)
      × (has_bit (bit_and (shl 1 numbers) (flip nexts)) i ≡ false)
  parts i off =
      let two =
      neither _ _
      (sym (bit-or (bit_or (flip known_bits) (bit_and begins (flip firsts)))
      (bit_and (shl 1 numbers) (flip nexts)) i) ∙ off) in
      let one =
      neither _ _ (sym (bit-or (flip known_bits) (bit_and begins (flip firsts)) i) ∙ two.0) in
      (one.0, one.1, two.1)

  pub not_strange_each : (i : ℕ) → i < 64 → has_bit strange_bits i ≡ false
      → (has_bit words i || has_bit gaps i) ≡ true
  not_strange_each i lt off =
      sym (bit-or words gaps i)
      ∙ twice_not _
      (sym (bit-flip known_bits i (or_lt 64 words gaps words_fit gaps_fit) lt) ∙ (parts i off).0)

  pub not_strange_begins : (i : ℕ) → i < 64 → has_bit strange_bits i ≡ false
      → has_bit begins i ≡ true → (has_bit letters i || has_bit numbers i) ≡ true
  not_strange_begins i lt off on =
      sym (bit-or letters numbers i)
      ∙ unless _ _ (sym (bit-and begins (flip firsts) i
      ∙ ap (λ b. has_bit begins i
      && b) (bit-flip firsts i (or_lt 64 letters numbers letters_fit numbers_fit) lt))
      ∙ (parts i off).1) on

  pub not_strange_goes_on : (i : ℕ) → suc i < 64 → has_bit strange_bits (suc i) ≡ false
      → has_bit numbers i ≡ true → (has_bit numbers (suc i) || has_bit gaps (suc i)) ≡ true
  not_strange_goes_on i lt off on =
      sym (bit-or numbers gaps (suc i))
      ∙ unless _ _ (sym (bit-and (shl 1 numbers) (flip nexts) (suc i)
      ∙ ap (λ b. has_bit (shl 1 numbers) (suc i)
      && b) (bit-flip nexts (suc i) (or_lt 64 numbers gaps numbers_fit gaps_fit) lt))
      ∙ (parts (suc i) off).2)
      (bit-shl_one i numbers lt ∙ on)

-- a test cannot both pass and fail
pub clash : (b : Bool) → b ≡ true → b ≡ false → ⊥
clash true is off = cc
clash false is off = cc

pub not_false : (b : Bool) → not b ≡ false → b ≡ true
not_false true off = refl
not_false false off = absurd (cc)

pub not_true : (b : Bool) → not b ≡ true → b ≡ false
not_true true on = absurd (cc)
not_true false on = refl

zero_of : (n : ℕ) → n ≤ 0 → n ≡ 0
zero_of n le = omega arith

has-suc : (n i : ℕ) → has_bit n (suc i) ≡ has_bit (n / 2) i
unfolding has_bit
has-suc n i = ap (λ b. b == 1) (bit_at-suc n i)

has-zero : (n : ℕ) → has_bit n 0 ≡ (n % 2 == 1)
unfolding has_bit
has-zero n = ap (λ b. b == 1) (bit_at_lowest n)

-- a bit that `b - 1` has and `b` has not stands below all bits of `b`
pub below_lowest : (j b : ℕ) → 0 < b → has_bit (b - 1) j ≡ true → has_bit b j ≡ false → (i : ℕ)
    → i ≤ j → has_bit b i ≡ false
below_lowest zero b some on off zero le = off
below_lowest zero b some on off (suc i) le = absurd (omega arith)
below_lowest (suc k) b some on off i le =
    bit_cases (λ r. b % 2 ≡ r → has_bit b i
    ≡ false) (λ e. even (λ more set clear m low.
    below_lowest k (b / 2) more set clear m low) e i le) odd (b % 2) (mod-lt b (zero-lt-suc 1)) refl
  where
    odd : b % 2 ≡ 1 → has_bit b i ≡ false
    odd e =
        let half : (b - 1) / 2 ≡ b / 2 = omega arith in
        absurd (clash (has_bit (b / 2) k) (ap (λ n. has_bit n k) (sym half)
        ∙ sym (has-suc (b - 1) k) ∙ on) (sym (has-suc b k) ∙ off))

    even : (0 < b / 2 → has_bit (b / 2 - 1) k ≡ true → has_bit (b / 2) k ≡ false → (m : ℕ) → m ≤ k
        → has_bit (b / 2) m ≡ false)
        → b % 2 ≡ 0 → (m : ℕ) → m ≤ suc k → has_bit b m ≡ false
    even halved e zero low = has-zero b ∙ ap (λ r. r == 1) e
    even halved e (suc m) low =
        let half : (b - 1) / 2 ≡ b / 2 - 1 = omega arith in
        has-suc b m
        ∙ halved (omega arith) (ap (λ n. has_bit n k) (sym half) ∙ sym (has-suc (b - 1) k)
        ∙ on) (sym (has-suc b k) ∙ off) m (omega arith)

or-true : (a : Bool) → (a || true) ≡ true
or-true true = refl
or-true false = refl

top_is : has_bit (2 ^ 63) 63 ≡ true
unfolding has_bit
top_is = refl

-- the strange bytes, and the last
abbrev pub stops_at : ℕ → ℕ
stops_at strange = bit_or strange (2 ^ 63)

pub some_stop : (strange : ℕ) → 0 < stops_at strange
some_stop strange = omega (arith, le_or_r strange (2 ^ 63))

-- the gaps below all of them
abbrev pub ends_of : ℕ → ℕ → ℕ
ends_of gaps strange = bit_and (bit_and gaps (flip (stops_at strange))) (stops_at strange - 1)

-- what `plain_len` counts
pub plain_length : (gaps strange : ℕ) → gaps < 2 ^ 64 → strange < 2 ^ 64
    → (64 - count_leading_zeros 64 (ends_of gaps strange) < 64)
    × ((i : ℕ) → i < 64 - count_leading_zeros 64 (ends_of gaps strange)
    → has_bit strange i ≡ false)
    × ((i : ℕ) → 64 - count_leading_zeros 64 (ends_of gaps strange) ≡ suc i → has_bit gaps i ≡ true)
plain_length gaps strange gaps_fit fit =
    let stops : ℕ = stops_at strange in
    let ends : ℕ = ends_of gaps strange in
    let ends_fit : ends < 2 ^ 64 =
    omega (arith, and_le_l (bit_and gaps (flip stops)) (stops - 1), and_le_l gaps (flip stops))
    in
    elim (cases_lt 0 ends) [
      | inl some ↦
          let found = highest_bit ends some ends_fit in
          let j : ℕ = found.0 in
          let top : count_leading_zeros 64 ends + suc j ≡ 64 = found.1 in
          let parts =
          both_true _ _ (sym (bit-and (bit_and gaps (flip stops)) (stops - 1) j) ∙ found.2) in
          let gap = both_true _ _ (sym (bit-and gaps (flip stops) j) ∙ parts.0) in
          let plain : has_bit stops j ≡ false =
          not_true _
          (sym (bit-flip stops j (or_lt 64 strange (2 ^ 63) fit (omega arith)) (omega arith))
          ∙ gap.1) in
          let before : j < 63 = elim (cases_lt j 63) [
            | inl lt ↦ lt
            | inr le ↦
                let last : 63 ≡ j = omega arith in
                absurd (clash (has_bit stops j) (ap (has_bit stops) (sym last)
                ∙ bit-or strange (2 ^ 63) 63 ∙ ap (λ b. has_bit strange 63 || b) top_is
                ∙ or-true _) plain)
          ] in (
            omega arith,
            λ i lt. (neither _ _ (sym (bit-or strange (2 ^ 63) i)
                ∙ below_lowest j stops (some_stop strange) parts.1 plain i (omega arith))).0,
            λ i is. (let same_place : i ≡ j = omega arith in ap (has_bit gaps) same_place ∙ gap.0),
          )
      | inr none ↦
          let zeros : count_leading_zeros 64 ends ≡ 64 =
          ap (count_leading_zeros 64) (zero_of ends none) ∙ leading_of_zero 64 in
          (omega arith, λ i lt. absurd (omega arith), λ i is. absurd (omega arith))
    ]

-- the lowest bit from a place on
pub lowest_from : (word k : ℕ) → k < 64 → word < 2 ^ 64 → 0 < bit_and word (ones_from k)
    → (k ≤ count_trailing_zeros 64 (bit_and word (ones_from k)))
    × (count_trailing_zeros 64 (bit_and word (ones_from k)) < 64)
    × (has_bit word (count_trailing_zeros 64 (bit_and word (ones_from k))) ≡ true)
    × ((i : ℕ) → k ≤ i → i < count_trailing_zeros 64 (bit_and word (ones_from k))
    → has_bit word i ≡ false)
lowest_from word k le fit some =
    let x : ℕ = bit_and word (ones_from k) in
    let small : x < 2 ^ 64 = omega (arith, and_le_l word (ones_from k)) in
    let found = lowest_bit x some small in
    let t : ℕ = count_trailing_zeros 64 x in
    let from : k ≤ t = elim (cases_lt t k) [
      | inl lt ↦ absurd (clash (has_bit x t) found.1 (bit-from_low word k t lt (omega arith)))
      | inr le ↦ le
    ] in (
      from,
      found.0,
      sym (bit-from_high word k t from found.0) ∙ found.1,
      λ i low high. sym (bit-from_high word k i low (omega (arith, found.0))) ∙ found.2 i high,
    )

no_bit : (i : ℕ) → has_bit 0 i ≡ false
unfolding has_bit
no_bit i = ap (λ n. n == 1) (bit_at-zero i)

-- where a bit is set, the word is above 0
pub some_bit : (word i : ℕ) → has_bit word i ≡ true → 0 < word
some_bit word i on = elim (cases_lt 0 word) [
  | inl some ↦ some
  | inr none ↦ absurd (clash (has_bit word i) on (ap (λ n. has_bit n i) (omega arith) ∙ no_bit i))
]

-- without a bit from a place on
pub none_from : (word k : ℕ) → k ≤ 64 → bit_and word (ones_from k) ≡ 0 → (i : ℕ) → k ≤ i → i < 64
    → has_bit word i ≡ false
none_from word k le none i low high = sym (bit-from_high word k i low high)
    ∙ go (has_bit (bit_and word (ones_from k)) i) refl
  where
    go : (b : Bool) → has_bit (bit_and word (ones_from k)) i ≡ b → b ≡ false
    go false is = refl
    go true is = let some = some_bit (bit_and word (ones_from k)) i is in absurd (omega arith)

-- what `first_from` finds
pub found_from : (word k : ℕ) → k < 64 → word < 2 ^ 64
    → count_trailing_zeros 64 (bit_and word (ones_from k)) < 64
    → (k ≤ count_trailing_zeros 64 (bit_and word (ones_from k)))
    × (has_bit word (count_trailing_zeros 64 (bit_and word (ones_from k))) ≡ true)
found_from word k short fit some =
    let x : ℕ = bit_and word (ones_from k) in
    elim (cases_lt 0 x) [
      | inl above ↦ let found = lowest_from word k short fit above in (found.0, found.2)
      | inr none ↦ absurd (omega (
        arith,
        some,
        ap (count_trailing_zeros 64) (zero_of x none) ∙ trailing_of_zero 64,
      ))
    ]

pub before_from : (word k : ℕ) → k < 64 → word < 2 ^ 64 → (i : ℕ) → k ≤ i
    → i < count_trailing_zeros 64 (bit_and word (ones_from k)) → i < 64 → has_bit word i ≡ false
before_from word k short fit i low high below =
    let x : ℕ = bit_and word (ones_from k) in
    elim (cases_lt 0 x) [
      | inl above ↦ let found = lowest_from word k short fit above in found.3 i low high
      | inr none ↦ none_from word k (omega arith) (omega arith) i low below
    ]

-- of `n >> k`
pub bit-shr : (n k i : ℕ) → has_bit (n / 2 ^ k) i ≡ has_bit n (k + i)
unfolding has_bit
bit-shr n k i = ap (λ x. x % 2 == 1) (shr-shr n k i)

-- past the word's end
pub bit-above : (n i : ℕ) → n < 2 ^ 64 → 64 ≤ i → has_bit n i ≡ false
unfolding has_bit
bit-above n i fit le = ap (λ x. x == 1) (bit_at_above n 64 i fit le)

-- one less than a number: below its lowest bit all are set, that bit is not, and those above stay
pub one_less : (j b k : ℕ) → has_bit b j ≡ true → ((i : ℕ) → i < j → has_bit b i ≡ false)
    → (k < j → has_bit (b - 1) k ≡ true) × (k ≡ j → has_bit (b - 1) k ≡ false)
    × (j < k → has_bit (b - 1) k ≡ has_bit b k)
one_less zero b zero on low =
    let odd : b % 2 ≡ 1 = eqb-true _ _ (sym (has-zero b) ∙ on) in
    let even : (b - 1) % 2 ≡ 0 = omega arith in (
      λ lt. absurd (omega arith),
      λ is. has-zero (b - 1) ∙ ap (λ r. r == 1) even,
      λ lt. absurd (omega arith),
    )
one_less zero b (suc m) on low =
    let odd : b % 2 ≡ 1 = eqb-true _ _ (sym (has-zero b) ∙ on) in
    let half : (b - 1) / 2 ≡ b / 2 = omega arith in (
      λ lt. absurd (omega arith),
      λ is. absurd (omega arith),
      λ lt. has-suc (b - 1) m ∙ ap (λ n. has_bit n m) half ∙ sym (has-suc b m),
    )
one_less (suc n) b zero on low =
    let some : 0 < b = some_bit b (suc n) on in
    let even : b % 2 ≡ 0 =
    bit_cases (λ r. (r == 1) ≡ false → r ≡ 0) (λ off. refl) (λ off. absurd (cc)) (b % 2)
    (mod-lt b (zero-lt-suc 1)) (sym (has-zero b) ∙ low 0 (omega arith)) in
    let odd : (b - 1) % 2 ≡ 1 = omega arith in (
      λ lt. has-zero (b - 1) ∙ ap (λ r. r == 1) odd,
      λ is. absurd (omega arith),
      λ lt. absurd (omega arith),
    )
one_less (suc n) b (suc m) on low =
    let some : 0 < b = some_bit b (suc n) on in
    let even : b % 2 ≡ 0 =
    bit_cases (λ r. (r == 1) ≡ false → r ≡ 0) (λ off. refl) (λ off. absurd (cc)) (b % 2)
    (mod-lt b (zero-lt-suc 1)) (sym (has-zero b) ∙ low 0 (omega arith)) in
    let half : (b - 1) / 2 ≡ b / 2 - 1 = omega arith in
    let more =
    one_less n (b / 2) m (sym (has-suc b n) ∙ on) (λ i lt. sym (has-suc b i)
    ∙ low (suc i) (omega arith)) in
    let there : has_bit (b - 1) (suc m) ≡ has_bit (b / 2 - 1) m =
    has-suc (b - 1) m ∙ ap (λ n. has_bit n m) half in (
      λ lt. there ∙ more.0 (omega arith),
      λ is. there ∙ more.1 (omega arith),
      λ lt. there ∙ more.2 (omega arith) ∙ sym (has-suc b m),
    )
