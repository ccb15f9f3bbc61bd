-- What the words of a sweep over a comment show.
use Rattle.std.proofs.Common.{◌≡◌, ℕ, zero, suc, ◌+◌, ◌-◌, ◌%◌, ◌^◌, ◌<◌, ◌≤◌, Bool, true}
use Rattle.std.proofs.Common.{false, not, ◌&&◌, ◌||◌, ◌==◌, cond, eqb, List, [], ◌∷◌, length, map}
use Rattle.std.proofs.Common.{get_or, refl, sym, ap, ap₂, ◌∙◌, arith, bit_or, bit_and}
use Rattle.std.proofs.Common.{inl, inr, ◌++◌, drop, replicate, Option, Some, None}
use Rattle.std.proofs.lemmas.Bool.{cases_lt}
use Rattle.std.proofs.lemmas.Grind.{get_or_default_zero}
use Rattle.std.proofs.lemmas.List.{get_or-map, get_or_past, get_or_append_left, get_or-drop}
use Rattle.std.proofs.lemmas.List.{get_or-append_right, get_or-replicate, length-map}
use Rattle.std.proofs.lemmas.Simd.{map-map}
use Rattle.std.proofs.lemmas.Nat.{leading_top}
use Rattle.std.proofs.lemmas.Nat.Bits.{bit_at-zero, bit_at_above}
use lib.Lanes.{mask_l, top}
use lib.Count.{count_leading_zeros}
use Rattle.pgn_text.specs.Shared.Lanes.{has_bit, AreLanes}
use Rattle.pgn_text.proofs.Bits.{bit-mod, bit-mask_l, bit-or, bit-and, bit-shl_one, shl, neither}
use Rattle.pgn_text.proofs.Bits.{highest_bit, clash}
use Rattle.pgn_text.proofs.Lanes.{hit}
use Rattle.pgn_game.specs.Private.EvenComments.{is_odd, follows, reads_on, AreBlanks, IsLastBit}
use Rattle.pgn_game.specs.Private.EvenComments.{IsLastBlank}

-- a mask whose lanes agree with a test, whatever byte is sought
each_lane : (n : ℕ) → n ≤ 64 → (f : ℕ → ℕ) (p : ℕ → Bool) (v z : List ℕ)
    → length v ≡ n → z ≡ map f v → ((x : ℕ) → top 7 (f x) ≡ p x)
    → AreLanes n p v (mask_l (map (top 7) z) % 2 ^ 64)
each_lane n short f p v z long e same i h =
    bit-mod _ i (omega arith) ∙ bit-mask_l (map (top 7) z) i
    ∙ ap (λ l. get_or l i false) (ap (map (top 7)) e ∙ map-map (top 7) f v)
    ∙ get_or-map (λ x. top 7 (f x)) v i 0 false (omega (arith, long))
    ∙ same (get_or v i 0)

top_of : (t : Bool) → top 7 (cond t 255 0) ≡ t
top_of true = refl
top_of false = refl

pub hit_lanes : (n : ℕ) → n ≤ 64 → (byte : ℕ) (v z : List ℕ) → length v ≡ n
    → z ≡ map (λ x. hit x byte) v
    → AreLanes n (λ b. b == byte) v (mask_l (map (top 7) z) % 2 ^ 64)
hit_lanes n short byte v z long e =
    each_lane n short (λ x. hit x byte) (λ b. b == byte) v z long e (λ x. top_of (eqb x byte))

-- a mask has no bit past its lanes
pub past_lanes : (n : ℕ) (f : ℕ → ℕ) (v z : List ℕ) → length v ≡ n → z ≡ map f v → (i : ℕ) → n ≤ i
    → i < 64 → has_bit (mask_l (map (top 7) z) % 2 ^ 64) i ≡ false
past_lanes n f v z long e i past h =
    bit-mod _ i h ∙ bit-mask_l (map (top 7) z) i
    ∙ get_or_past (map (top 7) z) i false
    (omega (arith, past, length-map z (top 7), ap length e, length-map v f, long))

-- ---- bytes that may not stand where they do

abbrev pub stray_bits : ℕ → ℕ → ℕ → ℕ → ℕ → ℕ
stray_bits odd blanks percents brackets letters =
    bit_or (bit_or odd (bit_and (bit_or (shl 1 blanks) 1) (bit_or blanks percents)))
    (bit_and (shl 1 brackets) letters)

stray_parts : (o b p k l i : ℕ) → has_bit (stray_bits o b p k l) i ≡ false
    → (has_bit o i ≡ false)
    × (((has_bit (shl 1 b) i || has_bit 1 i) && (has_bit b i || has_bit p i)) ≡ false)
    × ((has_bit (shl 1 k) i && has_bit l i) ≡ false)
stray_parts o b p k l i off =
    let begins = bit_or (shl 1 b) 1 in
    let two =
    neither _ _
    (sym (bit-or (bit_or o (bit_and begins (bit_or b p))) (bit_and (shl 1 k) l) i) ∙ off) in
    let one = neither _ _ (sym (bit-or o (bit_and begins (bit_or b p)) i) ∙ two.0) in (
      one.0,
      ap (λ x. x && (has_bit b i || has_bit p i)) (sym (bit-or (shl 1 b) 1 i))
          ∙ ap (λ x. has_bit begins i && x) (sym (bit-or b p i))
          ∙ sym (bit-and begins (bit_or b p) i) ∙ one.1,
      sym (bit-and (shl 1 k) l i) ∙ two.1,
    )

one_is : has_bit 1 0 ≡ true
unfolding has_bit
one_is = refl

or_true : (a : Bool) → (a || true) ≡ true
or_true true = refl
or_true false = refl

pub first_stray : (o b p k l : ℕ) → has_bit (stray_bits o b p k l) 0 ≡ false
    → (has_bit o 0 ≡ false) × ((has_bit b 0 || has_bit p 0) ≡ false)
first_stray o b p k l off =
    let parts = stray_parts o b p k l 0 off in (
      parts.0,
      ap (λ x. x && (has_bit b 0 || has_bit p 0)) (sym (ap (λ x. has_bit (shl 1 b) 0 || x) one_is
          ∙ or_true (has_bit (shl 1 b) 0))) ∙ parts.1,
    )

weaker : (a c x : Bool) → ((a || c) && x) ≡ false → (a && x) ≡ false
weaker true c x off = off
weaker false c x off = refl

pub next_stray : (o b p k l i : ℕ) → suc i < 64 → has_bit (stray_bits o b p k l) (suc i) ≡ false
    → (has_bit o (suc i) ≡ false)
    × ((has_bit b i && (has_bit b (suc i) || has_bit p (suc i))) ≡ false)
    × ((has_bit k i && has_bit l (suc i)) ≡ false)
next_stray o b p k l i lt off =
    let parts = stray_parts o b p k l (suc i) off in (
      parts.0,
      weaker (has_bit b i) (has_bit 1 (suc i)) (has_bit b (suc i) || has_bit p (suc i))
          (ap (λ x. (x || has_bit 1 (suc i)) && (has_bit b (suc i) || has_bit p (suc i)))
          (sym (bit-shl_one i b lt)) ∙ parts.1),
      ap (λ x. x && has_bit l (suc i)) (sym (bit-shl_one i k lt)) ∙ parts.2,
    )

pub no_bit : (word i : ℕ) → word ≡ 0 → has_bit word i ≡ false
unfolding has_bit
no_bit word i none = ap (λ n. has_bit n i) none ∙ ap (λ n. n == 1) (bit_at-zero i)

-- ---- a text in which each byte may stand where it does

follows_first : (b : ℕ) → is_odd b ≡ false → (b == 32 || b == 37) ≡ false → follows 32 b ≡ true
follows_first b even other = rw even (rw other refl)

follows_next : (p b : ℕ) → is_odd b ≡ false → (p == 32 && (b == 32 || b == 37)) ≡ false
    → (p == 91 && b == 69) ≡ false → follows p b ≡ true
follows_next p b even other no_event = rw even (rw other (rw no_event refl))

ends : (t : Bool) → (not (t && true) && true) ≡ true → not t ≡ true
ends true on = on
ends false on = refl

and_false : (a : Bool) → (a && false) ≡ false
and_false true = refl
and_false false = refl

pub read_all : (p : ℕ) (text : List ℕ)
    → ((i : ℕ) → i < length text + 1 → follows (get_or (p ∷ text) i 37) (get_or text i 37) ≡ true)
    → reads_on p text ≡ true
read_all p [] each =
    let last = each 0 (omega arith) in
    ends (p == 32) (ap (λ x. not (p == 32 && true) && not x) (sym (and_false (p == 91))) ∙ last)
read_all p (b ∷ text) each =
    let first : follows p b ≡ true = each 0 (omega arith) in
    let rest : reads_on b text ≡ true =
    read_all b text (λ i lt. each (suc i) (omega arith)) in
    rw first (rw rest refl)

-- ---- the last bit

bit_over : (n k i : ℕ) → n < 2 ^ k → k ≤ i → has_bit n i ≡ false
unfolding has_bit
bit_over n k i fit le = ap (λ x. x == 1) (bit_at_above n k i fit le)

pub last_is : (word bits end : ℕ) → 0 < bits → bits < 2 ^ 64
    → ((i : ℕ) → i < end → i < 64 → has_bit bits i ≡ has_bit word i)
    → ((i : ℕ) → end ≤ i → i < 64 → has_bit bits i ≡ false) → (place : ℕ)
    → place ≡ 63 - count_leading_zeros 64 bits
    → (place < 64) × (place < end) × (has_bit word place ≡ true)
    × ((i : ℕ) → place < i → i < end → i < 64 → has_bit word i ≡ false)
last_is word bits end some fit low high place is =
    let found = highest_bit bits some fit in
    let size = leading_top 64 bits some fit in
    let here : place ≡ found.0 = omega (arith, is, found.1) in
    let there : place ≡ size.0 = omega (arith, is, size.1) in
    let on : has_bit bits place ≡ true = ap (has_bit bits) here ∙ found.2 in
    let short : place < 64 = omega (arith, here, found.1) in
    let before : place < end = elim (cases_lt place end) [
      | inl lt ↦ lt
      | inr le ↦ absurd (clash (has_bit bits place) on (high place le short))
    ] in (
      short,
      before,
      sym (low place before short) ∙ on,
      λ i after lt small. sym (low i lt small)
          ∙ bit_over bits (suc size.0) i size.3 (omega (arith, after, there)),
    )

-- ---- the text in 64 bytes

pub padded_is : (n : ℕ) (text new : List ℕ) → new ≡ text → length text < n → (i : ℕ) → i < n
    → get_or (new ++ drop (length text) (replicate n 37)) i 0 ≡ get_or text i 37
padded_is n text new is short i lt =
    ap (λ xs. get_or (xs ++ drop (length text) (replicate n 37)) i 0) is
    ∙ elim (cases_lt i (length text)) [
      | inl inside ↦ get_or_append_left text (drop (length text) (replicate n 37)) 0 i inside
          ∙ sym (get_or_default_zero text i 37 inside)
      | inr past ↦
          get_or-append_right text (drop (length text) (replicate n 37)) (length text) i 0 refl
          past
          ∙ get_or-drop (length text) (replicate n 37) (i - length text) 0
          ∙ get_or-replicate n (length text + (i - length text)) 37 0 (omega (arith, lt, past))
          ∙ sym (get_or_past text i 37 past)
    ]

-- blanks are marked in all lanes, and past these the text has none
pub all_blanks : (n : ℕ) (text : List ℕ) (word : ℕ) → length text < n
    → ((i : ℕ) → i < n → has_bit word i ≡ (get_or text i 37 == 32))
    → ((i : ℕ) → n ≤ i → i < 64 → has_bit word i ≡ false) → AreBlanks text word
all_blanks n text word short lanes past i h = elim (cases_lt i n) [
  | inl here ↦ lanes i here
  | inr over ↦ past i over h
      ∙ sym (ap (λ b. b == 32) (get_or_past text i 37 (omega (arith, short, over))))
]

pub even_text : (n : ℕ) → n ≤ 64 → (text : List ℕ) (o b p k l found : ℕ) → length text < n
    → ((i : ℕ) → i < n → has_bit o i ≡ is_odd (get_or text i 37))
    → ((i : ℕ) → i < n → has_bit b i ≡ (get_or text i 37 == 32))
    → ((i : ℕ) → i < n → has_bit p i ≡ (get_or text i 37 == 37))
    → ((i : ℕ) → i < n → has_bit k i ≡ (get_or text i 37 == 91))
    → ((i : ℕ) → i < n → has_bit l i ≡ (get_or text i 37 == 69)) → found ≡ 0
    → (has_bit found 0 ≡ false → (has_bit o 0 ≡ false) × ((has_bit b 0 || has_bit p 0) ≡ false))
    → ((i : ℕ) → suc i < 64 → has_bit found (suc i) ≡ false
    → (has_bit o (suc i) ≡ false)
    × ((has_bit b i && (has_bit b (suc i) || has_bit p (suc i))) ≡ false)
    × ((has_bit k i && has_bit l (suc i)) ≡ false))
    → reads_on 32 text ≡ true
even_text n lanes text o b p k l found short odd blanks percents brackets letters none first
    next =
    read_all 32 text each
  where
    each : (i : ℕ) → i < length text + 1
        → follows (get_or (32 ∷ text) i 37) (get_or text i 37) ≡ true
    each zero lt =
        let here : 0 < n = omega (arith, short) in
        let at = first (no_bit found 0 none) in
        follows_first (get_or text 0 37) (sym (odd 0 here) ∙ at.0)
        (ap₂ (λ x y. x || y) (sym (blanks 0 here)) (sym (percents 0 here)) ∙ at.1)
    each (suc i) lt =
        let here : suc i < n = omega (arith, lt, short) in
        let before : i < n = omega (arith, here) in
        let at = next i (omega (arith, here, lanes)) (no_bit found (suc i) none) in
        follows_next (get_or text i 37) (get_or text (suc i) 37) (sym (odd (suc i) here) ∙ at.0)
        (ap₂ (λ x y. x && y) (sym (blanks i before))
        (ap₂ (λ x y. x || y) (sym (blanks (suc i) here)) (sym (percents (suc i) here))) ∙ at.1)
        (ap₂ (λ x y. x && y) (sym (brackets i before)) (sym (letters (suc i) here)) ∙ at.2)

-- ---- the last blank before a place

-- the bit that is found is the last blank of the text
pub last_blank : (text : List ℕ) (word end : ℕ) (found : Option ℕ) → length text < 64
    → AreBlanks text word → IsLastBit word end found → IsLastBlank text end found
last_blank text word end None short are none =
    λ i low lt. elim (cases_lt i 64) [
      | inl here ↦ sym (are i here) ∙ none i lt here
      | inr past ↦ ap (λ b. b == 32) (get_or_past text i 37 (omega arith))
    ]
last_blank text word end (Some place) short are (small, before, on, none) = (
  before,
  sym (are place small) ∙ on,
  λ i low lt. elim (cases_lt i 64) [
    | inl here ↦ sym (are i here) ∙ none i (omega (arith, low)) lt here
    | inr past ↦ ap (λ b. b == 32) (get_or_past text i 37 (omega arith))
  ],
)
