-- The text of a rank: what the table of orders makes of its signs.
use Rattle.std.proofs.Common.{cond, drop, eqb, map, take, w8}
use Rattle.std.proofs.Math.Seq.{drop-append_seam, take-append-add}
use Rattle.std.proofs.lemmas.List.{ext_get_or, get_or-append-add, get_or-append_right, get_or-map}
use Rattle.std.proofs.lemmas.List.{get_or_append_left, length-drop, length-take, map-append}
use Rattle.std.proofs.lemmas.List.{take-append-le, take-map, take-take}
use Rattle.std.proofs.lemmas.Simd.{Each1-chunk, Each1-get_or, bitmask_splat, get_or-chunk}
use Rattle.std.proofs.lemmas.Simd.{get_or-swz_l_below, length-chunk, length-swz_l, mask_l-lt}
use Rattle.std.proofs.lemmas.Simd.{pick_l-range_with_len, swz_l}
use Rattle.std.specs.List.{range_with_len}
use Rattle.std.specs.Simd.Lanes.{Each1, chunk, mask_l, pick_l, top, zip2}
use Rattle.std.specs.String.Boundary.{IsSplitPoint}
use Rattle.chess.proofs.Common.{◌≡◌, ◌<◌, ◌≤◌, ◌+◌, ◌-◌, ◌*◌, ◌/◌, ◌%◌, ◌^◌, ◌==◌, ◌&&◌, ℕ, zero}
use Rattle.chess.proofs.Common.{suc, Bool, true, false, List, [], ◌∷◌, ◌++◌, length, length-append}
use Rattle.chess.proofs.Common.{length-map, get_or, replicate, codes, ap, refl, sym, subst, ◌∙◌}
use Rattle.chess.proofs.Common.{arith, Option, Some, None, Man, Placement, man_at, man_letter, row}
use Rattle.chess.proofs.Common.{spelled_from, letter_on, AreLetters, agree_below, agree_below_at}
use Rattle.chess.proofs.Common.{and_parts, ltb, ltb-true, nat_eq, eqb-true, ne_eqb, false≢true}
use Rattle.chess.specs.Private.FenTextWords.{digit_of, rank_text, rank_signs, empty_set, in_order}
use Rattle.chess.specs.declared.fen.write.rank_orders.TheConstants.{LENGTHS, ORDERS}
use Rattle.chess.proofs.LetterFacts.{letter_high}
use Rattle.chess.proofs.MarkFacts.{letter_ascii}

-- ---- the table

-- the order of the signs of squares from a file on, after a run of so many empty ones, where true
-- is an empty square
abbrev run_order : ℕ → List ℕ
run_order zero = []
run_order (suc n) = (8 + n) ∷ []

abbrev order_from : ℕ → ℕ → List Bool → List ℕ
order_from file n [] = run_order n
order_from file n (true ∷ squares) = order_from (file + 1) (n + 1) squares
order_from file n (false ∷ squares) = run_order n ++ file ∷ order_from (file + 1) 0 squares

-- the lowest so many bits of a number
abbrev bits_of : ℕ → ℕ → List Bool
bits_of zero m = []
bits_of (suc n) m = (m % 2 == 1) ∷ bits_of n (m / 2)

bits_of-mask : (bits : List Bool) → bits_of (length bits) (mask_l bits) ≡ bits
bits_of-mask [] = refl
bits_of-mask (true ∷ bits) =
    let m = mask_l bits in
    let low : (1 + 2 * m) % 2 ≡ 1 = omega arith in
    let rest : (1 + 2 * m) / 2 ≡ m = omega arith in
    ap (λ n. (n == 1) ∷ bits_of (length bits) ((1 + 2 * m) / 2)) low
    ∙ ap (λ n. true ∷ bits_of (length bits) n) rest ∙ ap (λ b. true ∷ b) (bits_of-mask bits)
bits_of-mask (false ∷ bits) =
    let m = mask_l bits in
    let low : (0 + 2 * m) % 2 ≡ 0 = omega arith in
    let rest : (0 + 2 * m) / 2 ≡ m = omega arith in
    ap (λ n. (n == 1) ∷ bits_of (length bits) ((0 + 2 * m) / 2)) low
    ∙ ap (λ n. false ∷ bits_of (length bits) n) rest ∙ ap (λ b. false ∷ b) (bits_of-mask bits)

abbrev same_places : List ℕ → List ℕ → Bool
same_places [] [] = true
same_places [] (y ∷ ys) = false
same_places (x ∷ xs) [] = false
same_places (x ∷ xs) (y ∷ ys) = nat_eq x y && same_places xs ys

same_places-true : (xs ys : List ℕ) → same_places xs ys ≡ true → xs ≡ ys
same_places-true [] [] e = refl
same_places-true [] (y ∷ ys) e = absurd (false≢true e)
same_places-true (x ∷ xs) [] e = absurd (false≢true e)
same_places-true (x ∷ xs) (y ∷ ys) e =
    let parts = and_parts (nat_eq x y) (same_places xs ys) e in
    rw (eqb-true x y parts.0, same_places-true xs ys parts.1) refl

abbrev are_low : List ℕ → Bool
are_low [] = true
are_low (x ∷ xs) = ltb x 16 && are_low xs

are_low-true : (xs : List ℕ) → are_low xs ≡ true → Each1 (λ place. place < 16) xs
are_low-true [] e = tt
are_low-true (x ∷ xs) e =
    let parts = and_parts (ltb x 16) (are_low xs) e in
    (ltb-true x 16 parts.0, are_low-true xs parts.1)

abbrev is_right : ℕ → Bool
is_right m = same_places (take (get_or LENGTHS m 0) (get_or ORDERS m []))
    (order_from 0 0 (bits_of 8 m))
    && (are_low (get_or ORDERS m []) && ltb (get_or LENGTHS m 0) 9)

all_right : agree_below is_right (λ _. true) 256 ≡ true
all_right = refl

record IsOrder (empty : List Bool) (order : List ℕ) (count : ℕ) : Type 0 where
  pub same : take count order ≡ order_from 0 0 empty
  pub low : Each1 (λ place. place < 16) order
  pub short : count ≤ 8

order_at : (empty : List Bool) → length empty ≡ 8
    → IsOrder empty (get_or ORDERS (mask_l empty) []) (get_or LENGTHS (mask_l empty) 0)
order_at empty size =
    let m = mask_l empty in
    let below : m < 256 = subst (λ n. m < 2 ^ n) size (mask_l-lt empty) in
    let parts = and_parts _ _ (agree_below_at is_right (λ _. true) 256 m all_right below) in
    let more = and_parts _ _ parts.1 in
    let less = ltb-true _ _ more.1 in
    record {
      same = same_places-true _ _ parts.0
          ∙ ap (order_from 0 0) (ap (λ n. bits_of n m) (sym size) ∙ bits_of-mask empty);
      low = are_low-true _ more.0;
      short = omega arith;
    }

-- ---- the signs in their order

abbrev digits : List ℕ
digits = codes "12345678"

abbrev signs_of : List (Option Man) → List ℕ
signs_of squares = map letter_on squares ++ digits

abbrev is_empty : Option Man → Bool
is_empty o = letter_on o == 0

-- of a look at signs, where those from the 8th on are the digits
spelled_run : (look : ℕ → ℕ) → ((n : ℕ) → n < 8 → look (8 + n) ≡ 48 + suc n) → (n : ℕ) → n ≤ 8
    → map look (run_order n) ≡ digit_of n
spelled_run look digit zero h = refl
spelled_run look digit (suc n) h = ap (λ b. b ∷ []) (digit n (omega arith))

spelled_in_order : (look : ℕ → ℕ) → ((n : ℕ) → n < 8 → look (8 + n) ≡ 48 + suc n)
    → (squares : List (Option Man)) (file n : ℕ) → n + length squares ≤ 8
    → ((i : ℕ) → i < length squares → look (file + i) ≡ letter_on (get_or squares i None))
    → map look (order_from file n (map is_empty squares)) ≡ spelled_from n squares
spelled_in_order look digit [] file n h each = spelled_run look digit n (omega arith)
spelled_in_order look digit (None ∷ squares) file n h each =
    spelled_in_order look digit squares (file + 1) (n + 1) (omega arith)
    (λ i below. let next : (file + 1) + i ≡ file + suc i = omega arith in
    ap look next ∙ each (suc i) (omega arith))
spelled_in_order look digit (Some man ∷ squares) file n h each =
    let high = letter_high man.side man.kind in
    let first : file ≡ file + 0 = omega arith in
    let here : look file ≡ man_letter man = ap look first ∙ each 0 (omega arith) in
    let rest = spelled_in_order look digit squares (file + 1) 0 (omega arith)
    (λ i below. let next : (file + 1) + i ≡ file + suc i = omega arith in
    ap look next ∙ each (suc i) (omega arith)) in
    ap (λ b. map look (order_from file n (b ∷ map is_empty squares))) (ne_eqb (man_letter man) 0
    (λ e. omega arith))
    ∙ map-append look (run_order n) (file ∷ order_from (file + 1) 0 (map is_empty squares))
    ∙ rw (spelled_run look digit n (omega arith), here, rest) refl

digits_fit : agree_below (λ n. nat_eq (get_or digits n 0) (48 + suc n)) (λ _. true) 8 ≡ true
digits_fit = refl

spelled : (squares : List (Option Man)) (order : List ℕ) (count : ℕ) → length squares ≡ 8
    → IsOrder (map is_empty squares) order count
    → take count (in_order (signs_of squares) order) ≡ spelled_from 0 squares
spelled squares order count size right =
    let look : ℕ → ℕ = λ place. get_or (signs_of squares) place 0 in
    let letters = map letter_on squares in
    let long : length letters ≡ 8 = length-map squares letter_on ∙ size in
    take-map look count order ∙ ap (map look) right.same
    ∙ spelled_in_order look
    (λ n below. get_or-append_right letters digits 8 (8 + n) 0 long (omega arith)
    ∙ ap (λ k. get_or digits k 0) (omega arith)
    ∙ eqb-true _ _ (agree_below_at (λ n. nat_eq (get_or digits n 0) (48 + suc n)) (λ _.
    true) 8 n digits_fit below))
    squares 0 0 (omega arith)
    (λ i below. let same : 0 + i ≡ i = omega arith in
    ap look same ∙ get_or_append_left letters digits 0 i (omega arith)
    ∙ get_or-map letter_on squares i None 0 below)

ascii_signs : (squares : List (Option Man)) → Each1 (λ b. b < 128) (signs_of squares)
ascii_signs [] = (
  omega arith,
  (
    omega arith,
    (
      omega arith,
      (
        omega arith,
        (
          omega arith,
          (
            omega arith,
            (
              omega arith,
              (omega arith, tt),
            ),
          ),
        ),
      ),
    ),
  ),
)
ascii_signs (o ∷ squares) = (letter_ascii o, ascii_signs squares)

ascii_in_order : (signs order : List ℕ) → length signs ≡ 16 → Each1 (λ b. b < 128) signs
    → Each1 (λ place. place < 16) order → Each1 (λ b. b < 128) (in_order signs order)
ascii_in_order signs [] size ascii low = tt
ascii_in_order signs (place ∷ order) size ascii low = (
  Each1-get_or (λ b. b < 128) signs place 0 (omega (arith, low.0)) ascii,
  ascii_in_order signs order size ascii low.1,
)

-- ---- the order of a rank

-- so many squares of a rank, from that file on
abbrev squares_from : Placement → ℕ → ℕ → ℕ → List (Option Man)
squares_from p rank file zero = []
squares_from p rank file (suc n) = man_at p (record { file = file; rank = rank })
    ∷ squares_from p rank (file + 1) n

square_from : (p : Placement) (rank file n i : ℕ) → i < n
    → get_or (squares_from p rank file n) i None
    ≡ man_at p (record { file = file + i; rank = rank })
square_from p rank file zero i below = absurd (omega arith)
square_from p rank file (suc n) zero below =
    let same : file ≡ file + 0 = omega arith in
    ap (λ f. man_at p (record { file = f; rank = rank })) same
square_from p rank file (suc n) (suc i) below =
    let same : (file + 1) + i ≡ file + suc i = omega arith in
    square_from p rank (file + 1) n i (omega arith)
    ∙ ap (λ f. man_at p (record { file = f; rank = rank })) same

-- a table of the letters has those of the rank
letters_of_rank : (p : Placement) (letters : List ℕ) (rank : ℕ) → length letters ≡ 72
    → (1 ≤ rank) × (rank ≤ 8) → AreLetters p letters
    → chunk (8 * (rank - 1)) 8 letters ≡ map letter_on (row p rank)
letters_of_rank p letters rank size on_board lettered =
    let start = 8 * (rank - 1) in
    let long : length (chunk start 8 letters) ≡ 8 = length-chunk start 8 letters (omega arith) in
    ext_get_or 0 (chunk start 8 letters) (map letter_on (row p rank)) long (λ i within.
    let below : i < 8 = omega arith in
    let place : start + i ≡ start + ((1 + i) - 1) = omega arith in
    get_or-chunk start 8 letters i 0 below ∙ ap (λ k. get_or letters k 0) place
    ∙ lettered (record { file = 1 + i; rank = rank }) (record {
      file_low = omega arith;
      file_high = omega arith;
      rank_low = on_board.0;
      rank_high = on_board.1;
    })
    ∙ ap letter_on (sym (square_from p rank 1 8 i below))
    ∙ sym (get_or-map letter_on (row p rank) i None 0 below))

-- what the table of orders has for the empty squares of a rank
pub record IsRankOrder (p : Placement) (rank m : ℕ) (signs order : List ℕ) (count : ℕ) : Type 0
  where
    pub below : m < 256
    pub low : Each1 (λ place. place < 16) order
    pub short : count ≤ 8
    pub ascii : Each1 (λ b. b < 128) (in_order signs order)
    pub text : take count (in_order signs order) ≡ rank_text p rank

pub rank_order : (p : Placement) (letters signs : List ℕ) (rank m : ℕ) → length letters ≡ 72
    → (1 ≤ rank) × (rank ≤ 8) → AreLetters p letters → signs ≡ rank_signs letters rank
    → m ≡ empty_set signs
    → IsRankOrder p rank m signs (get_or ORDERS m []) (get_or LENGTHS m 0)
rank_order p letters signs rank m size on_board lettered made set =
    let squares = row p rank in
    let same : signs ≡ signs_of squares =
    made ∙ ap (λ x. x ++ digits) (letters_of_rank p letters rank size on_board lettered) in
    let right = order_at (map is_empty squares) refl in
    rw (set, same) (record {
      below = mask_l-lt (map is_empty squares);
      low = right.low;
      short = right.short;
      ascii = ascii_in_order (signs_of squares) _ refl (ascii_signs squares) right.low;
      text = spelled squares _ _ refl right;
    })

-- ---- eight bytes that are appended, and those that are too many taken off

pub splits : (before bytes after : List ℕ) (start count : ℕ) → Each1 (λ b. b < 128) bytes
    → after ≡ before ++ take 8 bytes → start ≡ length before → start + count ≤ length after
    → IsSplitPoint after (start + count)
splits before bytes after start count ascii pushed begun within = (
  within,
  λ low below high.
      let more = ap length pushed ∙ length-append before (take 8 bytes) in
      let byte : get_or after (start + count) 0 ≡ get_or (take 8 bytes) count 0 =
      rw (pushed, begun) (get_or-append-add before (take 8 bytes) count 0) in
      let small = Each1-get_or (λ b. b < 128) (take 8 bytes) count 0 (omega arith)
      (Each1-chunk (λ b. b < 128) 0 8 bytes ascii) in
      absurd (omega arith),
)

pub cut_text : (before bytes after last text : List ℕ) (start count : ℕ) → count ≤ 8
    → after ≡ before ++ take 8 bytes → start ≡ length before → last ≡ take (start + count) after
    → take count bytes ≡ text → last ≡ before ++ text
cut_text before bytes after last text start count short pushed begun cut is =
    cut ∙ rw (pushed, begun) (take-append-add before (take 8 bytes) count)
    ∙ ap (λ x. before ++ x) (take-take count 8 bytes short ∙ is)

-- ---- vectors

pub swizzled : (signs order : List ℕ) → length order ≡ 16 → Each1 (λ place. place < 16) order
    → swz_l w8 16 signs 0 order ≡ in_order signs order
swizzled signs order size low =
    let long = length-swz_l w8 16 signs 0 order in
    ext_get_or 0 (swz_l w8 16 signs 0 order) (in_order signs order)
    (long ∙ sym (length-map order (λ place. get_or signs place 0))) (λ i within.
    let below : i < length order = omega arith in
    let place = Each1-get_or (λ place. place < 16) order i 0 below low in
    let same : 16 * ((0 + i) / 16) + get_or order i 0 ≡ get_or order i 0 = omega arith in
    get_or-swz_l_below w8 16 signs 0 order i below place ∙ ap (λ k. get_or signs k 0) same
    ∙ sym (get_or-map (λ place. get_or signs place 0) order i 0 0 below))

pub empties : (signs : List ℕ) → length signs ≡ 16
    → mask_l (map (top 7) (zip2 (λ a b. cond (eqb a b) 255 0) signs (replicate 16 0))) % 2 ^ 64
    ≡ empty_set signs
empties signs size = bitmask_splat w8 eqb signs 16 0 size (omega arith)

-- the signs of a rank, of 16 letters of the table from its first on
signs_from : (near : List ℕ) → length near ≡ 16
    → pick_l 0 (near ++ (digits ++ digits)) (range_with_len 0 8 ++ range_with_len 16 8)
    ≡ take 8 near ++ digits
signs_from near size =
    let all = near ++ (digits ++ digits) in
    let whole : length all ≡ 32 = length-append near (digits ++ digits) ∙ ap (λ n. n + 16) size in
    let seam : drop 16 all ≡ digits ++ digits =
    subst (λ n. drop n all ≡ digits ++ digits) size (drop-append_seam near (digits ++ digits)) in
    map-append (λ k. get_or all k 0) (range_with_len 0 8) (range_with_len 16 8)
    ∙ ap (λ x. x ++ pick_l 0 all (range_with_len 16 8)) (pick_l-range_with_len 0 all 0 8
    (omega arith)
    ∙ take-append-le 8 near (digits ++ digits) (omega arith))
    ∙ ap (λ x. take 8 near ++ x) (pick_l-range_with_len 0 all 16 8 (omega arith)
    ∙ ap (take 8) seam)

pub signs_at : (start : ℕ) (letters : List ℕ) → length letters ≡ 72 → start ≤ 56
    → pick_l 0 (chunk 0 16 (take (72 - start) (drop start letters)) ++ (digits ++ digits))
    (range_with_len 0 8 ++ range_with_len 16 8)
    ≡ chunk start 8 letters ++ digits
signs_at start letters size low =
    let part = take (72 - start) (drop start letters) in
    let rest = length-drop start letters in
    let long = length-take (72 - start) (drop start letters) in
    signs_from (chunk 0 16 part) (length-chunk 0 16 part (omega arith))
    ∙ ap (λ x. x ++ digits) (take-take 8 16 part (omega arith)
    ∙ take-take 8 (72 - start) (drop start letters) (omega arith))
