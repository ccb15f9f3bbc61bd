-- Lines of plies in a row: some and those after them, how long they are, and those of ten plies
-- beside those of the next ten.
use Rattle.std.proofs.Common.{◌≡◌, ℕ, zero, suc, ◌+◌, ◌-◌, ◌*◌, ◌/◌, ◌%◌, ◌^◌, ◌<◌, ◌≤◌, List, []}
use Rattle.std.proofs.Common.{◌∷◌, ◌++◌, length, take, get_or, set, decimal, sym, ap, ◌∙◌, arith}
use Rattle.std.proofs.Common.{append_assoc, append-nil, length-append, take_at}
use Rattle.std.proofs.Math.Seq.{get_or_at, set_at}
use Rattle.std.proofs.lemmas.Fmt.{decimal_step}
use Rattle.pgn_extract.specs.Private.Blockwise.{lines_from}
use Rattle.pgn_extract.proofs.NextLine.{next_digit, parted}

-- the line at a ply
abbrev line_at : List ℕ → ℕ → List ℕ
line_at mark ply = mark ++ 32 ∷ decimal ply ++ 10 ∷ []

-- how long a line is whose ply has so many tens
abbrev pub width : List ℕ → ℕ → ℕ
width mark tens = length mark + length (decimal tens) + 3

module _ (mark : List ℕ) where
  -- some lines, and those after them
  pub lines_joined : (ply count more : ℕ)
      → lines_from mark ply (count + more) ≡ lines_from mark ply count
      ++ lines_from mark (ply + count) more
  unfolding lines_from
  lines_joined ply zero more =
      let none : zero + more ≡ more = omega arith in
      let same : ply ≡ ply + zero = omega arith in
      ap (lines_from mark ply) none ∙ ap (λ n. lines_from mark n more) same
  lines_joined ply (suc count) more =
      let all : suc count + more ≡ suc (count + more) = omega arith in
      let next : ply + 1 + count ≡ ply + suc count = omega arith in
      ap (lines_from mark ply) all
      ∙ ap (λ t. line_at mark ply ++ t) (lines_joined (ply + 1) count more
      ∙ ap (λ n. lines_from mark (ply + 1) count ++ lines_from mark n more) next)
      ∙ sym (append_assoc (line_at mark ply) (lines_from mark (ply + 1) count)
      (lines_from mark (ply + suc count) more))

  -- some lines more
  pub lines_more : (from ply more : ℕ) → from ≤ ply → (before now next lines : List ℕ)
      → now ≡ before ++ lines_from mark from (ply - from) → lines ≡ lines_from mark ply more
      → next ≡ now ++ lines → next ≡ before ++ lines_from mark from (ply + more - from)
  lines_more from ply more above before now next lines written are added =
      let count = ply - from in
      let all : ply + more - from ≡ count + more = omega arith in
      let here : from + count ≡ ply = omega arith in
      added ∙ ap (λ t. t ++ lines) written ∙ append_assoc before (lines_from mark from count) lines
      ∙ ap (λ t. before ++ (lines_from mark from count ++ t)) (are
      ∙ ap (λ n. lines_from mark n more) (sym here))
      ∙ ap (λ t. before ++ t) (sym (lines_joined from count more)
      ∙ ap (lines_from mark from) (sym all))

  -- one line
  pub one_line : (ply : ℕ) → line_at mark ply ≡ lines_from mark ply 1
  unfolding lines_from
  one_line ply = sym (append-nil (line_at mark ply))

  -- at first there is none
  pub no_lines : (from : ℕ) (text : List ℕ) → text ≡ text ++ lines_from mark from (from - from)
  unfolding lines_from
  no_lines from text = let none : from - from ≡ 0 = omega arith in
      sym (ap (λ n. text ++ lines_from mark from n) none ∙ append-nil text)

  module _ (tens : ℕ) (some : 1 ≤ tens) (fits : tens ≤ 2 ^ 60) where
    -- it is the number of the tens, and a digit
    line_of_tens : (digit : ℕ) → digit < 10
        → line_at mark (10 * tens + digit) ≡ (mark ++ 32 ∷ decimal tens) ++ (48 + digit) ∷ 10 ∷ []
    line_of_tens digit less =
        let front : (10 * tens + digit) / 10 ≡ tens = omega arith in
        let last : (10 * tens + digit) % 10 ≡ digit = omega arith in
        ap (λ t. mark ++ 32 ∷ t ++ 10 ∷ [])
        (decimal_step (10 * tens + digit) (omega arith) (omega arith)
        ∙ ap (λ t. decimal t ++ (48 + (10 * tens + digit) % 10) ∷ []) front
        ∙ ap (λ d. decimal tens ++ (48 + d) ∷ []) last) ∙ parted mark (decimal tens) (48 + digit)

    line_length : (digit : ℕ) → digit < 10 → length (line_at mark (10 * tens + digit))
        ≡ width mark tens
    line_length digit less =
        ap length (line_of_tens digit less)
        ∙ length-append (mark ++ 32 ∷ decimal tens) ((48 + digit) ∷ 10 ∷ [])
        ∙ ap (λ n. n + 2) (length-append mark (32 ∷ decimal tens)) ∙ omega arith

    -- so many lines from one of them on
    pub lines_length : (digit count : ℕ) → digit + count ≤ 10
        → length (lines_from mark (10 * tens + digit) count) ≡ count * width mark tens
    unfolding lines_from
    lines_length digit zero within = omega arith
    lines_length digit (suc count) within =
        let ply = 10 * tens + digit in
        let next : ply + 1 ≡ 10 * tens + (digit + 1) = omega arith in
        length-append (line_at mark ply) (lines_from mark (ply + 1) count)
        ∙ ap (λ n. n + length (lines_from mark (ply + 1) count)) (line_length digit (omega arith))
        ∙ ap (λ n. width mark tens + n) (ap (λ n. length (lines_from mark n count)) next
        ∙ lines_length (digit + 1) count (omega arith)) ∙ omega arith

    -- ten of them
    pub ten_length : length (lines_from mark (10 * tens) 10) ≡ 10 * width mark tens
    ten_length =
        let same : 10 * tens ≡ 10 * tens + 0 = omega arith in
        ap (λ n. length (lines_from mark n 10)) same ∙ lines_length 0 10 (omega arith)

    -- of ten lines the first so many
    pub first_lines : (count : ℕ) → count ≤ 10
        → take (count * width mark tens) (lines_from mark (10 * tens) 10)
        ≡ lines_from mark (10 * tens) count
    first_lines count within =
        let all : 10 ≡ count + (10 - count) = omega arith in
        let same : 10 * tens ≡ 10 * tens + 0 = omega arith in
        ap (λ n. take (count * width mark tens) (lines_from mark (10 * tens) n)) all
        ∙ ap (take (count * width mark tens)) (lines_joined (10 * tens) count (10 - count))
        ∙ take_at (lines_from mark (10 * tens) count)
        (lines_from mark (10 * tens + count) (10 - count)) (count * width mark tens)
        (ap (λ n. length (lines_from mark n count)) same ∙ lines_length 0 count (omega arith))

-- of ten lines, so many that are changed to those of the next ten
abbrev pub mixed : List ℕ → ℕ → ℕ → List ℕ
mixed mark tens count = lines_from mark (10 * tens + 10) count
    ++ lines_from mark (10 * tens + count) (10 - count)

module _ (mark : List ℕ) (tens : ℕ) (some : 1 ≤ tens) (fits : tens < 2 ^ 60) (stays : tens % 10 ≡ 9
    → ⊥) where
  abbrev of : (front : List ℕ) × (decimal tens ≡ front ++ (48 + tens % 10) ∷ [])
      × (decimal (tens + 1) ≡ front ++ (48 + tens % 10 + 1) ∷ [])
  of = next_digit tens (omega arith) stays

  abbrev ahead : List ℕ
  ahead = mark ++ 32 ∷ of.0

  -- both tens have as many digits
  same_width : width mark (tens + 1) ≡ width mark tens
  same_width =
      let now = ap length of.1 ∙ length-append of.0 ((48 + tens % 10) ∷ []) in
      let next = ap length of.2 ∙ length-append of.0 ((48 + tens % 10 + 1) ∷ []) in
      omega arith

  module _ (count : ℕ) (less : count < 10) where
    -- what is changed, the byte that comes next, and what comes after its line
    abbrev changed : List ℕ
    changed = lines_from mark (10 * tens + 10) count

    abbrev digit : ℕ
    digit = 48 + tens % 10

    abbrev rest : List ℕ
    rest = lines_from mark (10 * tens + count + 1) (9 - count)

    -- a line by this byte
    by_digit : (front : List ℕ) (byte : ℕ) → (mark ++ 32 ∷ (front ++ byte ∷ [])) ++ (48 + count)
        ∷ 10 ∷ [] ≡ (mark ++ 32 ∷ front) ++ byte ∷ (48 + count) ∷ 10 ∷ []
    by_digit front byte =
        ap (λ t. t ++ (48 + count) ∷ 10 ∷ []) (sym (append_assoc mark (32 ∷ front) (byte ∷ [])))
        ∙ append_assoc (mark ++ 32 ∷ front) (byte ∷ []) ((48 + count) ∷ 10 ∷ [])

    line_now : line_at mark (10 * tens + count) ≡ ahead ++ digit ∷ (48 + count) ∷ 10 ∷ []
    line_now = line_of_tens mark tens some (omega arith) count less
        ∙ ap (λ t. (mark ++ 32 ∷ t) ++ (48 + count) ∷ 10 ∷ []) of.1 ∙ by_digit of.0 digit

    line_next : line_at mark (10 * tens + 10 + count)
        ≡ ahead ++ (digit + 1) ∷ (48 + count) ∷ 10 ∷ []
    line_next =
        let here : 10 * tens + 10 + count ≡ 10 * (tens + 1) + count = omega arith in
        ap (line_at mark) here ∙ line_of_tens mark (tens + 1) (omega arith) (omega arith) count less
        ∙ ap (λ t. (mark ++ 32 ∷ t) ++ (48 + count) ∷ 10 ∷ []) of.2 ∙ by_digit of.0 (digit + 1)

    -- a line among the others
    among : (line : List ℕ) (byte : ℕ) → line ≡ ahead ++ byte ∷ (48 + count) ∷ 10 ∷ []
        → changed ++ (line ++ rest) ≡ (changed ++ ahead) ++ byte ∷ (48 + count) ∷ 10 ∷ rest
    among line byte is =
        ap (λ t. changed ++ (t ++ rest)) is
        ∙ ap (λ t. changed ++ t) (append_assoc ahead (byte ∷ (48 + count) ∷ 10 ∷ []) rest)
        ∙ sym (append_assoc changed ahead (byte ∷ (48 + count) ∷ 10 ∷ rest))

    now_by_digit : mixed mark tens count ≡ (changed ++ ahead) ++ digit ∷ (48 + count) ∷ 10 ∷ rest
    unfolding lines_from
    now_by_digit =
        let left : 10 - count ≡ suc (9 - count) = omega arith in
        ap (λ n. changed ++ lines_from mark (10 * tens + count) n) left
        ∙ among (line_at mark (10 * tens + count)) digit line_now

    next_by_digit : mixed mark tens (count + 1)
        ≡ (changed ++ ahead) ++ (digit + 1) ∷ (48 + count) ∷ 10 ∷ rest
    unfolding lines_from
    next_by_digit =
        let left : 10 - (count + 1) ≡ 9 - count = omega arith in
        let here : 10 * tens + (count + 1) ≡ 10 * tens + count + 1 = omega arith in
        let line = line_at mark (10 * tens + 10 + count) in
        ap (λ n. lines_from mark (10 * tens + 10) (count + 1)
        ++ lines_from mark (10 * tens + (count + 1)) n) left
        ∙ ap (λ n. lines_from mark (10 * tens + 10) (count + 1)
        ++ lines_from mark n (9 - count)) here
        ∙ ap (λ t. t ++ rest) (lines_joined mark (10 * tens + 10) count 1
        ∙ ap (λ t. changed ++ t) (append-nil line))
        ∙ append_assoc changed line rest ∙ among line (digit + 1) line_next

    module _ (at : ℕ) (is : at + 3 ≡ length changed + width mark tens) where
      place : length (changed ++ ahead) ≡ at
      place =
          let size = ap length of.1 ∙ length-append of.0 (digit ∷ []) in
          let front = length-append mark (32 ∷ of.0) in
          let all = length-append changed ahead in
          omega arith

      pub place_within : at < length (mixed mark tens count)
      place_within =
          let size = ap length now_by_digit
          ∙ length-append (changed ++ ahead) (digit ∷ (48 + count) ∷ 10 ∷ rest) in
          let here = place in
          omega arith

      -- the digit of the tens stands there
      pub digit_there : (other : ℕ) → get_or (mixed mark tens count) at other ≡ digit
      digit_there other = ap (λ t. get_or t at other) now_by_digit
          ∙ get_or_at (changed ++ ahead) digit ((48 + count) ∷ 10 ∷ rest) other at place

      -- one more makes one more line one of the next ten
      pub one_more : set (mixed mark tens count) at (digit + 1) ≡ mixed mark tens (count + 1)
      one_more =
          ap (λ t. set t at (digit + 1)) now_by_digit
          ∙ set_at (changed ++ ahead) digit ((48 + count) ∷ 10 ∷ rest) (digit + 1) at place
          ∙ sym next_by_digit

      -- and the digit of the line after it stands one width further on
      pub next_place : at + width mark tens + 3
          ≡ length (lines_from mark (10 * tens + 10) (count + 1)) + width mark tens
      next_place =
          let tens_next : 10 * tens + 10 ≡ 10 * (tens + 1) + 0 = omega arith in
          let now = ap (λ n. length (lines_from mark n count)) tens_next
          ∙ lines_length mark (tens + 1) (omega arith) (omega arith) 0 count (omega arith) in
          let next = ap (λ n. length (lines_from mark n (count + 1))) tens_next
          ∙ lines_length mark (tens + 1) (omega arith) (omega arith) 0 (count + 1) (omega arith)
          in
          let more : (count + 1) * width mark (tens + 1)
          ≡ count * width mark (tens + 1) + width mark (tens + 1) = omega arith in
          let same = same_width in
          omega arith

-- no lines have no bytes
pub none_long : (mark : List ℕ) (from : ℕ) → length (lines_from mark from 0) ≡ 0
unfolding lines_from
none_long mark from = omega arith

-- at first none is changed
pub none_mixed : (mark : List ℕ) (tens : ℕ) → mixed mark tens 0 ≡ lines_from mark (10 * tens) 10
unfolding lines_from
none_mixed mark tens = let same : 10 * tens + 0 ≡ 10 * tens = omega arith in
    ap (λ n. lines_from mark n 10) same

-- and at last all are
pub all_mixed : (mark : List ℕ) (tens : ℕ)
    → mixed mark tens 10 ≡ lines_from mark (10 * tens + 10) 10
unfolding lines_from
all_mixed mark tens = append-nil (lines_from mark (10 * tens + 10) 10)
