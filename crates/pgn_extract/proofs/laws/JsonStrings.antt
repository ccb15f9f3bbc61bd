-- A string is read as it was written, and in no other way.
use Rattle.std.proofs.Common.{◌≡◌, ◌⊎◌, inl, inr, ℕ, ◌+◌, ◌/◌, ◌%◌, ◌<◌, ◌≤◌, Bool, true, false}
use Rattle.std.proofs.Common.{List, [], ◌∷◌, ◌++◌, refl, sym, ap, subst, ◌∙◌, append_assoc, arith}
use Rattle.std.specs.Prelude.{flat_map, map, not, nat_lt, ◌==◌, ◌||◌, if◌then◌else◌}
use Rattle.std.specs.List.{list_all}
use Rattle.std.proofs.lemmas.Bool.{eqb-true, or_parts, ltb-true, lt-ltb}
use Rattle.std.proofs.lemmas.Bool.Decides.{nat_tests}
use Rattle.pgn_extract.specs.Public.Json.{is_special, hex_digit, escaped, Sign, Plain, Short}
use Rattle.pgn_extract.specs.Public.Json.{Digits, spelled_sign, is_short, value_of_short, is_hex}
use Rattle.pgn_extract.specs.Public.Json.{value_of_hex, number_of, value_of_sign, is_sign}
use Rattle.pgn_extract.specs.Public.RowLaws.{StringIsReadBack, StringHasOneReading}
use Rattle.pgn_extract.specs.Public.RowLaws.{StringIsReadOnce}
use Rattle.pgn_extract.proofs.laws.Codes.{IsCode, one_spelling, heads, tails}

-- No other way.

-- a quote ends the signs
abbrev Closes : List ℕ → Type 0
Closes text = (rest : List ℕ) × (text ≡ 34 ∷ rest)

plain_is_other : (b : ℕ) → is_sign (Plain b) ≡ true → b ≡ 92 → ⊥
plain_is_other b is same = let no : not (is_special 92) ≡ true =
    subst (λ x. not (is_special x) ≡ true) same is in absurd cc

plain_is_no_quote : (b : ℕ) → is_sign (Plain b) ≡ true → b ≡ 34 → ⊥
plain_is_no_quote b is same = let no : not (is_special 34) ≡ true =
    subst (λ x. not (is_special x) ≡ true) same is in absurd cc

short_is_no_u : (c : ℕ) → is_short c ≡ true → c ≡ 117 → ⊥
short_is_no_u c is same = let no : is_short 117 ≡ true = subst (λ x. is_short x ≡ true) same is in
    absurd cc

signs_parted : (s r : Sign) (t u : List ℕ) → is_sign s ≡ true → is_sign r ≡ true
    → spelled_sign s ++ t ≡ spelled_sign r ++ u → (s ≡ r) × (t ≡ u)
signs_parted (Plain b) (Plain c) t u is is' e = (ap Plain (heads e), tails e)
signs_parted (Plain b) (Short c) t u is is' e = absurd (plain_is_other b is (heads e))
signs_parted (Plain b) (Digits k l m n) t u is is' e = absurd (plain_is_other b is (heads e))
signs_parted (Short c) (Plain b) t u is is' e = absurd (plain_is_other b is' (sym (heads e)))
signs_parted (Short c) (Short d) t u is is' e = (ap Short (heads (tails e)), tails (tails e))
signs_parted (Short c) (Digits k l m n) t u is is' e = absurd (short_is_no_u c is (heads (tails e)))
signs_parted (Digits k l m n) (Plain b) t u is is' e = absurd (plain_is_other b is' (sym (heads e)))
signs_parted (Digits k l m n) (Short c) t u is is' e =
    absurd (short_is_no_u c is' (sym (heads (tails e))))
signs_parted (Digits k l m n) (Digits o p q r) t u is is' e =
    let first = tails (tails e) in
    let second = tails first in
    let third = tails second in
    let fourth = tails third in
    let a : k ≡ o = heads first in let b : l ≡ p = heads second in let c : m ≡ q = heads third in
    let d : n ≡ r = heads fourth in
    (cc, tails fourth)

signs_stopped : (s : Sign) (t : List ℕ) → is_sign s ≡ true → Closes (spelled_sign s ++ t) → ⊥
signs_stopped (Plain b) t is (rest, e) = plain_is_no_quote b is (heads e)
signs_stopped (Short c) t is (rest, e) = let same = heads e in absurd (omega arith)
signs_stopped (Digits k l m n) t is (rest, e) = let same = heads e in absurd (omega arith)

signs_code : IsCode spelled_sign is_sign Closes
signs_code = record { parted = signs_parted; stopped = signs_stopped }

pub one_reading : StringHasOneReading
one_reading bytes text other rest more reads reads' =
    let own : (reads.signs ≡ reads'.signs) × (34 ∷ rest ≡ 34 ∷ more) =
    one_spelling spelled_sign is_sign Closes signs_code reads.signs reads'.signs (34 ∷ rest)
    (34 ∷ more) reads.each reads'.each
    (rest, refl) (more, refl) (tails (sym reads.spells ∙ reads'.spells)) in
    (reads.gives ∙ ap (flat_map value_of_sign) own.0 ∙ sym reads'.gives, tails own.1)

-- As it was written.

not_below : (a b : ℕ) → nat_lt a b ≡ false → b ≤ a
not_below a b is = grind (arith, nat_tests)

lt_false : (a b : ℕ) → b ≤ a → nat_lt a b ≡ false
lt_false a b le = grind (arith, nat_tests)

abbrev sign_of : ℕ → Sign
sign_of b = if nat_lt b 32 then Digits 48 48 (hex_digit (b / 16)) (hex_digit (b % 16)) else
    (if (b == 34 || b == 92) then Short b else Plain b)

hex_by : (n : ℕ) → n < 16 → (low : Bool) → nat_lt n 10 ≡ low → (is_hex (hex_digit n) ≡ true)
    × (value_of_hex (hex_digit n) ≡ n)
hex_by n lt true is = rw is (
    let own : n < 10 = ltb-true n 10 is in (
      rw (lt_false (n + 48) 48 (omega arith), lt-ltb (n + 48) 58 (omega arith)) refl,
      rw
          (lt-ltb (n + 48) 58 (omega arith)) (omega arith),
    ))
hex_by n lt false is = rw is (
    let own : 10 ≤ n = not_below n 10 is in (
      rw (
        lt_false (n + 87) 58 (omega arith),
        lt_false (n + 87) 71 (omega arith),
        lt_false (n + 87)
            97 (omega arith),
        lt-ltb (n + 87) 103 (omega arith),
      ) (grind (arith, nat_tests)),
      rw (lt_false (n + 87) 58 (omega arith), lt_false (n + 87) 71 (omega arith)) (omega arith),
    ))

-- the digit of a number is a digit, and has its value
hex_is : (n : ℕ) → n < 16 → (is_hex (hex_digit n) ≡ true) × (value_of_hex (hex_digit n) ≡ n)
hex_is n lt = hex_by n lt (nat_lt n 10) refl

-- a control byte is the number with its two digits
two_digits : (b : ℕ) → b < 32 → number_of 48 48 (hex_digit (b / 16)) (hex_digit (b % 16)) ≡ b
two_digits b lt =
    let high : (is_hex (hex_digit (b / 16)) ≡ true)
    × (value_of_hex (hex_digit (b / 16)) ≡ b / 16) = hex_is (b / 16) (omega arith) in
    let low : (is_hex (hex_digit (b % 16)) ≡ true)
    × (value_of_hex (hex_digit (b % 16)) ≡ b % 16) = hex_is (b % 16) (omega arith) in
    rw (high.1, low.1) (omega arith)

-- a quote and a backslash are letters after a backslash, and stand for themselves
either : (b : ℕ) (first : Bool) → (b == 34) ≡ first → (b == 34 || b == 92) ≡ true → (b ≡ 34)
    ⊎ (b ≡ 92)
either b true is e = inl (eqb-true b 34 is)
either b false is e = inr (eqb-true b 92 (rw is at e))

marked_is_short : (b : ℕ) → (b == 34 || b == 92) ≡ true → is_short b ≡ true
marked_is_short b e = elim (either b (b == 34) refl e) [
  | inl same ↦ rw same refl
  | inr same ↦ rw same refl
]

marked_gives : (b : ℕ) → (b == 34 || b == 92) ≡ true → value_of_short b ∷ [] ≡ b ∷ []
marked_gives b e = elim (either b (b == 34) refl e) [
  | inl same ↦ rw same refl
  | inr same ↦ rw same refl
]

-- the sign that is written for a byte
record IsWritten (b : ℕ) : Type 0 where
  is : is_sign (sign_of b) ≡ true
  spelled : spelled_sign (sign_of b) ≡ escaped b
  gives : value_of_sign (sign_of b) ≡ b ∷ []

written : (b : ℕ) (control marked : Bool) → nat_lt b 32 ≡ control → (b == 34 || b == 92) ≡ marked
    → IsWritten b
written b true marked e f =
    let lt : b < 32 = ltb-true b 32 e in
    let high : (is_hex (hex_digit (b / 16)) ≡ true)
    × (value_of_hex (hex_digit (b / 16)) ≡ b / 16) = hex_is (b / 16) (omega arith) in
    let low : (is_hex (hex_digit (b % 16)) ≡ true)
    × (value_of_hex (hex_digit (b % 16)) ≡ b % 16) = hex_is (b % 16) (omega arith) in
    let number : number_of 48 48 (hex_digit (b / 16)) (hex_digit (b % 16)) ≡ b = two_digits b lt in
    let below : nat_lt b 55296 ≡ true = lt-ltb b 55296 (omega arith) in
    let ascii : nat_lt b 128 ≡ true = lt-ltb b 128 (omega arith) in
    record {
      is = rw (e, high.0, low.0, number, below) refl;
      spelled = rw e refl;
      gives = rw (e, number, ascii) refl;
    }
written b false true e f = record {
  is = rw (e, f) (marked_is_short b f);
  spelled = rw (e, f) refl;
  gives = rw (e, f) (marked_gives b f);
}
written b false false e f =
    let parts : ((b == 34) ≡ false) × ((b == 92) ≡ false) = or_parts _ _ f in
    let own : is_special b ≡ false = rw (e, parts.0, parts.1) refl in
    record { is = rw (e, f) (ap not own); spelled = rw (e, f) refl; gives = rw (e, f) refl }

is_written : (b : ℕ) → IsWritten b
is_written b = written b (nat_lt b 32) (b == 34 || b == 92) refl refl

signs_spell : (text : List ℕ) → flat_map spelled_sign (map sign_of text) ≡ flat_map escaped text
signs_spell [] = refl
signs_spell (b ∷ text) = let own : spelled_sign (sign_of b) ≡ escaped b = (is_written b).spelled in
    let more : flat_map spelled_sign (map sign_of text) ≡ flat_map escaped text =
    signs_spell text in cc

signs_give : (text : List ℕ) → text ≡ flat_map value_of_sign (map sign_of text)
signs_give [] = refl
signs_give (b ∷ text) =
    let own : value_of_sign (sign_of b) ≡ b ∷ [] = (is_written b).gives in
    let more : text ≡ flat_map value_of_sign (map sign_of text) = signs_give text in
    rw own (ap (λ (xs : List ℕ). b ∷ xs) more)

signs_are : (text : List ℕ) → list_all is_sign (map sign_of text) ≡ true
signs_are [] = refl
signs_are (b ∷ text) = rw (is_written b).is (signs_are text)

pub string_is_read : StringIsReadBack
string_is_read text rest = record {
  signs = map sign_of text;
  each = signs_are text;
  spells = ap (λ (xs : List ℕ). 34 ∷ xs) (append_assoc (flat_map escaped text) (34 ∷ []) rest ∙ ap
      (λ xs. xs ++ 34 ∷ rest) (sym (signs_spell text)));
  gives = signs_give text;
}

pub one_string : StringIsReadOnce
one_string text other rest more reads = one_reading _ other text more rest reads
    (string_is_read text rest)
