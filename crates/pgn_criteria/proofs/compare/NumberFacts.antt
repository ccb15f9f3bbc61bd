-- Numbers of 1 to 18 digits.
use Rattle.std.proofs.Common.{◌||◌, ◌&&◌, zero-add}
use Rattle.std.proofs.Math.Nat.{pow-le-pow_right}
use Rattle.pgn_criteria.proofs.Common.{◌≡◌, ◌≤◌, ◌<◌, ◌+◌, ◌*◌, ◌-◌, ◌^◌, ℕ, suc, Bool, true, false}
use Rattle.pgn_criteria.proofs.Common.{not, List, [], ◌∷◌, length, Option, Some, None, refl, ap}
use Rattle.pgn_criteria.proofs.Common.{◌∙◌, inl, inr, arith, ◌==◌, nat_le, if◌then◌else◌, list_all}
use Rattle.pgn_criteria.proofs.Common.{cases_eq, nat_tests, number_from, number_in, number_after}
use Rattle.pgn_text.specs.Public.Bytes.{is_digit}

-- a size from 1 to 18
abbrev is_size : ℕ → Bool
is_size n = nat_le 1 n && nat_le n 18

size_end : (number digits : ℕ) → digits ≤ 18 → (if digits == 0 then None else Some number)
    ≡ (if (is_size (digits + 0) && true) then Some number else None)
size_end number digits few =
    elim (cases_eq digits 0)
    [ inl none ↦ grind (arith, nat_tests) | inr some ↦ grind (arith, nat_tests) ]

size_past : (n : ℕ) → (nat_le 1 (18 + suc n) && nat_le (18 + suc n) 18) ≡ false
size_past n = grind (arith, nat_tests)

-- one byte more, which is a digit or not
byte_step : (digits n : ℕ) (digit all : Bool) (rest : Option ℕ) (found : ℕ) → digits ≤ 18
    → ((digits ≡ 18 → ⊥) → rest
    ≡ (if (is_size ((digits + 1) + n) && all) then Some found else None))
    → (if (digits == 18 || not digit) then None else rest)
    ≡ (if (is_size (digits + suc n) && (digit && all)) then Some found else None)
byte_step digits n digit all rest found few goes = elim (cases_eq digits 18) [
  | inl same ↦
      rw same (rw (size_past n) refl)
  | inr other ↦
      let e : (digits == 18) ≡ false = grind (arith, nat_tests) in
      rw e (by_digit digit other)
]
  where
    by_digit : (d : Bool) → (digits ≡ 18 → ⊥) → (if (not d) then None else rest)
        ≡ (if (is_size (digits + suc n) && (d && all)) then Some found else None)
    by_digit true other =
        let sum : (digits + 1) + n ≡ digits + suc n = omega arith in
        goes other ∙ ap (λ m. if (is_size m && all) then Some found else None) sum
    by_digit false other =
        elim (is_size (digits + suc n)) as (λ v. None
        ≡ (if (v && false) then Some found else None)) [ true ↦ refl | false ↦ refl ]

-- the number after so many digits
pub after_digits : (number digits : ℕ) (text : List ℕ) → digits ≤ 18
    → number_after number digits text
    ≡ (if (is_size (digits + length text) && list_all is_digit text)
    then Some (number_from number text) else None)
after_digits number digits [] few = size_end number digits few
after_digits number digits (b ∷ x) few =
    byte_step digits (length x) (is_digit b) (list_all is_digit x)
    (number_after (10 * number + (b - 48)) (digits + 1) x)
    (number_from (10 * number + (b - 48)) x) few
    (λ other. let less : digits + 1 ≤ 18 = omega arith in
    after_digits (10 * number + (b - 48)) (digits + 1) x less)

pub number_found : (text : List ℕ) → number_after 0 0 text ≡ number_in text
number_found text = after_digits 0 0 text (omega arith)
    ∙ ap (λ n. if (is_size n && list_all is_digit text) then Some (number_from 0 text)
    else None) (zero-add (length text))

-- what a digit stands for
pub digit_small : (b : ℕ) → is_digit b ≡ true → b - 48 < 10
digit_small b digit = grind (arith, nat_tests)

-- a digit more stays below 2 ^ 64
pub tenfold : (number digits : ℕ) → digits ≤ 18 → (digits ≡ 18 → ⊥) → number < 10 ^ digits
    → 10 * number + 9 < 2 ^ 64
tenfold number digits few other small =
    let positive : 0 < 10 = omega arith in
    let less : digits ≤ 17 = omega arith in
    let bound : 10 ^ digits ≤ 10 ^ 17 = pow-le-pow_right positive less in
    let near : number < 10 ^ 17 = omega (arith, small, bound) in
    omega (arith, near)
