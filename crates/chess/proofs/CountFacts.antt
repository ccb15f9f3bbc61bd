-- How a number is read digit by digit.
use Rattle.std.specs.Prelude.{◌&&◌}
use Rattle.chess.proofs.Common.{◌≡◌, ◌≤◌, ◌<◌, ◌+◌, ◌-◌, ◌*◌, ℕ, zero, suc, true, List, ◌∷◌, length}
use Rattle.chess.proofs.Common.{sym, ap, refl, subst, ◌∙◌, arith, list_all, is_digit, IsCounted}
use Rattle.chess.specs.Shared.Tens.{ten_to}

ten_positive : (k : ℕ) → 0 < ten_to k
ten_positive zero = omega arith
ten_positive (suc k) = let before = ten_positive k in omega arith

pub count_start : (most : ℕ) (text : List ℕ) → length text ≤ most → IsCounted most 0 text text
count_start most text short =
    record { short = short; bound = ten_positive (most - length text); value = refl; digits = refl }

ten_small : (k m : ℕ) → k ≤ m → ten_to k ≤ ten_to m
ten_small zero m h = let some = ten_positive m in omega arith
ten_small (suc k) zero h = absurd (omega arith)
ten_small (suc k) (suc m) h = let before = ten_small k m (omega arith) in omega arith

pub count_small : (most n : ℕ) (rest text : List ℕ) → IsCounted most n rest text → 1 ≤ length rest
    → n < ten_to (most - 1)
count_small most n rest text c some =
    let bound = c.bound in let small = ten_small (most - length rest) (most - 1) (omega arith) in
    omega arith

digit_next : (b : ℕ) (after : List ℕ) → is_digit b ≡ true
    → list_all is_digit after ≡ list_all is_digit (b ∷ after)
digit_next b after e = sym (ap (λ t. t && list_all is_digit after) e)

pub count_more : (most n : ℕ) (rest text : List ℕ) (b : ℕ) (after : List ℕ)
    → IsCounted most n rest text → rest ≡ b ∷ after → is_digit b ≡ true → b ≤ 57
    → IsCounted most (10 * n + (b - 48)) after text
count_more most n rest text b after c e digit high =
    let before : IsCounted most n (b ∷ after) text = subst (λ x. IsCounted most n x text) e c in
    let short = before.short in
    let bound = before.bound in
    let left : most - length after ≡ suc (most - length (b ∷ after)) = omega arith in
    let room : ten_to (most - length after) ≡ 10 * ten_to (most - length (b ∷ after)) =
    ap ten_to left in
    record {
      short = omega arith;
      bound = omega arith;
      value = before.value;
      digits = digit_next b after digit ∙ before.digits;
    }
