-- A text is its front and the rest.
use Rattle.std.proofs.Common.{◌≡◌, ◌≤◌, ◌<◌, ◌+◌, ◌-◌, ℕ, true, List, [], ◌∷◌, ◌++◌, length, take}
use Rattle.std.proofs.Common.{drop, sym, ap, refl, ◌∙◌, arith, length-append}
use Rattle.std.specs.Prelude.{◌==◌, slice_index_or}
use Rattle.std.proofs.Math.Seq.{take-length, take-append_seam}
use Rattle.std.proofs.lemmas.Bool.{eqb-true}

pub first_and_rest : (x : List ℕ) → 1 ≤ length x
    → x ≡ slice_index_or x 0 0 ∷ take (length x - 1) (drop 1 x)
first_and_rest [] h = absurd (omega arith)
first_and_rest (b ∷ x) h =
    let size : length x ≡ length (b ∷ x) - 1 = omega arith in
    ap (λ y. b ∷ y) (sym (take-length x) ∙ ap (λ n. take n x) size)

pub no_bytes : (x : List ℕ) → length x < 1 → x ≡ []
no_bytes [] h = refl
no_bytes (b ∷ x) h = absurd (omega arith)

pub no_length : (x : List ℕ) → (length x == 0) ≡ true → x ≡ []
no_length [] e = refl
no_length (b ∷ x) e = let none : length (b ∷ x) ≡ 0 = eqb-true (length (b ∷ x)) 0 e in
    absurd (omega arith)

-- what follows a front is no longer than the text, and what stands before it is that front
pub rest_within : (text front rest found : List ℕ) → front ++ rest ≡ text → found ≡ rest
    → length found ≤ length text
rest_within text front rest found whole is =
    let all : length text ≡ length front + length rest =
    ap length (sym whole) ∙ length-append front rest in
    let same : length found ≡ length rest = ap length is in
    omega arith

pub front_taken : (text front rest found : List ℕ) → front ++ rest ≡ text → found ≡ rest
    → take (length text - length found) text ≡ front
front_taken text front rest found whole is =
    let all : length text ≡ length front + length rest =
    ap length (sym whole) ∙ length-append front rest in
    let same : length found ≡ length rest = ap length is in
    let size : length text - length found ≡ length front = omega arith in
    ap (λ n. take n text) size ∙ ap (take (length front)) (sym whole) ∙ take-append_seam front rest
