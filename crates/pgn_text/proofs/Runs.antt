-- Longest fronts of bytes that pass a test.
use Rattle.std.proofs.lemmas.Bool.{not_from_true}
use Rattle.memchr.specs.Find.{is_byte}
use Rattle.std.specs.Prelude.{if◌then◌else◌, Some, None, ◌==◌}
use Rattle.pgn_text.proofs.Common.{◌≡◌, ℕ, zero, suc, ◌+◌, ◌<◌, ◌≤◌, Bool, true, false, not, List}
use Rattle.pgn_text.proofs.Common.{[], ◌∷◌, ◌++◌, length, take, drop, get_or, refl, sym, ap, ◌∙◌}
use Rattle.pgn_text.proofs.Common.{arith, eqb-true, not_from_false, false_from_ne_true, ne_eqb}
use Rattle.pgn_text.proofs.Common.{drop_more, drop_all, IsFirstByte, is_empty, run_of, after_run}

pub take_run : (test : ℕ → Bool) (xs : List ℕ) → take (length (run_of test xs)) xs ≡ run_of test xs
take_run test [] = refl
take_run test (b ∷ rest) =
    elim (test b) as (λ v. take (length (if v then b ∷ run_of test rest else [])) (b ∷ rest)
    ≡ (if v then b ∷ run_of test rest else [])) [
      | true ↦ ap (λ (xs : List ℕ). b ∷ xs) (take_run test rest)
      | false ↦ refl
    ]

pub drop_run : (test : ℕ → Bool) (xs : List ℕ)
    → drop (length (run_of test xs)) xs ≡ after_run test xs
drop_run test [] = refl
drop_run test (b ∷ rest) =
    elim (test b) as (λ v. drop (length (if v then b ∷ run_of test rest else [])) (b ∷ rest)
    ≡ (if v then after_run test rest else b ∷ rest)) [
      | true ↦ drop_run test rest
      | false ↦ refl
    ]

-- a place before which all bytes pass, and at which one fails or the text ends, is the run's length
pub run_length_is : (test : ℕ → Bool) (xs : List ℕ) (n : ℕ)
    → ((k : ℕ) → k < n → test (get_or xs k 0) ≡ true) → n ≤ length xs
    → (n < length xs → test (get_or xs n 0) ≡ false) → n ≡ length (run_of test xs)
run_length_is test [] zero below within at = refl
run_length_is test [] (suc n) below within at = absurd (omega arith)
run_length_is test (b ∷ rest) zero below within at =
    let fails : test b ≡ false = at (omega arith) in rw fails refl
run_length_is test (b ∷ rest) (suc n) below within at =
    let passes : test b ≡ true = below 0 (omega arith) in
    rw passes
    (ap suc (run_length_is test rest n (λ k h. below (suc k) (omega arith)) (omega arith) (λ h.
    at (omega arith))))

-- each byte of a run passes
pub run_inside : (test : ℕ → Bool) (xs : List ℕ) (k : ℕ) → k < length (run_of test xs)
    → test (get_or xs k 0) ≡ true
run_inside test [] k below = absurd (omega arith)
run_inside test (b ∷ rest) k below =
    (elim (test b) as (λ v. test b ≡ v → k < length (if v then b ∷ run_of test rest else [])
    → test (get_or (b ∷ rest) k 0) ≡ true) [
      | true ↦ (λ here less. inside (run_inside test rest) k here less)
      | false ↦ (λ here less. absurd (omega arith))
    ]) refl below
  where
    inside : ((j : ℕ) → j < length (run_of test rest) → test (get_or rest j 0) ≡ true) → (k : ℕ)
        → test b ≡ true → k < suc (length (run_of test rest)) → test (get_or (b ∷ rest) k 0) ≡ true
    inside later zero here less = here
    inside later (suc j) here less = later j (omega arith)

-- where so many bytes pass, the run is these and the run of what follows them
pub run_on : (test : ℕ → Bool) (xs : List ℕ) (n : ℕ)
    → ((k : ℕ) → k < n → test (get_or xs k 0) ≡ true) → n ≤ length xs
    → (run_of test xs ≡ take n xs ++ run_of test (drop n xs))
    × (after_run test xs ≡ after_run test (drop n xs))
run_on test xs zero passes within = (refl, refl)
run_on test [] (suc n) passes within = absurd (omega arith)
run_on test (b ∷ rest) (suc n) passes within =
    let here : test b ≡ true = passes 0 (omega arith) in
    let more = run_on test rest n (λ k below. passes (suc k) (omega arith)) (omega arith) in
    (rw here (ap (λ (ys : List ℕ). b ∷ ys) more.0), rw here more.1)

-- the first place of a byte is the length of the run of other bytes
pub first_byte-run : (b : ℕ) (xs : List ℕ) (n : ℕ) → IsFirstByte (is_byte b) xs (Some n)
    → n ≡ length (run_of (λ x. not (x == b)) xs)
first_byte-run b xs n (first, here) =
    run_length_is (λ x. not (x == b)) xs n
    (λ k below.
    not_from_false _ (false_from_ne_true _ (λ is. first.before k (omega arith) below is)))
    (let h : n < length xs = first.high in omega arith)
    (λ _. not_from_true _ here)

-- where a byte stands nowhere, the run of other bytes is the whole text
pub first_byte-none : (b : ℕ) (xs : List ℕ) → IsFirstByte (is_byte b) xs None
    → length xs ≡ length (run_of (λ x. not (x == b)) xs)
first_byte-none b xs nowhere =
    run_length_is (λ x. not (x == b)) xs (length xs)
    (λ k below. not_from_false _ (false_from_ne_true _ (λ is. nowhere k (omega arith) below is)))
    (omega arith)
    (λ below. absurd (omega arith))

-- what follows the run before a byte begins with the byte
pub after-first_byte : (b : ℕ) (xs : List ℕ) (n : ℕ) → IsFirstByte (is_byte b) xs (Some n)
    → after_run (λ x. not (x == b)) xs ≡ b ∷ drop (n + 1) xs
after-first_byte b xs n (first, here) =
    let is : n ≡ length (run_of (λ x. not (x == b)) xs) = first_byte-run b xs n (first, here) in
    let below : n < length xs = first.high in
    sym (drop_run (λ x. not (x == b)) xs) ∙ ap (λ k. drop k xs) (sym is) ∙ drop_more xs n 0 below
    ∙ ap (λ x. x ∷ drop (n + 1) xs) (eqb-true _ _ here)

-- where a byte stands nowhere, nothing follows the run of other bytes
pub after-first_byte-none : (b : ℕ) (xs : List ℕ) → IsFirstByte (is_byte b) xs None
    → after_run (λ x. not (x == b)) xs ≡ []
after-first_byte-none b xs nowhere =
    let is : length xs ≡ length (run_of (λ x. not (x == b)) xs) = first_byte-none b xs nowhere in
    sym (drop_run (λ x. not (x == b)) xs) ∙ drop_all _ xs (omega arith)

-- a list is empty if it has no length
pub is_empty_length : (xs : List ℕ) → is_empty xs ≡ (length xs == 0)
is_empty_length [] = refl
is_empty_length (x ∷ xs) = sym (ne_eqb (length (x ∷ xs)) 0 (λ is. absurd (omega arith)))
