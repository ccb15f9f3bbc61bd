-- A run of bytes that is as long as it can be is the one that is read.
use Rattle.std.specs.Prelude.{IsTrue}
use Rattle.pgn_text.proofs.Common.{◌≡◌, ℕ, Bool, true, false, List, [], ◌∷◌, ◌++◌, refl, ap}
use Rattle.pgn_text.proofs.Common.{if◌then◌else◌, list_all, and_parts, not-true, not_from_false}
use Rattle.pgn_text.proofs.Common.{stops, run_of, after_run}

pub run_of-append : (test : ℕ → Bool) (xs after : List ℕ) → IsTrue (list_all test xs)
    → IsTrue (stops test after) → run_of test (xs ++ after) ≡ xs
run_of-append test [] [] all ends = refl
run_of-append test [] (b ∷ rest) all ends = rw (not-true _ ends) refl
run_of-append test (x ∷ xs) after all ends =
    let parts : (test x ≡ true) × (list_all test xs ≡ true) = and_parts _ _ all in
    rw parts.0 (ap (λ (ys : List ℕ). x ∷ ys) (run_of-append test xs after parts.1 ends))

pub after_run-append : (test : ℕ → Bool) (xs after : List ℕ) → IsTrue (list_all test xs)
    → IsTrue (stops test after) → after_run test (xs ++ after) ≡ after
after_run-append test [] [] all ends = refl
after_run-append test [] (b ∷ rest) all ends = rw (not-true _ ends) refl
after_run-append test (x ∷ xs) after all ends =
    let parts : (test x ≡ true) × (list_all test xs ≡ true) = and_parts _ _ all in
    rw parts.0 (after_run-append test xs after parts.1 ends)

-- a run and what follows it are the text
pub run-append-after : (test : ℕ → Bool) (xs : List ℕ) → xs ≡ run_of test xs ++ after_run test xs
run-append-after test [] = refl
run-append-after test (b ∷ rest) =
    elim (test b) as (λ v. b ∷ rest ≡ (if v then b ∷ run_of test rest else [])
    ++ (if v then after_run test rest else b ∷ rest)) [
      | true ↦ ap (λ (xs : List ℕ). b ∷ xs) (run-append-after test rest)
      | false ↦ refl
    ]

-- each byte of a run passes
pub list_all-run : (test : ℕ → Bool) (xs : List ℕ) → IsTrue (list_all test (run_of test xs))
list_all-run test [] = refl
list_all-run test (b ∷ rest) =
    let go : (v : Bool) → test b ≡ v
    → IsTrue (list_all test (if v then b ∷ run_of test rest else [])) =
    λ v is. elim v as (λ w. test b ≡ w
    → IsTrue (list_all test (if w then b ∷ run_of test rest else []))) [
      | true ↦ (λ passes. rw passes (list_all-run test rest))
      | false ↦ (λ fails. refl)
    ] is in
    go (test b) refl

-- after a run no byte passes
pub stops-after_run : (test : ℕ → Bool) (xs : List ℕ) → IsTrue (stops test (after_run test xs))
stops-after_run test [] = refl
stops-after_run test (b ∷ rest) =
    let go : (v : Bool) → test b ≡ v
    → IsTrue (stops test (if v then after_run test rest else b ∷ rest)) =
    λ v is. elim v as (λ w. test b ≡ w
    → IsTrue (stops test (if w then after_run test rest else b ∷ rest))) [
      | true ↦ (λ passes. stops-after_run test rest)
      | false ↦ (λ fails. not_from_false _ fails)
    ] is in
    go (test b) refl
