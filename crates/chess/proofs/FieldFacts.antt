-- Where a text is parted at a separator.
use Rattle.std.proofs.Common.{◌≡◌, ℕ, true, false, List, [], ◌∷◌, ◌++◌, refl, sym, ap, ◌∙◌}
use Rattle.std.specs.Prelude.{◌==◌, if◌then◌else◌}
use Rattle.chess.specs.Public.Fen.{parted_at, before_first, without_empty, fields_of}
use Rattle.chess.specs.Shared.Runs.{run_of, after_run, after_all}

-- a text is its first run and what follows it
pub run_whole : (separator : ℕ) (text : List ℕ)
    → run_of separator text ++ after_run separator text ≡ text
run_whole separator [] = refl
run_whole separator (b ∷ x) =
    elim (b == separator) as (λ t. (if t then [] else b ∷ run_of separator x)
    ++ (if t then b ∷ x else after_run separator x) ≡ b ∷ x) [
      | true ↦ refl
      | false ↦ ap (λ rest. b ∷ rest) (run_whole separator x)
    ]

-- what a text is parted into after its first run
abbrev pub parted_after : ℕ → List ℕ → List (List ℕ)
parted_after separator [] = []
parted_after separator (b ∷ x) = parted_at separator x

pub parted_by_run : (separator : ℕ) (text : List ℕ)
    → parted_at separator text ≡ run_of separator text
    ∷ parted_after separator (after_run separator text)
parted_by_run separator [] = refl
parted_by_run separator (b ∷ x) =
    elim (b == separator) as (λ t.
    (if t then [] ∷ parted_at separator x else before_first b (parted_at separator x))
    ≡ (if t then [] else b ∷ run_of separator x)
    ∷ parted_after separator (if t then b ∷ x else after_run separator x)) [
      | true ↦ refl
      | false ↦ ap (before_first b) (parted_by_run separator x)
    ]

-- the first part, and what is parted after it
pub first_part : (separator : ℕ) (text run rest : List ℕ) → run ≡ run_of separator text
    → rest ≡ after_run separator text
    → parted_at separator text ≡ run ∷ parted_after separator rest
first_part separator text run rest r a =
    parted_by_run separator text
    ∙ ap (λ first. first ∷ parted_after separator (after_run separator text)) (sym r)
    ∙ ap (λ more. run ∷ parted_after separator more) (sym a)

-- what follows the first run begins with a separator, or is empty: as fields it is what follows
-- that separator
fields_after : (text : List ℕ) → without_empty (parted_after 32 (after_run 32 text))
    ≡ fields_of (after_run 32 text)
fields_after [] = refl
fields_after (b ∷ x) =
    elim (b == 32) as (λ t. (b == 32) ≡ t
    → without_empty (parted_after 32 (if t then b ∷ x else after_run 32 x))
    ≡ fields_of (if t then b ∷ x else after_run 32 x)) [
      | true ↦ λ e. sym
          (ap (λ t. without_empty (if t then [] ∷ parted_at 32 x
          else before_first b (parted_at 32 x))) e)
      | false ↦ λ e. fields_after x
    ] refl

-- a text that begins with a byte of a field: the first field, and the fields of what follows it
pub fields_of_run : (b : ℕ) (x : List ℕ) → (b == 32) ≡ false
    → fields_of (b ∷ x) ≡ run_of 32 (b ∷ x) ∷ fields_of (after_run 32 (b ∷ x))
fields_of_run b x other =
    let first : run_of 32 (b ∷ x) ≡ b ∷ run_of 32 x =
    ap (λ t. if t then [] else b ∷ run_of 32 x) other in
    ap without_empty (parted_by_run 32 (b ∷ x))
    ∙ ap (λ run. without_empty (run ∷ parted_after 32 (after_run 32 (b ∷ x)))) first
    ∙ ap (λ rest. (b ∷ run_of 32 x) ∷ rest) (fields_after (b ∷ x))
    ∙ ap (λ run. run ∷ fields_of (after_run 32 (b ∷ x))) (sym first)

-- spaces before the first field change nothing
pub fields_after_spaces : (text : List ℕ) → fields_of text ≡ fields_of (after_all 32 text)
fields_after_spaces [] = refl
fields_after_spaces (b ∷ x) =
    elim (b == 32) as (λ t. (b == 32) ≡ t → fields_of (b ∷ x)
    ≡ fields_of (if t then after_all 32 x else b ∷ x)) [
      | true ↦ λ e. ap (λ t.
          without_empty (if t then [] ∷ parted_at 32 x else before_first b (parted_at 32 x))) e
          ∙ fields_after_spaces x
      | false ↦ λ e. refl
    ] refl

-- what is left after spaces begins with no space
pub begins_field : (text : List ℕ) (b : ℕ) (x : List ℕ) → after_all 32 text ≡ b ∷ x
    → (b == 32) ≡ false
begins_field [] b x e = let no : [] ≡ b ∷ x = e in cc
begins_field (a ∷ y) b x e =
    elim (a == 32) as (λ t. (a == 32) ≡ t → (if t then after_all 32 y else a ∷ y) ≡ b ∷ x
    → (b == 32) ≡ false) [
      | true ↦ λ same f. begins_field y b x f
      | false ↦ λ other f. let head : a ≡ b = cc in ap (λ n. n == 32) (sym head) ∙ other
    ] refl e
