-- Signs that are spelled one after another, up to what ends them.
use Rattle.std.proofs.Common.{◌≡◌, ℕ, Bool, true, List, [], ◌∷◌, ◌++◌, refl, sym, subst, ◌∙◌}
use Rattle.std.proofs.Common.{append_assoc, ap, false}
use Rattle.std.specs.Prelude.{flat_map}
use Rattle.std.specs.List.{list_all}
use Rattle.std.proofs.lemmas.Bool.{and_parts, false≢true}

pub heads : {a b : ℕ} {xs ys : List ℕ} → a ∷ xs ≡ b ∷ ys → a ≡ b
heads e = cc

pub tails : {a b : ℕ} {xs ys : List ℕ} → a ∷ xs ≡ b ∷ ys → xs ≡ ys
tails e = cc

-- no sign begins another one, nor what ends a list of signs
pub record IsCode {S : Type 0} (spelled : S → List ℕ) (is_sign : S → Bool) (Ends : List ℕ → Type 0)
    : Type 0 where
  pub parted : (s r : S) (t u : List ℕ) → is_sign s ≡ true → is_sign r ≡ true
      → spelled s ++ t ≡ spelled r ++ u → (s ≡ r) × (t ≡ u)
  pub stopped : (s : S) (t : List ℕ) → is_sign s ≡ true → Ends (spelled s ++ t) → ⊥

-- so signs are the only ones with their bytes
pub one_spelling : {S : Type 0} (spelled : S → List ℕ) (is_sign : S → Bool) (Ends : List ℕ → Type 0)
    → IsCode spelled is_sign Ends
    → (signs others : List S) (t u : List ℕ) → list_all is_sign signs ≡ true
    → list_all is_sign others ≡ true → Ends t → Ends u
    → flat_map spelled signs ++ t ≡ flat_map spelled others ++ u → (signs ≡ others) × (t ≡ u)
one_spelling spelled is_sign Ends code [] [] t u each each' ends ends' e = (refl, e)
one_spelling spelled is_sign Ends code [] (r ∷ others) t u each each' ends ends' e =
    let parts : (is_sign r ≡ true) × (list_all is_sign others ≡ true) = and_parts _ _ each' in
    let own : t ≡ spelled r ++ (flat_map spelled others ++ u) =
    e ∙ append_assoc (spelled r) (flat_map spelled others) u in
    absurd (code.stopped r (flat_map spelled others ++ u) parts.0 (subst Ends own ends))
one_spelling spelled is_sign Ends code (s ∷ signs) [] t u each each' ends ends' e =
    let parts : (is_sign s ≡ true) × (list_all is_sign signs ≡ true) = and_parts _ _ each in
    let own : u ≡ spelled s ++ (flat_map spelled signs ++ t) =
    sym e ∙ append_assoc (spelled s) (flat_map spelled signs) t in
    absurd (code.stopped s (flat_map spelled signs ++ t) parts.0 (subst Ends own ends'))
one_spelling spelled is_sign Ends code (s ∷ signs) (r ∷ others) t u each each' ends ends' e =
    let first : (is_sign s ≡ true) × (list_all is_sign signs ≡ true) = and_parts _ _ each in
    let second : (is_sign r ≡ true) × (list_all is_sign others ≡ true) = and_parts _ _ each' in
    let own : spelled s ++ (flat_map spelled signs ++ t) ≡ spelled r ++
    (flat_map spelled others ++ u) =
    sym (append_assoc (spelled s) (flat_map spelled signs) t) ∙ e ∙ append_assoc (spelled r)
    (flat_map spelled others) u in
    let heads : (s ≡ r) × (flat_map spelled signs ++ t ≡ flat_map spelled others ++ u) =
    code.parted s r _ _ first.0 second.0 own in
    let tails : (signs ≡ others) × (t ≡ u) = one_spelling spelled is_sign Ends code signs others t u
    first.1 second.1 ends ends' heads.1 in
    (cc, tails.1)

-- Bytes of one kind, up to the first that is of another.

-- the text begins with a byte of another kind
abbrev pub LeavesRun : (ℕ → Bool) → List ℕ → Type 0
LeavesRun is_in text = (b : ℕ) × (rest : List ℕ) × (text ≡ b ∷ rest) × (is_in b ≡ false)

run_code : (is_in : ℕ → Bool) → IsCode (λ b. b ∷ []) is_in (LeavesRun is_in)
run_code is_in = record {
  parted = λ s r t u is is' e. (heads e, tails e);
  stopped = λ s t is (b, rest, e, other).
      false≢true (sym other ∙ ap is_in (sym (heads e)) ∙ is);
}

as_signs : (bytes : List ℕ) → flat_map (λ (b : ℕ). b ∷ []) bytes ≡ bytes
as_signs [] = refl
as_signs (b ∷ bytes) = ap (λ (xs : List ℕ). b ∷ xs) (as_signs bytes)

-- so they are one run
pub one_run : (is_in : ℕ → Bool) (run other t u : List ℕ) → list_all is_in run ≡ true
    → list_all is_in other ≡ true → LeavesRun is_in t → LeavesRun is_in u
    → run ++ t ≡ other ++ u → (run ≡ other) × (t ≡ u)
one_run is_in run other t u each each' leaves leaves' e =
    one_spelling (λ b. b ∷ []) is_in (LeavesRun is_in) (run_code is_in) run other t u each each'
    leaves leaves' (rw (as_signs run, as_signs other) e)
