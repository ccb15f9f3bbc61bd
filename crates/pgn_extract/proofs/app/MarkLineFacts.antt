-- What follows a prefix, as the code finds it and as the definition says it; and the mark of a
-- line.
use Rattle.std.proofs.Common.{◌≡◌, ℕ, ◌==◌, List, [], ◌∷◌, ◌++◌, Bor, inl, inr, Option, None, Some}
use Rattle.std.proofs.Common.{MatchOption, refl, sym, ap, ◌∙◌}
use Rattle.std.proofs.lemmas.Bool.{eq-eqb}
use Rattle.pgn_extract.proofs.Common.{option_map, cases_Bool, eqb-true, rest_after}

-- a text that begins with the prefix
pub follows : (prefix rest : List ℕ) → rest_after prefix (prefix ++ rest) ≡ Some rest
follows [] rest = refl
follows (first ∷ more) rest = rw (eq-eqb first first refl) (follows more rest)

-- one more byte before both
one_more : (first byte : ℕ) (more text : List ℕ) → first ≡ byte → (rest : List ℕ)
    → text ≡ more ++ rest → byte ∷ text ≡ (first ∷ more) ++ rest
one_more first byte more text is rest parted =
    ap (λ b. b ∷ text) (sym is) ∙ ap (λ t. first ∷ t) parted

-- and one that does not
none_follows : (prefix text : List ℕ) → ((rest : List ℕ) → text ≡ prefix ++ rest → ⊥)
    → rest_after prefix text ≡ None
none_follows [] text other = absurd (other text refl)
none_follows (first ∷ more) [] other = refl
none_follows (first ∷ more) (byte ∷ text) other =
    elim (cases_Bool (first == byte)) [
      | inl is ↦ rw is (none_follows more text (λ rest parted.
          other rest (one_more first byte more text (eqb-true first byte is) rest parted)))
      | inr is ↦ rw is refl
    ]

pub stripped : (prefix text : List ℕ) (result : Option (Bor (List ℕ)))
    → MatchOption result ((rest : List ℕ) → text ≡ prefix ++ rest
    → ⊥) (λ rest. text ≡ prefix ++ rest.now)
    → option_map (λ rest. rest.now) result ≡ rest_after prefix text
stripped prefix text None other = sym (none_follows prefix text other)
stripped prefix text (Some rest) is = sym (ap (rest_after prefix) is ∙ follows prefix rest.now)
