-- The texts of edits, which are parted at their first sign of equality; and edits one after
-- another.
use Rattle.std.specs.Prelude.{IsTrue, not, ◌==◌, ◌≢◌, get_or}
use Rattle.std.specs.Borrow.{Bor}
use Rattle.std.specs.List.{AllZip, Contains, list_all}
use Rattle.pgn_extract.proofs.Common.{◌≡◌, ℕ, List, [], ◌∷◌, ◌++◌, refl, sym, ap, ◌∙◌, subst, inl}
use Rattle.pgn_extract.proofs.Common.{inr, cases_Bool, eqb-true}
use Rattle.std.proofs.lemmas.List.{take_more}
use Rattle.std.proofs.lemmas.List.Elements.{Contains-get_or}
use Rattle.pgn_extract.proofs.Common.{◌<◌, ◌+◌, length, take}
use Rattle.pgn_game.specs.Public.Edits.{EditedTag}
use Rattle.chess.proofs.FieldFacts.{run_whole}
use Rattle.chess.specs.Shared.Runs.{run_of, after_run}
use Rattle.pgn_extract.specs.Public.AskedEdits.{AreRefused, IsDropFault, IsOfStart, IsParted}
use Rattle.pgn_extract.specs.Public.AskedEdits.{IsSetFault}
use Rattle.pgn_extract.specs.Public.Columns.{IsTagName}
use Rattle.pgn_extract.specs.declared.app.command.Request.{Request}
use Rattle.pgn_extract.specs.declared.app.edits.EditFault.{EditFault}
use Rattle.pgn_extract.specs.declared.app.edits.EditFault.TheVariants as fault

run_lacks : (text : List ℕ) → IsTrue (list_all (λ byte. not (byte == 61)) (run_of 61 text))
run_lacks [] = refl
run_lacks (b ∷ text) = elim (cases_Bool (b == 61)) [
  | inl is ↦ rw is refl
  | inr other ↦ rw (other, other) (run_lacks text)
]

begins : (text : List ℕ) (sign : ℕ) (value : List ℕ) → after_run 61 text ≡ sign ∷ value
    → sign ≡ 61
begins [] sign value is = absurd (cc)
begins (b ∷ text) sign value is = elim (cases_Bool (b == 61)) [
  | inl same ↦ sym (ap (λ xs. get_or xs 0 0) (rw same at is)) ∙ eqb-true b 61 same
  | inr other ↦ begins text sign value (rw other at is)
]

-- the text before the first sign, and what stands after it
pub parted_there : (text name rest : List ℕ) (sign : ℕ) (value : List ℕ) → name ≡ run_of 61 text
    → rest ≡ after_run 61 text → rest ≡ sign ∷ value → IsParted text name value
parted_there text name rest sign value is_name is_rest has =
    let is = sym is_rest ∙ has in (
      sym (run_whole 61 text) ∙ ap (λ t. run_of 61 text ++ t)
          (is ∙ ap (λ s. s ∷ value) (begins text sign value is))
          ∙ ap (λ n. n ++ 61 ∷ value) (sym is_name),
      subst (λ n. IsTrue (list_all (λ byte. not (byte == 61)) n)) (sym is_name) (run_lacks text),
    )

some_after : (name value : List ℕ) → after_run 61 (name ++ 61 ∷ value) ≢ []
some_after [] value is = cc
some_after (b ∷ name) value is = elim (cases_Bool (b == 61)) [
  | inl same ↦ let none = rw same at is in cc
  | inr other ↦ some_after name value (rw other at is)
]

-- a text without a sign is not parted
pub not_parted : (text rest name value : List ℕ) → rest ≡ after_run 61 text → rest ≡ []
    → IsParted text name value → ⊥
not_parted text rest name value is_rest none (is, free) =
    some_after name value (subst (λ t. after_run 61 t ≡ []) is (sym is_rest ∙ none))

-- what no tag is left out for, no tag with a value is written for
pub set_fault : (text name value : List ℕ) (why : EditFault) → IsParted text name value
    → IsDropFault name why → IsSetFault text why
set_fault text name value (fault.NoValue word) parted wrong = absurd wrong
set_fault text name value (fault.NoName word) parted (same, none) = (
  value,
  subst (λ n. IsParted text n value) (sym same) parted,
  λ is. none (subst IsTagName same is),
)
set_fault text name value (fault.Start word) parted (same, start) = (
  value,
  subst (λ n. IsParted text n value) (sym same) parted,
  subst IsOfStart (sym same) start,
)
set_fault text name value fault.Result parted wrong = absurd wrong
set_fault text name value (fault.BadValue word) parted wrong = absurd wrong
set_fault text name value (fault.NoOrder word) parted wrong = absurd wrong
set_fault text name value (fault.Twice word) parted wrong = absurd wrong
set_fault text name value fault.OutOfMemory parted tried = tt

-- one pair more
pub zip_more : {A B : Type 0} (R : A → B → Type 0) (xs : List A) (ys : List B) (x : A) (y : B)
    → AllZip R xs ys → R x y → AllZip R (xs ++ x ∷ []) (ys ++ y ∷ [])
zip_more R [] [] x y all own = (own, tt)
zip_more R [] (b ∷ ys) x y all own = absurd all
zip_more R (a ∷ xs) [] x y all own = absurd all
zip_more R (a ∷ xs) (b ∷ ys) x y (first, all) own = (first, zip_more R xs ys x y all own)

-- the edit of the next text
pub one_more : (R : List ℕ → EditedTag → Type 0) (texts : List (Bor (List ℕ))) (i : ℕ)
    (d : Bor (List ℕ)) (edits more : List EditedTag) (edit : EditedTag) → i < length texts
    → more ≡ edits ++ edit ∷ [] → AllZip (λ text own. R text.now own) (take i texts) edits
    → R (get_or texts i d).now edit
    → AllZip (λ text own. R text.now own) (take (i + 1) texts) more
one_more R texts i d edits more edit within is all own =
    subst (λ es. AllZip (λ text own. R text.now own) (take (i + 1) texts) es) (sym is)
    (subst (λ ts. AllZip (λ text own. R text.now own) ts (edits ++ edit ∷ []))
    (sym (take_more texts i d within))
    (zip_more (λ text own. R text.now own) (take i texts) edits (get_or texts i d) edit all own))

-- the refusal of a text that is there
pub refused_drop : (request : Request) (texts : List (Bor (List ℕ))) (i : ℕ) (d : Bor (List ℕ))
    (why : EditFault) → texts ≡ request.drops.items → i < length texts
    → IsDropFault (get_or texts i d).now why → AreRefused request why
refused_drop request texts i d why are within is = inl (
  get_or texts i d,
  subst (λ xs. Contains xs (get_or texts i d)) are (Contains-get_or texts i d within),
  is,
)

pub refused_set : (request : Request) (texts : List (Bor (List ℕ))) (i : ℕ) (d : Bor (List ℕ))
    (why : EditFault) → texts ≡ request.sets.items → i < length texts
    → IsSetFault (get_or texts i d).now why → AreRefused request why
refused_set request texts i d why are within is = inr (inl (
  get_or texts i d,
  subst (λ xs. Contains xs (get_or texts i d)) are (Contains-get_or texts i d within),
  is,
))
