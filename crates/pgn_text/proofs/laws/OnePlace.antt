-- An element of a game stands at one place, and so does the first tag of a name.
use Rattle.pgn_text.proofs.Common.{◌≡◌, ℕ, ◌+◌, true, false, List, [], ◌∷◌, ◌++◌, length, None}
use Rattle.pgn_text.proofs.Common.{refl, sym, ap, subst, ◌∙◌, inl, inr, arith, append_assoc}
use Rattle.pgn_text.proofs.Common.{append-nil, length-append, is_some, flat_map-append, Part}
use Rattle.pgn_text.proofs.Common.{spelled, items_of, items_of_part, first_tag, IsPlaceOf}
use Rattle.pgn_text.proofs.Common.{GivesElement, IsFirstTag, kept, named_kept}
use Rattle.pgn_text.specs.Public.AnswerLaws.{OneElementPlace, OneTagPlace}
use Rattle.pgn_text.proofs.laws.Lines.{cut_append}
use Rattle.pgn_text.proofs.Located.{fewer_items, neither, none_earlier}
use Rattle.pgn_text.proofs.TagLemmas.{first_tag-cons, first_tag-push}

-- a fact that no part has where one before it has it holds at one place
module _ (fact : List Part → Part → Type 0)
    (once : (before : List Part) (part : Part) (more : List Part) (other : Part) → fact before part
    → fact (before ++ part ∷ more) other → ⊥)
    (parts : List Part) (begin : ℕ) where
  -- of two places the one is not further on
  not_after : (place other : ℕ) (h : IsPlaceOf fact parts begin place)
      (k : IsPlaceOf fact parts begin other) (more : List Part)
      → h.before ≡ k.before ++ more → k.part ∷ k.after ≡ more ++ h.part ∷ h.after → place ≡ other
  not_after place other h k [] e f =
      h.place_is ∙ ap (λ l. begin + length (spelled l)) (e ∙ append-nil k.before) ∙ sym k.place_is
  not_after place other h k (next ∷ more) e f =
      let same : next ≡ k.part = cc in
      absurd (once k.before k.part more h.part k.has_fact
      (subst (λ l. fact l h.part) (e ∙ ap (λ p. k.before ++ p ∷ more) same) h.has_fact))

  one_place_of : (place other : ℕ) → IsPlaceOf fact parts begin place
      → IsPlaceOf fact parts begin other → place ≡ other
  one_place_of place other h k =
      elim (cut_append h.before (h.part ∷ h.after) k.before (k.part ∷ k.after) (sym h.parted
      ∙ k.parted)) [
        | inl t ↦ not_after place other h k t.0 t.1 t.2
        | inr t ↦ sym (not_after other place k h t.0 t.1 t.2)
      ]

-- the next part gives elements of larger indexes
element_once : (index : ℕ) (before : List Part) (part : Part) (more : List Part) (other : Part)
    → GivesElement index before part → GivesElement index (before ++ part ∷ more) other → ⊥
element_once index before part more other h k =
    let few =
    fewer_items (before ++ part ∷ []) more (before ++ part
    ∷ more) (sym (append_assoc before (part ∷ []) more)) in
    let own : length (items_of (before ++ part ∷ []))
    ≡ length (items_of before) + length (items_of_part part) =
    ap length (flat_map-append items_of_part before (part ∷ [])
    ∙ ap (λ l. items_of before ++ l) (append-nil (items_of_part part)))
    ∙ length-append (items_of before) (items_of_part part) in
    omega (arith, h.1, k.0)

pub one_element_place : OneElementPlace
one_element_place f block begin index place other parts rest parted stand some h k =
    one_place_of (GivesElement index) (element_once index) parts begin place other
    (h parts rest parted stand some) (k parts rest parted stand some)

-- after a tag of the name there is no first one
tag_once : (name : List ℕ) (before : List Part) (part : Part) (more : List Part) (other : Part)
    → IsFirstTag name before part → IsFirstTag name (before ++ part ∷ more) other → ⊥
tag_once name before part more other h k =
    let none : first_tag name (before ++ part ∷ []) ≡ None =
    none_earlier name (before ++ part
    ∷ []) more (ap (first_tag name) (append_assoc before (part ∷ []) more) ∙ k.0) in
    let here : named_kept name (kept part) ≡ None =
    (neither (first_tag name before) (named_kept name (kept part))
    (sym (first_tag-push name before part) ∙ none)).1 in
    let alone : first_tag name (part ∷ []) ≡ None = first_tag-cons name part [] ∙ rw here refl in
    let clash : true ≡ false = sym h.1 ∙ ap is_some alone in
    cc

pub one_tag_place : OneTagPlace
one_tag_place f block begin name place other parts rest parted stand some h k =
    one_place_of (IsFirstTag name) (tag_once name) parts begin place other
    (h parts rest parted stand some) (k parts rest parted stand some)
