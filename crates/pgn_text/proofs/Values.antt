-- The contents of a string and their value.
use Rattle.std.specs.Prelude.{None, IsTrue, ◌||◌, not, ◌↔◌}
use Rattle.pgn_text.proofs.Common.{◌≡◌, ℕ, ◌-◌, ◌≤◌, Bool, true, false, List, [], ◌∷◌, ◌++◌, length}
use Rattle.pgn_text.proofs.Common.{take, drop, refl, sym, ap, ◌∙◌, subst, append-nil, arith}
use Rattle.pgn_text.proofs.Common.{length-drop, nat_tests, Option, Some, option_map, if◌then◌else◌}
use Rattle.pgn_text.proofs.Common.{◌==◌, ◌&&◌, flat_map, list_all, and_parts, not-true, or_parts}
use Rattle.pgn_text.proofs.Common.{eqb-true, is_plain, Sign, Single, Escaped, spelled_sign, is_sign}
use Rattle.pgn_text.proofs.Common.{value_of_sign, IsContents, ContentsTo, nil_from_length}
use Rattle.pgn_text.specs.Public.Strings.{HasValue}
use Rattle.pgn_text.specs.Shared.StringTexts.{with_byte, contents_front, value_of}
use Rattle.pgn_text.proofs.FoundLemmas.{IsRead, contents-sound}

-- signs are read to the end of the text
signs-whole : (signs : List Sign) → IsTrue (list_all is_sign signs)
    → contents_front false (flat_map spelled_sign signs) ≡ Some (flat_map spelled_sign signs, [])
signs-whole [] all = refl
signs-whole (Single b ∷ signs) all =
    let parts : (is_sign (Single b) ≡ true) × (list_all is_sign signs ≡ true) = and_parts _ _ all in
    let plain : (is_plain b ≡ true) × ((not (b == 34) && not (b == 92)) ≡ true) =
    and_parts _ _ parts.0 in
    let others : (not (b == 34) ≡ true) × (not (b == 92) ≡ true) = and_parts _ _ plain.1 in
    rw (
      not-true _ others.0,
      not-true _ others.1,
      plain.0,
    ) (ap (option_map (with_byte b)) (signs-whole signs parts.1))
signs-whole (Escaped b ∷ signs) all =
    let parts : (is_plain b ≡ true) × (list_all is_sign signs ≡ true) = and_parts _ _ all in
    rw parts.0
    (ap (λ found. option_map (with_byte 92) (option_map (with_byte b) found))
    (signs-whole signs parts.1))

contents-whole : (text : List ℕ) → IsContents text → contents_front false text ≡ Some (text, [])
contents-whole text (signs, spells, all) = rw spells (signs-whole signs all)

-- the longest contents are the whole text exactly if nothing follows them
pub is_contents-some : (text front rest : List ℕ) (r : Bool)
    → Some (front, rest) ≡ contents_front false text → r ≡ (length rest == 0)
    → IsTrue r ↔ IsContents text
is_contents-some text front rest r read is =
    let sound : IsContents front × (text ≡ front ++ rest) =
    subst (IsRead false text) (sym read) (contents-sound false text) in (
      (λ yes. let none : rest ≡ [] = nil_from_length rest (eqb-true _ _ (sym is ∙ yes)) in
          subst IsContents (sym (sound.1 ∙ ap (λ xs. front ++ xs) none ∙ append-nil front))
          sound.0),
      (λ contents. let whole : Some (front, rest) ≡ Some (text, []) =
          read ∙ contents-whole text contents in
          let after : Option (List ℕ × List ℕ) → List ℕ =
          λ o. elim o [ None ↦ rest | Some found ↦ found.1 ] in
          is ∙ ap (λ xs. length xs == 0) (ap after whole)),
    )

-- the same where they end at a place
pub is_contents-end : (text : List ℕ) (end : ℕ) → ContentsTo text 0 end
    → IsTrue (end == length text) ↔ IsContents text
is_contents-end text end to =
    let within : end ≤ length text = to.within in
    let same : (end == length text) ≡ (length (drop end text) == 0) =
    rw (length-drop end text) (grind (arith, nat_tests)) in
    is_contents-some text (take (end - 0) text) (drop end text) (end == length text) (sym to.found)
    same

pub is_contents-none : (text : List ℕ) → None ≡ contents_front false text
    → IsTrue false ↔ IsContents text
is_contents-none text read = (
  (λ yes. absurd (cc)),
  (λ contents. let whole : None ≡ Some (text, []) = read ∙ contents-whole text contents in
      absurd (cc)),
)

-- a byte that is no backslash stands for itself
value_of-single : (b : ℕ) (rest : List ℕ) → (b == 92) ≡ false
    → value_of (b ∷ rest) ≡ b ∷ value_of rest
value_of-single b [] is = refl
value_of-single b (x ∷ xs) is = rw is refl

escaped_value : (b : ℕ) (rest : List ℕ) (v : Bool) → (b == 34 || b == 92) ≡ v
    → (if v then b ∷ value_of rest else 92 ∷ value_of (b ∷ rest))
    ≡ (if v then b ∷ [] else 92 ∷ b ∷ []) ++ value_of rest
escaped_value b rest true is = refl
escaped_value b rest false is =
    let parts : ((b == 34) ≡ false) × ((b == 92) ≡ false) = or_parts _ _ is in
    ap (λ (xs : List ℕ). 92 ∷ xs) (value_of-single b rest parts.1)

value_of-signs : (signs : List Sign) → IsTrue (list_all is_sign signs)
    → value_of (flat_map spelled_sign signs) ≡ flat_map value_of_sign signs
value_of-signs [] all = refl
value_of-signs (Single b ∷ signs) all =
    let parts : (is_sign (Single b) ≡ true) × (list_all is_sign signs ≡ true) = and_parts _ _ all in
    let plain : (is_plain b ≡ true) × ((not (b == 34) && not (b == 92)) ≡ true) =
    and_parts _ _ parts.0 in
    let others : (not (b == 34) ≡ true) × (not (b == 92) ≡ true) = and_parts _ _ plain.1 in
    value_of-single b (flat_map spelled_sign signs) (not-true _ others.1)
    ∙ ap (λ (xs : List ℕ). b ∷ xs) (value_of-signs signs parts.1)
value_of-signs (Escaped b ∷ signs) all =
    let parts : (is_plain b ≡ true) × (list_all is_sign signs ≡ true) = and_parts _ _ all in
    escaped_value b (flat_map spelled_sign signs) (b == 34 || b == 92) refl
    ∙ ap (λ xs. (if (b == 34 || b == 92) then b ∷ [] else 92 ∷ b ∷ [])
    ++ xs) (value_of-signs signs parts.1)

-- contents have the value that is computed
pub has_value : (contents : List ℕ) → IsContents contents
    → (signs : List Sign) × HasValue contents (value_of contents) signs
has_value contents (signs, spells, all) = (
  signs,
  record {
    spells = spells;
    each = all;
    gives =
        ap value_of spells ∙ value_of-signs signs all;
  },
)

-- contents have one value
pub one_value : (contents value : List ℕ) (signs : List Sign) → HasValue contents value signs
    → value ≡ value_of contents
one_value contents value signs has = has.gives ∙ sym (value_of-signs signs has.each)
    ∙ ap value_of (sym has.spells)
