-- Values that begin with a text, and that have it within them.
use Rattle.std.specs.Prelude.{Option, Some, None, IsTrue, ◌==◌, ◌&&◌, not, flat_map, ◌↔◌}
use Rattle.std.specs.Option.{option_eq}
use Rattle.std.specs.Iterator.{YieldsFirst}
use Rattle.std.proofs.lemmas.List.{length-drop}
use Rattle.pgn_criteria.proofs.Common.{◌≡◌, ◌≢◌, ◌≤◌, ◌-◌, ℕ, true, false, List, [], ◌∷◌, ◌++◌}
use Rattle.pgn_criteria.proofs.Common.{length, get_or, take, drop, refl, sym, ap, ◌∙◌, arith}
use Rattle.pgn_criteria.proofs.Common.{nat_tests, list_all, and_parts, take_all, Allows, Has}
use Rattle.pgn_criteria.proofs.Common.{Begins, Sign, Single, Escaped, spelled_sign, IsContents}
use Rattle.pgn_text.specs.Public.Bytes.{is_plain}
use Rattle.pgn_text.specs.Public.Strings.{is_sign}

-- ---- contents without the first byte of their value

-- a byte after a backslash goes with it
escape_dropped : (signs : List Sign) → IsTrue (list_all is_sign signs)
    → get_or (flat_map spelled_sign signs) 0 0 ≡ 92
    → IsContents (drop 2 (flat_map spelled_sign signs))
escape_dropped [] all first = absurd (cc)
escape_dropped (Single b ∷ signs) all first = absurd (grind (arith, nat_tests))
escape_dropped (Escaped b ∷ signs) all first = (signs, refl, (and_parts _ _ all).1)

-- another byte goes alone: a backslash that stays in the value leaves the byte after it
byte_dropped : (signs : List Sign) → IsTrue (list_all is_sign signs)
    → (2 ≤ length (flat_map spelled_sign signs) → get_or (flat_map spelled_sign signs) 0 0 ≡ 92
    → (get_or (flat_map spelled_sign signs) 1 0 ≢ 34)
    × (get_or (flat_map spelled_sign signs) 1 0 ≢ 92))
    → IsContents (drop 1 (flat_map spelled_sign signs))
byte_dropped [] all other = ([], refl, refl)
byte_dropped (Single b ∷ signs) all other = (signs, refl, (and_parts _ _ all).1)
byte_dropped (Escaped b ∷ signs) all other =
    let parts : (is_plain b ≡ true) × (list_all is_sign signs ≡ true) = and_parts _ _ all in
    let others : (b ≢ 34) × (b ≢ 92) = other (omega arith) refl in
    let single : (is_plain b && (not (b == 34) && not (b == 92))) ≡ true =
    grind (arith, nat_tests) in
    (Single b ∷ signs, refl, rw single parts.1)

pub after_escape : (contents : List ℕ) → IsContents contents → get_or contents 0 0 ≡ 92
    → IsContents (take (length contents - 2) (drop 2 contents))
after_escape contents (signs, is, all) first =
    rw (take_all (length contents - 2) (drop 2 contents) (omega (arith, length-drop 2 contents)))
    (rw is (escape_dropped signs all (ap (λ c. get_or c 0 0) (sym is) ∙ first)))

pub after_byte : (contents : List ℕ) → IsContents contents
    → (2 ≤ length contents → get_or contents 0 0 ≡ 92
    → (get_or contents 1 0 ≢ 34) × (get_or contents 1 0 ≢ 92))
    → IsContents (take (length contents - 1) (drop 1 contents))
after_byte contents (signs, is, all) other =
    rw (take_all (length contents - 1) (drop 1 contents) (omega (arith, length-drop 1 contents)))
    (rw is (byte_dropped signs all (rw (← is) other)))

-- ---- a value that begins with a text

-- the next byte of both is the same
pub same_next : (given after : List ℕ) (byte : ℕ) (next : Option ℕ)
    → YieldsFirst (λ bytes. bytes) given next after
    → not (option_eq ◌==◌ next (Some byte)) ≡ false → given ≡ byte ∷ after
same_next given after byte None yields same = absurd (cc)
same_next given after byte (Some x) yields same =
    let e : x ≡ byte = grind (arith, nat_tests) in
    yields ∙ ap (λ (y : ℕ). y ∷ after) e

pub begins_next : (given text given_after text_after : List ℕ) (byte : ℕ)
    → given ≡ byte ∷ given_after → text ≡ byte ∷ text_after
    → Allows Begins given_after text_after ↔ Allows Begins given text
begins_next given text given_after text_after byte is means = (
  (λ begun. (
    begun.0,
    is ∙ ap (λ (xs : List ℕ). byte ∷ xs) begun.1 ∙ ap (λ (xs : List ℕ). xs ++ begun.0) (sym means),
  )),
  (λ begun. (begun.0, ap (drop 1) (sym is ∙ begun.1 ∙ ap (λ (xs : List ℕ). xs ++ begun.0) means))),
)

-- ---- a value that has a text within it

has_after : (given text : List ℕ) → (Allows Begins given text → ⊥) → Allows Has given text
    → Allows Has (drop 1 given) text
has_after given text none ([], back, is) = absurd (none (back, is))
has_after given text none (byte ∷ front, back, is) = (front, back, ap (drop 1) is)

has_before : (given text : List ℕ) → Allows Has (drop 1 given) text → Allows Has given text
has_before [] text within = within
has_before (byte ∷ given) text (front, back, is) =
    (byte ∷ front, back, ap (λ (xs : List ℕ). byte ∷ xs) is)

-- where it does not stand at the beginning it stands after the first byte
pub has_next : (given text : List ℕ) → (Allows Begins given text → ⊥)
    → Allows Has (drop 1 given) text ↔ Allows Has given text
has_next given text none = (has_before given text, has_after given text none)

pub has_at_once : (given text : List ℕ) → Allows Begins given text → Allows Has given text
has_at_once given text (back, is) = ([], back, is)

-- nothing has only what it begins with
pub has_nothing : (text : List ℕ) → Allows Has [] text → Allows Begins [] text
has_nothing text ([], back, is) = (back, is)
has_nothing text (byte ∷ front, back, is) = absurd (cc)
