-- Whether the value of a tag stands in a relation to a text is settled.
use Rattle.std.proofs.Common.{◌≡◌, ◌↔◌, ◌==◌, ◌<◌, ℕ, length, Option, Some, None, Bool, true, false}
use Rattle.std.proofs.Common.{List, [], ◌∷◌, IsTrue, refl, sym, ap, inl, inr, arith}
use Rattle.std.specs.declared.cmp.Ordering.{Ordering}
use Rattle.pgn_criteria.proofs.Common.{eqb-true, cases_lt, nat_tests, Settled, settled_like}
use Rattle.pgn_criteria.proofs.Common.{settled_not, settled_true, settled_le, IsContents, value_of}
use Rattle.pgn_criteria.proofs.Common.{order_of, Allows, Stands, Compares, IsNumber, number_in}
use Rattle.pgn_criteria.proofs.Common.{Comparison, Relation, Has, Begins}
use Rattle.pgn_text.specs.Shared.StringTexts.{contents_front}
use Rattle.pgn_text.proofs.Values.{is_contents-none, is_contents-some}
use Rattle.pgn_criteria.specs.declared.compare.Relation.TheVariants.{Equal, Unequal, Less}
use Rattle.pgn_criteria.specs.declared.compare.Relation.TheVariants.{LessOrEqual, Greater}
use Rattle.pgn_criteria.specs.declared.compare.Relation.TheVariants.{GreaterOrEqual}
use Rattle.pgn_criteria.proofs.CompareFacts.{stands_so, number_so, number_missing}
use Rattle.pgn_criteria.proofs.WithinFacts.{begins_next, has_next, has_at_once, has_nothing}
use Rattle.std.specs.declared.cmp.Ordering.TheVariants as order
use Rattle.pgn_criteria.specs.declared.compare.Comparison.TheVariants as compared

-- where a test of the first fact is one of the second, the second is settled with the first
pub settled_by : {A B : Type 0} → ((r : Bool) → (IsTrue r ↔ A) → IsTrue r ↔ B) → Settled A
    → Settled B
settled_by how (inl a) = inl ((how true (λ t. a, λ x. refl)).0 refl)
settled_by how (inr none) =
    inr (λ b. let t : false ≡ true = (how false (λ f. absurd (cc), λ a. absurd (none a))).1 b in cc)

-- and by a test itself
settled_test : {A : Type 0} (r : Bool) → (IsTrue r ↔ A) → Settled A
settled_test r reports = settled_like reports.0 reports.1 (settled_true r)

-- ---- numbers

pub settled_less_than : (a b : ℕ) → Settled (a < b)
settled_less_than a b =
    elim (cases_lt a b) [ inl less ↦ inl less | inr over ↦ inr (λ less. omega (arith, less, over)) ]

pub settled_same : (a b : ℕ) → Settled (a ≡ b)
settled_same a b =
    settled_like (eqb-true a b) (λ e. grind (arith, nat_tests)) (settled_true (a == b))

pub settled_compared : (comparison : Comparison) (a b : ℕ) → Settled (Compares comparison a b)
settled_compared compared.Equal a b = settled_same a b
settled_compared compared.Unequal a b = settled_not (settled_same a b)
settled_compared compared.Less a b = settled_less_than a b
settled_compared compared.LessOrEqual a b = settled_le a b
settled_compared compared.Greater a b = settled_less_than b a
settled_compared compared.GreaterOrEqual a b = settled_le b a

-- ---- the values of tags

settled_less : (found : Ordering) → Settled (found ≡ order.Less)
settled_less order.Less = inl refl
settled_less order.Equal = inr (λ e. cc)
settled_less order.Greater = inr (λ e. cc)

settled_equal : (found : Ordering) → Settled (found ≡ order.Equal)
settled_equal order.Less = inr (λ e. cc)
settled_equal order.Equal = inl refl
settled_equal order.Greater = inr (λ e. cc)

settled_greater : (found : Ordering) → Settled (found ≡ order.Greater)
settled_greater order.Less = inr (λ e. cc)
settled_greater order.Equal = inr (λ e. cc)
settled_greater order.Greater = inl refl

settled_begins : (a b : List ℕ) → Settled (Allows Begins a b)
settled_begins a [] = inl (a, refl)
settled_begins [] (y ∷ b) = inr (λ begun. let e = begun.1 in cc)
settled_begins (x ∷ a) (y ∷ b) = elim (settled_same x y) [
  | inl same ↦ let next = begins_next (x ∷ a) (y ∷ b) a b x refl (ap (λ (z : ℕ). z ∷ b) (sym same))
      in settled_like next.0 next.1 (settled_begins a b)
  | inr other ↦ inr (λ begun. let e = begun.1 in other (cc))
]

settled_has : (a b : List ℕ) → Settled (Allows Has a b)
settled_has [] b = settled_like (has_at_once [] b) (has_nothing b) (settled_begins [] b)
settled_has (x ∷ a) b = elim (settled_begins (x ∷ a) b) [
  | inl begun ↦ inl (has_at_once (x ∷ a) b begun)
  | inr none ↦ let next = has_next (x ∷ a) b none in settled_like next.0 next.1 (settled_has a b)
]

settled_relation : (relation : Relation) (a b : List ℕ) → Settled (Allows relation a b)
settled_relation Equal a b = settled_equal (order_of a b)
settled_relation Unequal a b = settled_not (settled_equal (order_of a b))
settled_relation Less a b = settled_less (order_of a b)
settled_relation LessOrEqual a b = settled_not (settled_greater (order_of a b))
settled_relation Greater a b = settled_greater (order_of a b)
settled_relation GreaterOrEqual a b = settled_not (settled_less (order_of a b))
settled_relation Has a b = settled_has a b
settled_relation Begins a b = settled_begins a b

-- ---- contents

-- a text is the contents of a string where the longest contents that it begins with are all of it
pub settled_contents : (text : List ℕ) → Settled (IsContents text)
settled_contents text =
    elim (contents_front false text) as (λ o. o ≡ contents_front false text
    → Settled (IsContents text)) [
      | None ↦ λ none. settled_test false (is_contents-none text none)
      | Some found ↦ λ read. settled_test (length found.1 == 0)
          (is_contents-some text found.0 found.1 (length found.1 == 0) read refl)
    ] refl

settled_values : (relation : Relation) (given text : List ℕ) → IsContents given → IsContents text
    → Settled (Stands relation given text)
settled_values relation given text of_given of_text =
    settled_by (λ r reports. stands_so relation given text r of_given of_text reports)
    (settled_relation relation (value_of given) (value_of text))

-- without contents of strings there are no values
pub settled_stands : (relation : Relation) (given text : List ℕ)
    → Settled (Stands relation given text)
settled_stands relation given text = elim (settled_contents given) [
  | inr none ↦ inr (λ stands. none (stands.signs, stands.has.spells, stands.has.each))
  | inl of_given ↦ elim (settled_contents text) [
    | inr none ↦ inr (λ stands.
        none (stands.other_signs, stands.other_has.spells, stands.other_has.each))
    | inl of_text ↦ settled_values relation given text of_given of_text
  ]
]

-- so it is with a number
settled_found : (comparison : Comparison) (given : List ℕ) (number : ℕ) (found : Option ℕ)
    → IsContents given → number_in (value_of given) ≡ found
    → Settled (IsNumber comparison given number)
settled_found comparison given number None good none =
    inr (number_missing comparison given number good none)
settled_found comparison given number (Some own) good is =
    settled_by (λ r reports. number_so comparison given number own r good is reports)
    (settled_compared comparison own number)

pub settled_number : (comparison : Comparison) (given : List ℕ) (number : ℕ)
    → Settled (IsNumber comparison given number)
settled_number comparison given number = elim (settled_contents given) [
  | inr none ↦ inr (λ it. none (it.signs, it.has.spells, it.has.each))
  | inl good ↦ settled_found comparison given number (number_in (value_of given)) good refl
]
