-- Values that stand in a relation.
use Rattle.pgn_criteria.proofs.Common.{◌≡◌, ◌↔◌, sym, ap, ◌∙◌, subst, List, ℕ, Bool, IsTrue, Some}
use Rattle.pgn_criteria.proofs.Common.{None, IsContents, value_of, has_value, one_value, Allows}
use Rattle.pgn_criteria.proofs.Common.{Stands, Compares, IsNumber, number_in, Comparison, Relation}

-- contents have one value, so their values decide
pub stands_so : (relation : Relation) (given text : List ℕ) (r : Bool) → IsContents given
    → IsContents text → (IsTrue r ↔ Allows relation (value_of given) (value_of text))
    → IsTrue r ↔ Stands relation given text
stands_so relation given text r of_given of_text reports =
    let first = has_value given of_given in
    let second = has_value text of_text in (
      λ t. record {
        value = value_of given;
        other = value_of text;
        signs = first.0;
        other_signs = second.0;
        has = first.1;
        other_has = second.1;
        allowed = reports.0 t;
      },
      λ stands. reports.1
          (rw (← (one_value given stands.value stands.signs stands.has)) (subst (Allows relation
          stands.value) (one_value text stands.other stands.other_signs stands.other_has)
          stands.allowed)),
    )

some_same : {a b : ℕ} → Some a ≡ Some b → a ≡ b
some_same e = cc

-- and so it is of the number that the value is, where it is one
pub number_so : (comparison : Comparison) (given : List ℕ) (number own : ℕ) (r : Bool)
    → IsContents given → number_in (value_of given) ≡ Some own
    → (IsTrue r ↔ Compares comparison own number) → IsTrue r ↔ IsNumber comparison given number
number_so comparison given number own r good is reports =
    let it = has_value given good in (
      λ t. record {
        value = value_of given;
        signs = it.0;
        has = it.1;
        own = own;
        is = is;
        holds = reports.0 t;
      },
      λ stands. reports.1 (rw (← (some_same (sym stands.is ∙ ap number_in (one_value given
          stands.value stands.signs stands.has) ∙ is))) stands.holds),
    )

pub number_missing : (comparison : Comparison) (given : List ℕ) (number : ℕ) → IsContents given
    → number_in (value_of given) ≡ None → IsNumber comparison given number → ⊥
number_missing comparison given number good none it =
    let both : Some it.own ≡ None = sym it.is
    ∙ ap number_in (one_value given it.value it.signs it.has) ∙ none in cc
