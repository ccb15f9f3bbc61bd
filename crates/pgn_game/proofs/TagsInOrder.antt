-- Names with those first that are asked for first.
use Rattle.std.specs.Prelude.{filter, not, ◌||◌, ◌&&◌, bytes_eq, if◌then◌else◌, is_some}
use Rattle.std.specs.List.{list_any}
use Rattle.std.proofs.lemmas.List.{append_assoc}
use Rattle.pgn_game.proofs.Common.{◌≡◌, ℕ, Bool, true, false, List, [], ◌∷◌, ◌++◌, refl, sym, ap}
use Rattle.pgn_game.proofs.Common.{◌∙◌, subst, map, tag_in, tag_names, Some}
use Rattle.pgn_text.proofs.TagLemmas.{bytes_eq-same}
use Rattle.pgn_game.specs.Public.Laws.{SameNamesInOrder}
use Rattle.pgn_game.specs.Public.TagLines.{in_order, is_among}

-- ---- names among others

either_way : (same one two : Bool) → (same || (one || two)) ≡ ((same || one) || two)
either_way true one two = refl
either_way false one two = refl

among_both : (names more : List (List ℕ)) (name : List ℕ)
    → is_among (names ++ more) name ≡ (is_among names name || is_among more name)
among_both [] more name = refl
among_both (first ∷ names) more name =
    ap (λ b. bytes_eq first name || b) (among_both names more name)
    ∙ either_way (bytes_eq first name) (is_among names name) (is_among more name)

not_there : (passes : Bool) → false ≡ (passes && false)
not_there true = refl
not_there false = refl

-- a name that is equal passes the same test
one_passed : (test : List ℕ → Bool) (names : List (List ℕ)) (first name : List ℕ)
    → is_among (filter test names) name ≡ (test name && is_among names name)
    → is_among (filter test (first ∷ names)) name
    ≡ (test name && (bytes_eq first name || is_among names name))
one_passed test names first name later =
    by (test first) refl (bytes_eq first name) refl (test name) refl
  where
    by : (passes : Bool) → test first ≡ passes → (same : Bool) → bytes_eq first name ≡ same
        → (own : Bool) → test name ≡ own
        → is_among (if passes then first ∷ filter test names else filter test names) name
        ≡ (own && (same || is_among names name))
    by true is true eq true has = ap (λ b. b || is_among (filter test names) name) eq
    by true is true eq false has =
        let no = sym (subst (λ n. test n ≡ true) (bytes_eq-same first name eq) is) ∙ has in cc
    by true is false eq own has =
        ap (λ b. b || is_among (filter test names) name) eq ∙ later
        ∙ ap (λ b. b && is_among names name) has
    by false is true eq true has =
        let no = sym (subst (λ n. test n ≡ false) (bytes_eq-same first name eq) is) ∙ has in cc
    by false is true eq false has = later ∙ ap (λ b. b && is_among names name) has
    by false is false eq own has = later ∙ ap (λ b. b && is_among names name) has

-- those among the names that pass a test
pub among_passed : (test : List ℕ → Bool) (names : List (List ℕ)) (name : List ℕ)
    → is_among (filter test names) name ≡ (test name && is_among names name)
among_passed test [] name = not_there (test name)
among_passed test (first ∷ names) name =
    one_passed test names first name (among_passed test names name)

either_side : (name other : List ℕ) → bytes_eq name other ≡ bytes_eq other name
either_side name other = by (bytes_eq name other) refl (bytes_eq other name) refl
  where
    turned : name ≡ other → bytes_eq name other ≡ bytes_eq other name
    turned same = ap (bytes_eq name) (sym same) ∙ ap (λ n. bytes_eq n name) same

    by : (one : Bool) → bytes_eq name other ≡ one → (two : Bool) → bytes_eq other name ≡ two
        → bytes_eq name other ≡ bytes_eq other name
    by true is two also = turned (bytes_eq-same name other is)
    by false is true also = turned (sym (bytes_eq-same other name also))
    by false is false also = is ∙ sym also

-- the names of tags
pub among_tags : (tags : List (List ℕ × List ℕ)) (name : List ℕ)
    → is_some (tag_in name tags) ≡ is_among (tag_names tags) name
among_tags [] name = refl
among_tags (tag ∷ tags) name =
    found (bytes_eq name tag.0) ∙ ap (λ b. b || is_some (tag_in name tags)) (either_side name tag.0)
    ∙ ap (λ b. bytes_eq tag.0 name || b) (among_tags tags name)
  where
    found : (same : Bool) → is_some (if same then Some tag.1 else tag_in name tags)
        ≡ (same || is_some (tag_in name tags))
    found true = refl
    found false = refl

-- ---- the same names

here_or_there : (here asked : Bool) → ((here && asked) || (not asked && here)) ≡ here
here_or_there true true = refl
here_or_there true false = refl
here_or_there false true = refl
here_or_there false false = refl

pub same_names_in_order : SameNamesInOrder
same_names_in_order [] names name = refl
same_names_in_order (first ∷ order) names name =
    among_both (filter (is_among names) (first ∷ order))
    (filter (λ n. not (is_among (first ∷ order) n)) names) name
    ∙ ap (λ b. b || is_among (filter (λ n. not (is_among (first ∷ order) n)) names) name)
    (among_passed (is_among names) (first ∷ order) name)
    ∙ ap (λ b. (is_among names name && is_among (first ∷ order) name) || b)
    (among_passed (λ n. not (is_among (first ∷ order) n)) names name)
    ∙ here_or_there (is_among names name) (is_among (first ∷ order) name)

-- ---- as they are written

-- all pass a test that says yes
all_pass : (names : List (List ℕ)) → filter (λ _. true) names ≡ names
all_pass [] = refl
all_pass (name ∷ names) = ap (λ more. name ∷ more) (all_pass names)

-- first those that are asked for, then the others
pub ordered_parts : (order names : List (List ℕ))
    → filter (is_among names) order ++ filter (λ name. not (is_among order name)) names
    ≡ in_order order names
ordered_parts [] names = all_pass names
ordered_parts (first ∷ order) names = refl

-- two tests, one after the other
pub both_tests : (test other : List ℕ → Bool) (names : List (List ℕ))
    → filter (λ name. test name && other name) names ≡ filter other (filter test names)
both_tests test other [] = refl
both_tests test other (name ∷ names) = by (test name) (other name)
    refl (both_tests test other names)
  where
    both : List (List ℕ)
    both = filter (λ n. test n && other n) names

    by : (passes also : Bool) → other name ≡ also → both ≡ filter other (filter test names)
        → (if (passes && also) then name ∷ both else both)
        ≡ filter other (if passes then name ∷ filter test names else filter test names)
    by true also is more = ap (λ own. if also then name ∷ own else own) more
        ∙ ap (λ (b : Bool). if b then name ∷ filter other (filter test names)
        else filter other (filter test names)) (sym is)
    by false also is more = more

-- names as they are held
pub among_items : {V : Type 0} (items_of : V → List ℕ) (names : List V) (name : List ℕ)
    → list_any (λ other. bytes_eq (items_of other) name) names
    ≡ is_among (map items_of names) name
among_items items_of [] name = refl
among_items items_of (first ∷ names) name =
    ap (λ b. bytes_eq (items_of first) name || b) (among_items items_of names name)

-- three texts, one after another
pub in_a_row : (out some more last one two three : List ℕ) → one ≡ out ++ some
    → two ≡ one ++ more → three ≡ two ++ last → three ≡ out ++ (some ++ (more ++ last))
in_a_row out some more last one two three first second third =
    third ∙ ap (λ xs. xs ++ last) (second ∙ ap (λ xs. xs ++ more) first)
    ∙ append_assoc (out ++ some) more last ∙ append_assoc out some (more ++ last)
