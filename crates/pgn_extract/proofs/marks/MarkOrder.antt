-- Marks in order: what a search among them finds.
use Rattle.std.proofs.Common.{◌≡◌, ℕ, suc, ◌+◌, ◌<◌, ◌||◌, inl, inr, zero, ◌==◌, ◌&&◌}
use Rattle.std.proofs.Common.{if◌then◌else◌, Bool, true, false, List, [], ◌∷◌, map, length, get_or}
use Rattle.std.proofs.Common.{Ok, Err, refl, sym, ap, ◌∙◌, subst, arith}
use Rattle.std.specs.List.{dedup, dedup_from}
use Rattle.std.specs.List.Sorted.{IsSorted, IsBinarySearchResult, IsPermutation, IsSearchInRange}
use Rattle.std.specs.List.Sorted.{IsNonDecreasingBy, IsStrictlySortedBy}
use Rattle.std.specs.Ordering.{nat_cmp, ordering_then, ordering_index, is_lt, eq_by_cmp}
use Rattle.std.proofs.lemmas.Cmp.{nat_cmp_total, on_total, then_total}
use Rattle.std.proofs.lemmas.List.Folds.{list_any_at}
use Rattle.std.specs.declared.cmp.Ordering.{Ordering}
use Rattle.std.specs.declared.cmp.Ordering.TheVariants.{Less, Equal, Greater}
use Rattle.std.proofs.lemmas.List.Sorted.{searchable_from_sorted, list_any-IsPermutation}
use Rattle.std.proofs.lemmas.List.Kept.{IsStrictlySortedBy-dedup}
use Rattle.std.proofs.lemmas.Map.Keys.{sorted_tail}
use Rattle.std.proofs.lemmas.Map.Views.{All-after_first}
use Rattle.pgn_extract.proofs.Common.{list_any, nat_tests, cases_lt, given_of, is_among, is_mark_of}
use Rattle.pgn_extract.specs.Private.MarkOrder.{AreInOrder}
use Rattle.pgn_extract.specs.declared.marks.GameId.{GameId}

-- a test of marks, over the pairs that they are made of
any_of_pairs : (test : GameId → Bool) (pairs : List (ℕ × ℕ))
    → list_any test (map given_of pairs) ≡ list_any (λ pair. test (given_of pair)) pairs
any_of_pairs test [] = refl
any_of_pairs test (x ∷ xs) = ap (λ b. test (given_of x) || b) (any_of_pairs test xs)

-- a test that no element passes
none_at : {X : Type 0} (test : X → Bool) (xs : List X)
    → ((k : ℕ) (d : X) → k < length xs → test (get_or xs k d) ≡ false) → list_any test xs ≡ false
none_at test [] none = refl
none_at test (x ∷ xs) none =
    rw (none 0 x (omega arith)) (none_at test xs (λ k d less. none (suc k) d (omega arith)))

-- a pair that is not equal fails the test
fails_below : (x : ℕ × ℕ) (id : GameId)
    → ordering_then (nat_cmp x.0 id.number) (nat_cmp x.1 id.offset) ≡ Less
    → is_mark_of id (given_of x) ≡ false
fails_below x id is = grind (arith, nat_tests, is)

fails_above : (x : ℕ × ℕ) (id : GameId)
    → ordering_then (nat_cmp x.0 id.number) (nat_cmp x.1 id.offset) ≡ Greater
    → is_mark_of id (given_of x) ≡ false
fails_above x id is = grind (arith, nat_tests, is)

passes : (x : ℕ × ℕ) (id : GameId) → ordering_then (nat_cmp x.0 id.number) (nat_cmp x.1 id.offset)
    ≡ Equal → is_mark_of id (given_of x) ≡ true
passes x id is = grind (arith, nat_tests, is)

module _ (pairs : List (ℕ × ℕ)) (sorted : AreInOrder pairs) (id : GameId) where
  rise : IsNonDecreasingBy (λ (y : ℕ × ℕ).
      ordering_index (ordering_then (nat_cmp y.0 id.number) (nat_cmp y.1 id.offset))) pairs
  rise = searchable_from_sorted
      (then_total (on_total (λ (x : ℕ × ℕ). x.0) nat_cmp_total)
      (on_total (λ (x : ℕ × ℕ). x.1) nat_cmp_total)) (λ x. x) pairs (id.number, id.offset) sorted

  pub found : (at : ℕ) → IsSearchInRange (Ok at) (length pairs)
      → IsBinarySearchResult (λ (y : ℕ × ℕ).
      ordering_then (nat_cmp y.0 id.number) (nat_cmp y.1 id.offset)) pairs (Ok at)
      → is_among (map given_of pairs) id ≡ true
  found at within equal =
      any_of_pairs (is_mark_of id) pairs
      ∙ list_any_at (λ pair. is_mark_of id (given_of pair)) pairs at
      (0, 0) within (passes _ id (equal (0, 0)))

  pub not_found : (at : ℕ)
      → IsBinarySearchResult (λ (y : ℕ × ℕ).
      ordering_then (nat_cmp y.0 id.number) (nat_cmp y.1 id.offset)) pairs (Err at)
      → is_among (map given_of pairs) id ≡ false
  not_found at parted =
      any_of_pairs (is_mark_of id) pairs
      ∙ none_at (λ pair. is_mark_of id (given_of pair)) pairs (λ k d less.
      elim (cases_lt k at) [
        | inl below ↦ fails_below _ id ((parted rise).0 k d (omega arith) below)
        | inr above ↦ fails_above _ id ((parted rise).1 k d above less)
      ])

-- the order of pairs
abbrev order : ℕ × ℕ → ℕ × ℕ → Ordering
order x y = ordering_then (nat_cmp x.0 y.0) (nat_cmp x.1 y.1)

not_back : (x y : ℕ × ℕ) → order x y ≡ Less → is_lt (order y x) ≡ false
not_back x y is = grind (arith, nat_tests, is)

-- pairs each of which is below those after it are in order
in_order : (pairs : List (ℕ × ℕ)) → IsStrictlySortedBy order pairs → AreInOrder pairs
in_order [] strict k d low less = absurd (omega arith)
in_order (x ∷ []) strict k d low less = absurd (omega arith)
in_order (x ∷ y ∷ more) strict zero d low less =
    not_back x y (All-after_first order x (y ∷ more) strict 0 d (omega arith))
in_order (x ∷ y ∷ more) strict (suc k) d low less =
    let next : suc (k + 1) ≡ suc k + 1 = omega arith in
    let rest =
    in_order (y ∷ more) (sorted_tail order x (y ∷ more) strict) k d (omega arith) (omega arith)
    in
    subst (λ (n : ℕ). is_lt (order (get_or (x ∷ y ∷ more) n d) (get_or (x ∷ y ∷ more) (suc k) d))
    ≡ false) next rest

-- equal pairs are tied
ties : (x y : ℕ × ℕ) → ((x.0 == y.0) && (x.1 == y.1)) ≡ eq_by_cmp order x y
ties x y = grind (arith, nat_tests)

pub deduped_in_order : (pairs : List (ℕ × ℕ)) → IsSorted order pairs
    → AreInOrder (dedup (λ x y. (x.0 == y.0) && (x.1 == y.1)) pairs)
deduped_in_order pairs sorted =
    in_order _
    (IsStrictlySortedBy-dedup
    (then_total (on_total (λ (x : ℕ × ℕ). x.0) nat_cmp_total)
    (on_total (λ (x : ℕ × ℕ). x.1) nat_cmp_total)) ties pairs sorted)

-- the test of a pair beside an equal one
again : (x y : ℕ × ℕ) (id : GameId) (rest : Bool) → ((x.0 == y.0) && (x.1 == y.1)) ≡ true
    → (is_mark_of id (given_of y) || rest)
    ≡ (is_mark_of id (given_of y) || (is_mark_of id (given_of x) || rest))
again x y id rest same = grind (arith, nat_tests, same)

any_of_deduped : (k : ℕ × ℕ) (xs : List (ℕ × ℕ)) (id : GameId)
    → list_any (λ pair. is_mark_of id (given_of pair))
    (dedup_from (λ x y. (x.0 == y.0) && (x.1 == y.1)) k xs)
    ≡ (is_mark_of id (given_of k) || list_any (λ pair. is_mark_of id (given_of pair)) xs)
any_of_deduped k [] id = refl
any_of_deduped k (x ∷ xs) id =
    by_same ((x.0 == k.0) && (x.1 == k.1)) refl (any_of_deduped k xs id) (any_of_deduped x xs id)
  where
    test : ℕ × ℕ → Bool
    test pair = is_mark_of id (given_of pair)

    eq : ℕ × ℕ → ℕ × ℕ → Bool
    eq x y = (x.0 == y.0) && (x.1 == y.1)

    by_same : (same : Bool) → ((x.0 == k.0) && (x.1 == k.1)) ≡ same
        → list_any test (dedup_from eq k xs) ≡ (test k || list_any test xs)
        → list_any test (dedup_from eq x xs) ≡ (test x || list_any test xs)
        → list_any test (if same then dedup_from eq k xs else (k ∷ dedup_from eq x xs))
        ≡ (test k || (test x || list_any test xs))
    by_same true same here there = here ∙ again x k id (list_any test xs) same
    by_same false same here there = ap (λ b. test k || b) there

pub same_marks : (pairs : List (ℕ × ℕ)) (id : GameId)
    → is_among (map given_of (dedup (λ x y. (x.0 == y.0) && (x.1 == y.1)) pairs)) id
    ≡ is_among (map given_of pairs) id
same_marks [] id = refl
same_marks (x ∷ xs) id = any_of_pairs (is_mark_of id) _ ∙ any_of_deduped x xs id
    ∙ sym (any_of_pairs (is_mark_of id) (x ∷ xs))

pub same_permuted : (pairs others : List (ℕ × ℕ)) (id : GameId) → IsPermutation pairs others
    → is_among (map given_of pairs) id ≡ is_among (map given_of others) id
same_permuted pairs others id moved =
    any_of_pairs (is_mark_of id) pairs
    ∙ list_any-IsPermutation (λ pair. is_mark_of id (given_of pair)) pairs others moved
    ∙ sym (any_of_pairs (is_mark_of id) others)
