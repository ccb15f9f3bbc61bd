-- Tags whose names ascend are the entries of a map in the order of their bytes.
use Rattle.std.specs.Prelude.{Some, T, ◌&&◌, if◌then◌else◌}
use Rattle.std.specs.FinMap.{is_sorted}
use Rattle.std.specs.FinMap.Entries.{below_all}
use Rattle.std.specs.List.Sorted.{IsStrictlySortedBy}
use Rattle.std.specs.Ordering.{is_lt}
use Rattle.std.specs.declared.cmp.Ordering.{Ordering}
use Rattle.std.specs.declared.cmp.Ordering.TheVariants.{Equal, Greater}
use Rattle.pgn_text.proofs.Common.{◌≡◌, ℕ, Bool, true, false, cond, List, [], ◌∷◌, refl, ap}
use Rattle.pgn_text.proofs.Common.{◌∙◌, slice_cmp, find, AllByRecursion, nat_cmp, is_eq}
use Rattle.pgn_text.proofs.Common.{Less, is_eq-slice_cmp, tag_in, tag_names}

-- the order of names
abbrev pub name_cmp : List ℕ → List ℕ → Ordering
name_cmp = slice_cmp nat_cmp

both_hold : (a b : Bool) → T a → T b → T (a && b)
both_hold true b first second = second
both_hold false b first second = absurd first

both_held : (a b : Bool) → T (a && b) → T a × T b
both_held true b holds = (tt, holds)
both_held false b holds = absurd holds

is_less : (o : Ordering) → T (is_lt o) → o ≡ Less
is_less Less holds = refl
is_less Equal holds = absurd holds
is_less Greater holds = absurd holds

-- a name below each name of the tags
below_tags : (name : List ℕ) (tags : List (List ℕ × List ℕ))
    → AllByRecursion (λ other. name_cmp name other ≡ Less) (tag_names tags)
    → T (below_all name_cmp name tags)
below_tags name [] below = tt
below_tags name (tag ∷ tags) below =
    rw below.0 (below_tags name tags below.1)

below_names : (name : List ℕ) (tags : List (List ℕ × List ℕ)) → T (below_all name_cmp name tags)
    → AllByRecursion (λ other. name_cmp name other ≡ Less) (tag_names tags)
below_names name [] below = tt
below_names name (tag ∷ tags) below =
    let parts = both_held (is_lt (name_cmp name tag.0)) (below_all name_cmp name tags) below in
    (is_less (name_cmp name tag.0) parts.0, below_names name tags parts.1)

-- what ascends by names is in a map's order
pub sorted_tags : (tags : List (List ℕ × List ℕ)) → IsStrictlySortedBy name_cmp (tag_names tags)
    → T (is_sorted name_cmp tags)
unfolding IsStrictlySortedBy
sorted_tags [] ascends = tt
sorted_tags (tag ∷ tags) ascends =
    both_hold (below_all name_cmp tag.0 tags) (is_sorted name_cmp tags)
    (below_tags tag.0 tags ascends.0) (sorted_tags tags ascends.1)

-- and the other way
pub names_of_sorted : (tags : List (List ℕ × List ℕ)) → T (is_sorted name_cmp tags)
    → IsStrictlySortedBy name_cmp (tag_names tags)
unfolding IsStrictlySortedBy
names_of_sorted [] sorted = tt
names_of_sorted (tag ∷ tags) sorted =
    let parts = both_held (below_all name_cmp tag.0 tags) (is_sorted name_cmp tags) sorted in
    (below_names tag.0 tags parts.0, names_of_sorted tags parts.1)

-- a look-up in a map finds the tag of a name
pub find-tag_in : (wanted : List ℕ) (tags : List (List ℕ × List ℕ))
    → find name_cmp wanted tags ≡ tag_in wanted tags
find-tag_in wanted [] = refl
find-tag_in wanted (tag ∷ tags) =
    ap (cond (is_eq (name_cmp wanted tag.0)) (Some tag.1)) (find-tag_in wanted tags)
    ∙ ap (λ v. if v then Some tag.1 else tag_in wanted tags) (is_eq-slice_cmp wanted tag.0)
