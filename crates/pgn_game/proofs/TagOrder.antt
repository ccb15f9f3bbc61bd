-- Tags that are read one after another, each with a larger name, ascend; and the other way round.
use Rattle.std.specs.Cmp.Lexicographic.{nat_list_cmp_total}
use Rattle.std.specs.List.Sorted.{IsStrictlySortedBy}
use Rattle.std.specs.Ordering.{is_lt}
use Rattle.std.specs.declared.cmp.Ordering.{Ordering}
use Rattle.pgn_game.proofs.Common.{◌≡◌, ℕ, true, List, [], ◌∷◌, Option, Some, None, ap, refl}
use Rattle.pgn_game.proofs.Common.{slice_cmp, AllByRecursion, nat_cmp, Less, Equal, Greater}
use Rattle.pgn_game.proofs.Common.{tag_names, Tag, follows}

-- each tag follows the one before it, and the first one the last
abbrev pub AreRising : Option (List ℕ) → List Tag → Type 0
AreRising last [] = Unit {0}
AreRising last (tag ∷ tags) = (follows last tag.0 ≡ true) × AreRising (Some tag.0) tags

abbrev AreBelow : List ℕ → List (List ℕ) → Type 0
AreBelow last names = AllByRecursion (λ name. slice_cmp nat_cmp last name ≡ Less) names

abbrev AreSorted : List Tag → Type 0
AreSorted tags = IsStrictlySortedBy (slice_cmp nat_cmp) (tag_names tags)

less_is : (order : Ordering) → is_lt order ≡ true → order ≡ Less
less_is Less e = refl
less_is Equal e = absurd cc
less_is Greater e = absurd cc

further : (last name : List ℕ) (names : List (List ℕ)) → slice_cmp nat_cmp last name ≡ Less
    → AreBelow name names → AreBelow last names
further last name [] less below = tt
further last name (next ∷ names) less below =
    (nat_list_cmp_total.trans last name next less below.0, further last name names less below.1)

sorted_after : (last : List ℕ) (tags : List Tag) → AreRising (Some last) tags
    → AreBelow last (tag_names tags) × AreSorted tags
unfolding IsStrictlySortedBy
sorted_after last [] rising = (tt, tt)
sorted_after last (tag ∷ tags) rising =
    let less = less_is (slice_cmp nat_cmp last tag.0) rising.0 in
    let rest = sorted_after tag.0 tags rising.1 in
    ((less, further last tag.0 (tag_names tags) less rest.0), (rest.0, rest.1))

pub rising_is_sorted : (tags : List Tag) → AreRising None tags → AreSorted tags
unfolding IsStrictlySortedBy
rising_is_sorted [] rising = tt
rising_is_sorted (tag ∷ tags) rising = sorted_after tag.0 tags rising.1

rising_after : (last : List ℕ) (tags : List Tag) → AreBelow last (tag_names tags) → AreSorted tags
    → AreRising (Some last) tags
unfolding IsStrictlySortedBy
rising_after last [] below sorted = tt
rising_after last (tag ∷ tags) below sorted =
    (ap is_lt below.0, rising_after tag.0 tags sorted.0 sorted.1)

pub sorted_is_rising : (tags : List Tag) → AreSorted tags → AreRising None tags
unfolding IsStrictlySortedBy
sorted_is_rising [] sorted = tt
sorted_is_rising (tag ∷ tags) sorted = (refl, rising_after tag.0 tags sorted.0 sorted.1)
