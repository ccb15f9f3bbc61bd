-- Tags in a list ordered by their names.
use Rattle.std.specs.Prelude.{ℕ, List, Option, option_map}
use Rattle.std.specs.Borrow.{Bor}
use Rattle.std.specs.BTreeMap.{BTreeMap, get_by, IsOrdered}
use Rattle.std.specs.Ordering.{nat_cmp}
use Rattle.std.specs.Cmp.Lexicographic.{slice_cmp}

-- the contents that the map of tags has under the wanted name
abbrev pub tag_at : BTreeMap (Bor (List ℕ)) (Bor (List ℕ)) → List ℕ → Option (List ℕ)
tag_at tags wanted =
    option_map (λ contents. contents.now) (get_by (λ name. slice_cmp nat_cmp wanted name.now) tags)

-- the names of a map of tags ascend
abbrev pub AreOrdered : BTreeMap (Bor (List ℕ)) (Bor (List ℕ)) → Type 0
AreOrdered tags = IsOrdered (λ x y. slice_cmp nat_cmp x.now y.now) tags
