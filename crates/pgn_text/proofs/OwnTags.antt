-- Tags that go from one map into another, one after another.
use Rattle.std.specs.Prelude.{Option, Some, None, option_map, bytes_eq, if◌then◌else◌, map}
use Rattle.std.specs.BTreeMap.{BTreeMap, get_by, UpdatesBy}
use Rattle.pgn_text.proofs.Common.{◌≡◌, ℕ, Bool, true, false, List, refl, ap, ◌∙◌, sym, subst, Bor}
use Rattle.pgn_text.proofs.Common.{option_or, nat_cmp, slice_cmp, tag_of, tags_of, tag_in, ◌<◌}
use Rattle.pgn_text.proofs.Common.{[], ◌∷◌, length, arith}
use Rattle.pgn_text.proofs.TagLemmas.{bytes_eq-same, option_or-none, retagged, tag_in-tags_of}
use Rattle.pgn_text.specs.Private.TagOrder.{tag_at}

abbrev Tags : Type 0
Tags = BTreeMap (Bor (List ℕ)) (Bor (List ℕ))

abbrev IsAfter : List ℕ → Tags → Tags → Option (Bor (List ℕ)) → Type 0
IsAfter name old new contents =
    UpdatesBy (λ x y. slice_cmp nat_cmp x.now y.now) (λ k. slice_cmp nat_cmp name k.now) old new
    contents

-- what stands under a name in one map, else in the other
abbrev pub in_both : Tags → Tags → List ℕ → Option (List ℕ)
in_both rest own wanted = option_or (tag_in wanted (tags_of rest)) (tag_in wanted (tags_of own))

-- a tag that goes over stands there as before
pub moved : (rest left own grown : Tags) (name : List ℕ) (contents : Bor (List ℕ))
    (wanted : List ℕ) → IsAfter name rest left None
    → get_by (λ k. slice_cmp nat_cmp name k.now) rest ≡ Some contents
    → IsAfter name own grown (Some contents) → in_both left grown wanted ≡ in_both rest own wanted
moved rest left own grown name contents wanted leaves here comes =
    ap (λ o. option_or o (tag_in wanted (tags_of grown)))
    (retagged rest left name wanted None leaves)
    ∙ ap (option_or (if bytes_eq name wanted then None else tag_in wanted (tags_of rest)))
    (retagged own grown name wanted (Some contents) comes)
    ∙ by (bytes_eq name wanted) refl
  where
    by : (same : Bool) → bytes_eq name wanted ≡ same
        → option_or (if same then None else tag_in wanted (tags_of rest))
        (if same then Some contents.now else tag_in wanted (tags_of own))
        ≡ in_both rest own wanted
    by true same =
        let there : tag_in wanted (tags_of rest) ≡ Some contents.now =
        tag_in-tags_of rest wanted
        ∙ subst (λ w. tag_at rest w ≡ Some contents.now) (bytes_eq-same name wanted same)
        (ap (option_map (λ c. c.now)) here) in
        ap (λ o. option_or o (tag_in wanted (tags_of own))) (sym there)
    by false same = refl

-- before the first, and after the last
pub begun : (rest own : Tags) (wanted : List ℕ) → own.entries ≡ []
    → in_both rest own wanted ≡ tag_in wanted (tags_of rest)
begun rest own wanted none =
    ap (λ tags. option_or (tag_in wanted (tags_of rest)) (tag_in wanted (map tag_of tags))) none
    ∙ option_or-none (tag_in wanted (tags_of rest))

pub ended : (rest own : Tags) (wanted : List ℕ) → (0 < length rest.entries → ⊥)
    → in_both rest own wanted ≡ tag_in wanted (tags_of own)
ended rest own wanted over = by rest.entries over
  where
    by : (tags : List (Bor (List ℕ) × Bor (List ℕ))) → (0 < length tags → ⊥)
        → option_or (tag_in wanted (map tag_of tags)) (tag_in wanted (tags_of own))
        ≡ tag_in wanted (tags_of own)
    by [] none = refl
    by (tag ∷ tags) none = absurd (none (omega arith))
