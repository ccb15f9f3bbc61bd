-- A look-up in the map of a game's tags.
use Rattle.std.specs.Prelude.{Option, Some, None}
use Rattle.std.specs.BTreeMap.{BTreeMap, get_by}
use Rattle.pgn_game.proofs.Common.{◌≡◌, ℕ, List, ap, refl, sym, ◌∙◌, Bor, IfSome, is_some}
use Rattle.pgn_game.proofs.Common.{option_map, nat_cmp, slice_cmp, HoldStrings, tag_in, IsContents}
use Rattle.pgn_text.specs.Public.Elements.{tags_of}
use Rattle.pgn_text.proofs.TagLemmas.{tag_in-tags_of}

pub tag_found : (tags : BTreeMap (Bor (List ℕ)) (Bor (List ℕ))) (wanted : List ℕ)
    (found : Option (Bor (List ℕ)))
    → found ≡ get_by (λ name. slice_cmp nat_cmp wanted name.now) tags
    → tag_in wanted (tags_of tags) ≡ option_map (λ contents. contents.now) found
tag_found tags wanted found is = tag_in-tags_of tags wanted
    ∙ ap (option_map (λ contents. contents.now)) (sym is)

-- a look-up in a map of these tags
pub tag_found_in : (tags : List (List ℕ × List ℕ)) (map_of : BTreeMap (Bor (List ℕ)) (Bor (List ℕ)))
    (wanted : List ℕ) (found : Option (Bor (List ℕ)))
    → tags_of map_of ≡ tags → found ≡ get_by (λ name. slice_cmp nat_cmp wanted name.now) map_of
    → tag_in wanted tags ≡ option_map (λ contents. contents.now) found
tag_found_in tags map_of wanted found are is =
    ap (tag_in wanted) (sym are) ∙ tag_found map_of wanted found is

-- what is found there is the contents of a string
pub found_contents : (tags : List (List ℕ × List ℕ)) (name : List ℕ) (found : Option (Bor (List ℕ)))
    → HoldStrings tags → tag_in name tags ≡ option_map (λ contents. contents.now) found
    → IfSome found (λ contents. IsContents contents.now)
found_contents tags name None strings is = tt
found_contents tags name (Some contents) strings is = strings name contents.now is

-- whether a name is there
pub tag_there : (tags : BTreeMap (Bor (List ℕ)) (Bor (List ℕ))) (wanted : List ℕ)
    → is_some (tag_in wanted (tags_of tags))
    ≡ is_some (get_by (λ name. slice_cmp nat_cmp wanted name.now) tags)
tag_there tags wanted =
    let found = get_by (λ name. slice_cmp nat_cmp wanted name.now) tags in
    ap is_some (tag_found tags wanted found refl) ∙ mapped found
  where
    mapped : (o : Option (Bor (List ℕ))) → is_some (option_map (λ (x : Bor (List ℕ)). x.now) o)
        ≡ is_some o
    mapped None = refl
    mapped (Some x) = refl
