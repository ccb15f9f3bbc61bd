-- The first of the tags with a name.
use Rattle.std.specs.Prelude.{Option, Some, None, option_map, map, is_some, bytes_eq, if◌then◌else◌}
use Rattle.std.specs.BTreeMap.{BTreeMap, get_by, is_at, UpdatesBy}
use Rattle.std.specs.Map.{lookup}
use Rattle.std.proofs.lemmas.Map.Text.{btree_map_updates_str, is_eq-slice_cmp}
use Rattle.std.proofs.lemmas.Slice.Eq.{bytes_eq-Decides}
use Rattle.pgn_text.proofs.Common.{◌≡◌, ℕ, Bool, true, false, cond, List, [], ◌∷◌, ◌++◌, refl, sym}
use Rattle.pgn_text.proofs.Common.{ap, ◌∙◌, subst, Bor, option_or, nat_cmp, is_eq, slice_cmp}
use Rattle.pgn_text.proofs.Common.{is_letter, begins, Part, Tag, Word, first_tag, is_move_text}
use Rattle.pgn_text.proofs.Common.{is_number, is_result_word, kept, kept_word, named_kept, KeptMove}
use Rattle.pgn_text.proofs.Common.{KeptNumber, KeptResult, KeptStray, tag_of, tags_of, tag_in}
use Rattle.pgn_text.specs.Private.TagOrder.{tag_at}

-- equal bytes are one text
pub bytes_eq-same : (xs ys : List ℕ) → bytes_eq xs ys ≡ true → xs ≡ ys
bytes_eq-same xs ys is = (bytes_eq-Decides xs ys).0 is

pub option_or-none : (o : Option (List ℕ)) → option_or o None ≡ o
option_or-none None = refl
option_or-none (Some x) = refl

no_value : (o : Option (Bor (List ℕ))) → is_some o ≡ false
    → option_map (λ contents. contents.now) o ≡ None
no_value None is = refl
no_value (Some x) is = absurd (cc)

-- a tag that the map has not yet
pub kept_new : (m n : BTreeMap (Bor (List ℕ)) (Bor (List ℕ))) (name wanted : List ℕ)
    (contents : Bor (List ℕ))
    → UpdatesBy (λ x y. slice_cmp nat_cmp x.now y.now) (λ k.
    slice_cmp nat_cmp name k.now) m n (Some contents)
    → is_some (get_by (λ k. slice_cmp nat_cmp name k.now) m) ≡ false
    → tag_at n wanted
    ≡ option_or (tag_at m wanted) (if bytes_eq name wanted then Some contents.now else None)
kept_new m n name wanted contents updates absent =
    let new : get_by (λ k. slice_cmp nat_cmp wanted k.now) n
    ≡ cond (bytes_eq name wanted) (Some contents)
    (get_by (λ k. slice_cmp nat_cmp wanted k.now) m) =
    btree_map_updates_str name m n (Some contents) updates wanted in
    ap (option_map (λ c. c.now)) new ∙ go (bytes_eq name wanted) refl
  where
    go : (v : Bool) → bytes_eq name wanted ≡ v
        → option_map (λ c.
        c.now) (cond v (Some contents) (get_by (λ k. slice_cmp nat_cmp wanted k.now) m))
        ≡ option_or (tag_at m wanted) (if v then Some contents.now else None)
    go true is =
        let none : tag_at m wanted ≡ None =
        subst (λ w. tag_at m w ≡ None) (bytes_eq-same name wanted is)
        (no_value (get_by (λ k. slice_cmp nat_cmp name k.now) m) absent) in
        ap (λ o. option_or o (Some contents.now)) (sym none)
    go false is = sym (option_or-none (tag_at m wanted))

-- a tag that the map had, put back after it was overwritten
pub kept_back : (m n back : BTreeMap (Bor (List ℕ)) (Bor (List ℕ))) (name wanted : List ℕ)
    (contents first : Bor (List ℕ))
    → UpdatesBy (λ x y. slice_cmp nat_cmp x.now y.now) (λ k.
    slice_cmp nat_cmp name k.now) m n (Some contents)
    → UpdatesBy (λ x y. slice_cmp nat_cmp x.now y.now) (λ k.
    slice_cmp nat_cmp name k.now) n back (Some first)
    → get_by (λ k. slice_cmp nat_cmp name k.now) m ≡ Some first
    → tag_at back wanted
    ≡ option_or (tag_at m wanted) (if bytes_eq name wanted then Some contents.now else None)
kept_back m n back name wanted contents first overwritten restored had =
    ap (option_map (λ c. c.now)) (btree_map_updates_str name n back (Some first) restored wanted)
    ∙ go (bytes_eq name wanted) refl
  where
    go : (v : Bool) → bytes_eq name wanted ≡ v
        → option_map (λ c.
        c.now) (cond v (Some first) (get_by (λ k. slice_cmp nat_cmp wanted k.now) n))
        ≡ option_or (tag_at m wanted) (if v then Some contents.now else None)
    go true is =
        let here : tag_at m wanted ≡ Some first.now =
        rw (← (bytes_eq-same name wanted is)) (ap (option_map (λ c. c.now)) had) in
        ap (λ o. option_or o (Some contents.now)) (sym here)
    go false is =
        ap (option_map (λ c. c.now))
        (btree_map_updates_str name m n (Some contents) overwritten wanted
        ∙ ap (λ v. cond v (Some contents) (get_by (λ k. slice_cmp nat_cmp wanted k.now) m)) is)
        ∙ sym (option_or-none (tag_at m wanted))

-- what stands under each name after one was given contents, or none
pub tag_set : (m n : BTreeMap (Bor (List ℕ)) (Bor (List ℕ))) (name wanted : List ℕ)
    (contents : Option (Bor (List ℕ)))
    → UpdatesBy (λ x y. slice_cmp nat_cmp x.now y.now) (λ k.
    slice_cmp nat_cmp name k.now) m n contents
    → tag_at n wanted
    ≡ (if bytes_eq name wanted then option_map (λ text. text.now) contents
    else tag_at m wanted)
tag_set m n name wanted contents updates =
    ap (option_map (λ c. c.now)) (btree_map_updates_str name m n contents updates wanted)
    ∙ elim (bytes_eq name wanted) as (λ v.
    option_map (λ c. c.now) (cond v contents (get_by (λ k. slice_cmp nat_cmp wanted k.now) m))
    ≡ (if v then option_map (λ text. text.now) contents else tag_at m wanted))
    [ true ↦ refl | false ↦ refl ]

-- a word names no tag
named-word : (wanted word : List ℕ) → named_kept wanted (kept_word word) ≡ None
named-word wanted word =
    go (begins is_letter word) (is_number word) (is_move_text word) (is_result_word word)
  where
    go : (letter number moves result : Bool)
        → named_kept wanted (if letter then KeptMove word
        else (if number then KeptNumber
        else (if moves then KeptMove word else (if result then KeptResult else KeptStray)))) ≡ None
    go true number moves result = refl
    go false true moves result = refl
    go false false true result = refl
    go false false false true = refl
    go false false false false = refl

-- the first tag of a list with one part more at its head
pub first_tag-cons : (wanted : List ℕ) (p : Part) (more : List Part)
    → first_tag wanted (p ∷ more) ≡ option_or (named_kept wanted (kept p)) (first_tag wanted more)
first_tag-cons wanted (Tag first name second contents third) more =
    elim (bytes_eq name wanted) as (λ v. (if v then Some contents else first_tag wanted more)
    ≡ option_or (if v then Some contents else None) (first_tag wanted more))
    [ true ↦ refl | false ↦ refl ]
first_tag-cons wanted (Word text) more =
    ap (λ o. option_or o (first_tag wanted more)) (sym (named-word wanted text))
first_tag-cons wanted _ more = refl

option_or-assoc : (a b c : Option (List ℕ))
    → option_or (option_or a b) c ≡ option_or a (option_or b c)
option_or-assoc None b c = refl
option_or-assoc (Some x) b c = refl

-- the first tag of a list with one part more at its end
pub first_tag-push : (wanted : List ℕ) (xs : List Part) (p : Part)
    → first_tag wanted (xs ++ p ∷ []) ≡ option_or (first_tag wanted xs) (named_kept wanted (kept p))
first_tag-push wanted [] p = first_tag-cons wanted p []
    ∙ option_or-none (named_kept wanted (kept p))
first_tag-push wanted (x ∷ xs) p =
    first_tag-cons wanted x (xs ++ p ∷ [])
    ∙ ap (option_or (named_kept wanted (kept x))) (first_tag-push wanted xs p)
    ∙ sym (option_or-assoc (named_kept wanted (kept x)) (first_tag wanted xs)
    (named_kept wanted (kept p)))
    ∙ ap (λ o. option_or o (named_kept wanted (kept p))) (sym (first_tag-cons wanted x xs))

-- a look-up in a map of tags, seen by their bytes
pub tag_in-tags_of : (m : BTreeMap (Bor (List ℕ)) (Bor (List ℕ))) (wanted : List ℕ)
    → tag_in wanted (tags_of m) ≡ tag_at m wanted
tag_in-tags_of m wanted = go m.entries
  where
    go : (entries : List (Bor (List ℕ) × Bor (List ℕ)))
        → tag_in wanted (map tag_of entries)
        ≡ option_map (λ contents. contents.now)
        (lookup (is_at (λ name. slice_cmp nat_cmp wanted name.now)) entries)
    go [] = refl
    go (e ∷ entries) =
        ap (λ v. if v then Some e.1.now
        else tag_in wanted (map tag_of entries)) (sym (is_eq-slice_cmp wanted e.0.now))
        ∙ elim (is_eq (slice_cmp nat_cmp wanted e.0.now)) as (λ v.
        (if v then Some e.1.now else tag_in wanted (map tag_of entries))
        ≡ option_map (λ contents. contents.now)
        (cond v (Some e.1)
        (lookup (is_at (λ name. slice_cmp nat_cmp wanted name.now)) entries))) [
          | true ↦ refl
          | false ↦ go entries
        ]

-- and of the game that has the map
pub retagged : (m n : BTreeMap (Bor (List ℕ)) (Bor (List ℕ))) (name wanted : List ℕ)
    (contents : Option (Bor (List ℕ)))
    → UpdatesBy (λ x y. slice_cmp nat_cmp x.now y.now) (λ k.
    slice_cmp nat_cmp name k.now) m n contents
    → tag_in wanted (tags_of n)
    ≡ (if bytes_eq name wanted then option_map (λ text. text.now) contents
    else tag_in wanted (tags_of m))
retagged m n name wanted contents updates =
    tag_in-tags_of n wanted ∙ tag_set m n name wanted contents updates
    ∙ ap (λ o. if bytes_eq name wanted then option_map (λ text. text.now) contents else o)
    (sym (tag_in-tags_of m wanted))
