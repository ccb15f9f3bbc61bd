-- The variations of a game's elements are paired, and the names of its tags ascend.
use Rattle.std.specs.Prelude.{None, map}
use Rattle.std.specs.List.Sorted.{IsStrictlySortedBy}
use Rattle.std.specs.Map.{keys_of}
use Rattle.pgn_text.proofs.Common.{◌≡◌, ℕ, ◌+◌, ◌-◌, Bool, true, false, List, [], ◌∷◌, ◌++◌, refl}
use Rattle.pgn_text.proofs.Common.{sym, ap, ◌∙◌, subst, inl, inr, Bor, Option, Some, if◌then◌else◌}
use Rattle.pgn_text.proofs.Common.{AllByRecursion, nat_cmp, slice_cmp, Less, cases_Bool, ltb-true}
use Rattle.pgn_text.proofs.Common.{MatchBool-at_true, MatchBool-at_false, Part, Item, is_result}
use Rattle.pgn_text.proofs.Common.{items_of, items_of_part, glyphs_of_marks, IsPaired, tag_names}
use Rattle.pgn_text.proofs.Common.{tag_of, State, Leads, Kept, KeptGap, KeptComment, KeptTag}
use Rattle.pgn_text.proofs.Common.{KeptMove, KeptResult, KeptStray, KeptMarks, KeptOpen, KeptClose}
use Rattle.pgn_text.proofs.Common.{kept, step_kept, items_of_kept}
use Rattle.pgn_text.proofs.KeptLemmas.{is_result-kept, step-kept, items-kept, kept_result}

-- NAGs pair nothing
marks_paired : (marks : List ℕ) (depth : ℕ) (rest : List Item) → IsPaired depth rest
    → IsPaired depth (glyphs_of_marks marks ++ rest)
marks_paired [] depth rest paired = paired
marks_paired (mark ∷ []) depth rest paired = paired
marks_paired (first ∷ second ∷ more) depth rest paired = marks_paired more depth rest paired

-- the depth of a state that was reached
same_depth : (s next : State) → Some s ≡ Some next → s.depth ≡ next.depth
same_depth s next is =
    let depth : Option State → ℕ = λ o. elim o [ None ↦ 0 | Some t ↦ t.depth ] in
    ap depth is

-- the depth of a state that was reached under a condition
depth_if : (v : Bool) (s next : State) → (if v then Some s else None) ≡ Some next
    → (v ≡ true) × (s.depth ≡ next.depth)
depth_if true s next is = (refl, same_depth s next is)
depth_if false s next is = absurd (cc)

-- one part more in front
paired_more : (max_depth : ℕ) (s next : State) (k : Kept) (rest : List Item)
    → step_kept max_depth s k ≡ Some next → IsPaired next.depth rest
    → IsPaired s.depth (items_of_kept k ++ rest)
paired_more max_depth s next KeptGap rest is paired =
    subst (λ d. IsPaired d rest) (sym (same_depth s next is)) paired
paired_more max_depth s next (KeptComment text) rest is paired =
    subst (λ d. IsPaired d rest) (sym (same_depth s next is)) paired
paired_more max_depth s next (KeptTag name contents) rest is paired =
    subst (λ d. IsPaired d rest) (sym (depth_if s.in_tags s next is).1) paired
paired_more max_depth s next (KeptMove word) rest is paired =
    rw (same_depth (record { in_tags = false; depth = s.depth; has_move = true }) next is) paired
paired_more max_depth s next KeptResult rest is paired = absurd (cc)
paired_more max_depth s next KeptStray rest is paired = absurd (cc)
paired_more max_depth s next (KeptMarks marks) rest is paired =
    marks_paired marks s.depth rest
    (rw (same_depth (record s { in_tags = false }) next is) paired)
paired_more max_depth s next KeptOpen rest is paired =
    rw (depth_if _ (record { in_tags = false; depth = s.depth + 1; has_move = false }) next is).1
    paired
paired_more max_depth s next KeptClose rest is paired =
    let both = depth_if _ (record { in_tags = false; depth = s.depth - 1; has_move = true }) next is
    in
    (ltb-true _ _ both.0, subst (λ d. IsPaired d rest) (sym both.1) paired)
paired_more max_depth s next _ rest is paired =
    subst (λ d. IsPaired d rest) (sym (same_depth (record s { in_tags = false }) next is)) paired

-- parts that lead to a result outside all variations give elements that are paired
pub leads_paired : (max_depth : ℕ) (s : State) (parts : List Part) → Leads max_depth s parts
    → IsPaired s.depth (items_of parts)
leads_paired max_depth s [] leads = absurd leads
leads_paired max_depth s (p ∷ back) leads =
    elim (cases_Bool (is_result p)) [
      | inl result ↦
          let ends = MatchBool-at_true _ _ result leads in
          let none : items_of_part p ≡ [] = items-kept p
          ∙ ap items_of_kept (kept_result (kept p) (sym (is_result-kept p) ∙ result)) in
          subst (IsPaired s.depth) (sym (ap (λ xs. xs ++ items_of back) none ∙ ap items_of ends.1))
          ends.0
      | inr no_result ↦
          let next = MatchBool-at_false _ _ no_result leads in
          rw (items-kept p) (paired_more max_depth s next.0 (kept p) (items_of back) (sym (step-kept
          max_depth s p) ∙ next.1) (leads_paired max_depth next.0 back next.2))
    ]

-- names that ascend, seen by their bytes
all_below : (key : Bor (List ℕ)) (keys : List (Bor (List ℕ)))
    → AllByRecursion (λ y. slice_cmp nat_cmp key.now y.now ≡ Less) keys
    → AllByRecursion (λ y. slice_cmp nat_cmp key.now y ≡ Less) (map (λ k. k.now) keys)
all_below key [] all = tt
all_below key (k ∷ keys) all = (all.0, all_below key keys all.1)

names_ascend : (keys : List (Bor (List ℕ)))
    → IsStrictlySortedBy (λ x y. slice_cmp nat_cmp x.now y.now) keys
    → IsStrictlySortedBy (slice_cmp nat_cmp) (map (λ k. k.now) keys)
unfolding IsStrictlySortedBy
names_ascend [] sorted = tt
names_ascend (k ∷ keys) sorted = (all_below k keys sorted.0, names_ascend keys sorted.1)

names-tags_of : (entries : List (Bor (List ℕ) × Bor (List ℕ)))
    → tag_names (map tag_of entries) ≡ map (λ k. k.now) (keys_of entries)
names-tags_of [] = refl
names-tags_of (e ∷ entries) = ap (λ xs. e.0.now ∷ xs) (names-tags_of entries)

-- the names of a map of tags ascend
pub tags_ascend : (entries : List (Bor (List ℕ) × Bor (List ℕ)))
    → IsStrictlySortedBy (λ x y. slice_cmp nat_cmp x.now y.now) (keys_of entries)
    → IsStrictlySortedBy (slice_cmp nat_cmp) (tag_names (map tag_of entries))
tags_ascend entries sorted =
    subst (IsStrictlySortedBy (slice_cmp nat_cmp)) (sym (names-tags_of entries))
    (names_ascend (keys_of entries) sorted)
