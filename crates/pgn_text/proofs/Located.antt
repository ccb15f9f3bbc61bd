-- Where a part stands in a block that is gone through part by part.
use Rattle.std.proofs.Common.{◌≡◌, ◌⊎◌, ℕ, ◌+◌, ◌/◌, ◌%◌, ◌<◌, ◌≤◌, Bool, true, false, List, []}
use Rattle.std.proofs.Common.{◌∷◌, ◌++◌, Some, None, take, drop, length, refl, sym, ap, subst, ◌∙◌}
use Rattle.std.proofs.Common.{inl, inr, arith, append_assoc, append-nil, length-append}
use Rattle.std.specs.Prelude.{◌-◌}
use Rattle.pgn_text.proofs.Common.{is_some, Option, length-take-le, flat_map-append, Part, Stands}
use Rattle.pgn_text.proofs.Common.{AllStand, standing_of, spelled_part, spelled, items_of}
use Rattle.pgn_text.proofs.Common.{items_of_part, first_tag, glyphs_of_marks, IsPlaceOf}
use Rattle.pgn_text.proofs.Common.{GivesElement, IsFirstTag, Kept, kept, items_of_kept, named_kept}
use Rattle.pgn_text.proofs.Common.{PartAt, KeptAt, NothingAt, option_or}
use Rattle.pgn_text.specs.Public.PartPlaces.{IsElementPlace, IsTagPlace}
use Rattle.pgn_text.proofs.laws.Halfway.{stands_join, spelled-append, before_more}
use Rattle.pgn_text.proofs.KeptLemmas.{items-kept, items-push}
use Rattle.pgn_text.proofs.laws.PartLemmas.{one_part}
use Rattle.pgn_text.proofs.TagLemmas.{first_tag-cons, first_tag-push, option_or-none}

-- the NAGs of a run of marks: one for each two, and one for a last mark alone
pub glyph_count : (marks : List ℕ) → length (glyphs_of_marks marks)
    ≡ length marks / 2 + length marks % 2
glyph_count [] = refl
glyph_count (mark ∷ []) = refl
glyph_count (first ∷ second ∷ more) = let deep = glyph_count more in omega (arith, deep)

-- ---- two rows of parts from one place on

-- the one row goes on where the other ends, or it does not
abbrev pub GoesOn : Bool → List ℕ → List Part → List Part → List ℕ → Type 0
GoesOn f before xs ys r =
    (next : Part) × (rest : List Part) × (after : List ℕ) × (ys ≡ xs ++ next ∷ rest)
    × (r ≡ spelled_part next ++ after)
    × Stands (standing_of f (before ++ spelled xs)) next after

pub rows : (f : Bool) (before : List ℕ) (xs ys : List Part) (r s : List ℕ)
    → spelled xs ++ r ≡ spelled ys ++ s
    → AllStand f before xs r → AllStand f before ys s
    → ((more : List Part) × (xs ≡ ys ++ more)) ⊎ GoesOn f before xs ys r
rows f before xs [] r s same stand other = inl (xs, refl)
rows f before [] (y ∷ ys) r s same stand other =
    inr (
      y,
      ys,
      spelled ys ++ s,
      refl,
      same ∙ append_assoc (spelled_part y) (spelled ys) s,
      subst (λ b. Stands (standing_of f b) y (spelled ys ++ s)) (sym (append-nil before)) other.0,
    )
rows f before (x ∷ xs) (y ∷ ys) r s same stand other =
    let one : (x ≡ y) × (spelled xs ++ r ≡ spelled ys ++ s) =
    one_part (standing_of f before) x y (spelled xs ++ r) (spelled ys ++ s) stand.0 other.0
    (sym (append_assoc (spelled_part x) (spelled xs) r) ∙ same
    ∙ append_assoc (spelled_part y) (spelled ys) s) in
    further (rows f (before ++ spelled_part x) xs ys r s one.1 stand.1
    (subst (λ z. AllStand f (before ++ spelled_part z) ys s) (sym one.0) other.1)) one.0
  where
    further : ((more : List Part) × (xs ≡ ys ++ more)) ⊎ GoesOn f (before ++ spelled_part x) xs ys r
        → x ≡ y
        → ((more : List Part) × (x ∷ xs ≡ (y ∷ ys) ++ more)) ⊎ GoesOn f before (x ∷ xs) (y ∷ ys) r
    further (inl (more, is)) e = inl (more, (λ i. e i ∷ is i))
    further (inr (next, rest, after, is, parted, stands)) e =
        inr (
          next,
          rest,
          after,
          (λ i. sym e i ∷ is i),
          parted,
          rw (← (append_assoc before (spelled_part x) (spelled xs))) stands,
        )

-- ---- a block that is gone through part by part

-- it was gone through from the place `begin` to the place `at`, by these parts
pub record PassedTo (f : Bool) (block : List ℕ) (begin at : ℕ) (done : List Part) : Type 0 where
  pub stand : AllStand f (take begin block) done (drop at block)
  pub parted : drop begin block ≡ spelled done ++ drop at block
  pub passed : take at block ≡ take begin block ++ spelled done
  pub at_is : at ≡ begin + length (spelled done)
  pub within : at ≤ length block

pub passed_start : (f : Bool) (block : List ℕ) (begin : ℕ) → begin ≤ length block
    → PassedTo f block begin begin []
passed_start f block begin within = record {
  stand = tt;
  parted = refl;
  passed = sym (append-nil (take begin block));
  at_is = omega arith;
  within = within;
}

pub passed_more : (f : Bool) (block : List ℕ) (begin at end : ℕ) (done : List Part) (token : Kept)
    → PassedTo f block begin at done
    → (here : KeptAt f block at token end) → PassedTo f block begin end (done ++ here.part ∷ [])
passed_more f block begin at end done token to here =
    let found : PartAt f block at here.part end = here.found in
    let bytes : spelled (done ++ here.part ∷ []) ≡ spelled done ++ spelled_part here.part =
    spelled-append done (here.part ∷ [])
    ∙ ap (λ l. spelled done ++ l) (append-nil (spelled_part here.part)) in
    let sizes : end ≡ at + length (spelled_part here.part) =
    sym (length-take-le end block found.within) ∙ ap length found.passed
    ∙ length-append (take at block) (spelled_part here.part)
    ∙ ap (λ k. k + length (spelled_part here.part)) (length-take-le at block to.within) in
    record {
      stand = stands_join f (take begin block) done (here.part ∷ []) (drop end block)
          (subst (λ l. AllStand f (take begin block) done l)
          (found.parted ∙ ap (λ l. l ++ drop end block) (sym (append-nil (spelled_part here.part))))
          to.stand) (
            rw (← to.passed) found.stands,
            tt,
          );
      parted = to.parted ∙ ap (λ l. spelled done ++ l) found.parted
          ∙ sym (append_assoc (spelled done) (spelled_part here.part) (drop end block))
          ∙ ap (λ l. l ++ drop end block) (sym bytes);
      passed = found.passed ∙ ap (λ l. l ++ spelled_part here.part) to.passed
          ∙ sym (before_more (take begin block) done here.part);
      at_is = omega (
        arith,
        sizes,
        to.at_is,
        ap length bytes,
        length-append (spelled done) (spelled_part here.part),
      );
      within = found.within;
    }

module _ (f : Bool) (block : List ℕ) (begin at : ℕ) (done : List Part)
    (to : PassedTo f block begin at done) (parts : List Part) (rest : List ℕ)
    (parted : drop begin block ≡ spelled parts
    ++ rest) (stand : AllStand f (take begin block) parts rest) where
  both : ((more : List Part) × (done ≡ parts ++ more))
      ⊎ GoesOn f (take begin block) done parts (drop at block)
  both = rows f (take begin block) done parts (drop at block) rest (sym to.parted
      ∙ parted) to.stand stand

  -- the part at the place is the next of them, unless all of them were passed
  pub next_here : (fact : List Part → Part
      → Type 0) (token : Kept) (end : ℕ) (here : KeptAt f block at token end) → fact done here.part
      → ((more : List Part) → done ≡ parts ++ more → ⊥) → IsPlaceOf fact parts begin at
  next_here fact token end here has some = elim both [
    | inl all ↦ absurd (some all.0 all.1)
    | inr on ↦
        let same : here.part ≡ on.0 =
        (one_part (standing_of f (take at block)) here.part on.0 (drop end block) on.2
        here.found.stands
        (subst (λ b. Stands (standing_of f b) on.0 on.2) (sym to.passed) on.5)
        (sym here.found.parted ∙ on.4)).0 in record {
          before = done;
          part = here.part;
          after = on.1;
          parted = on.3 ∙ ap (λ p. done ++ p ∷ on.1) (sym same);
          has_fact = has;
          place_is = to.at_is;
        }
  ]

  -- where no part stands all of them were passed
  pub none_next : NothingAt f block at → ((more : List Part) → done ≡ parts ++ more → ⊥) → ⊥
  none_next nothing some = elim both [
    | inl all ↦ some all.0 all.1
    | inr on ↦ nothing on.0 on.2 on.4
        (subst (λ b. Stands (standing_of f b) on.0 on.2) (sym to.passed) on.5)
  ]

-- ---- elements

-- parts that stand before others give no more elements
pub fewer_items : (parts more done : List Part) → done ≡ parts ++ more
    → length (items_of parts) ≤ length (items_of done)
fewer_items parts more done is =
    let joined : length (items_of done) ≡ length (items_of parts ++ items_of more) =
    ap (λ ps. length (items_of ps)) is ∙ ap length (flat_map-append items_of_part parts more) in
    omega (arith, joined, length-append (items_of parts) (items_of more))

pub element_here : (f : Bool) (block : List ℕ) (begin at end index left : ℕ) (token : Kept)
    (done : List Part) (to : PassedTo f block begin at done) → index ≡ length (items_of done) + left
    → KeptAt f block at token end → left < length (items_of_kept token)
    → IsElementPlace f block begin index at
element_here f block begin at end index left token done to counted here low parts rest parted stand
    some =
    let size : length (items_of_part here.part) ≡ length (items_of_kept token) =
    ap length (items-kept here.part ∙ ap items_of_kept here.keeps) in
    next_here f block begin at done to parts rest parted stand (GivesElement index) token end here
    (omega arith, omega arith)
    (λ more is. absurd (let few = fewer_items parts more done is in omega arith))

pub element_more : (f : Bool) (block : List ℕ) (at end index left count : ℕ) (token : Kept)
    (done : List Part) → index ≡ length (items_of done) + left
    → (here : KeptAt f block at token end) → count ≡ length (items_of_kept token) → count ≤ left
    → index ≡ length (items_of (done ++ here.part ∷ [])) + (left - count)
element_more f block at end index left count token done counted here size low =
    let pushed : length (items_of (done ++ here.part ∷ []))
    ≡ length (items_of done) + length (items_of_kept token) =
    ap length (items-push done here.part)
    ∙ length-append (items_of done) (items_of_kept (kept here.part))
    ∙ ap (λ k. length (items_of done) + length (items_of_kept k)) here.keeps in
    omega arith

pub no_element : (f : Bool) (block : List ℕ) (begin at index left : ℕ) (done : List Part)
    (to : PassedTo f block begin at done) → index ≡ length (items_of done) + left
    → NothingAt f block at → IsElementPlace f block begin index at
no_element f block begin at index left done to counted nothing parts rest parted stand some =
    absurd (none_next f block begin at done to parts rest parted stand nothing
    (λ more is. let few = fewer_items parts more done is in omega arith))

-- ---- tags

pub neither : (a b : Option (List ℕ)) → option_or a b ≡ None → (a ≡ None) × (b ≡ None)
neither None b none = (refl, none)
neither (Some x) b none = absurd (cc)

is_none : (o : Option (List ℕ)) → is_some o ≡ false → o ≡ None
is_none None fails = refl
is_none (Some x) fails = let clash : true ≡ false = fails in absurd (cc)

-- parts that stand before others have no tag of the name where those have none
pub none_earlier : (name : List ℕ) (parts more : List Part) → first_tag name (parts ++ more) ≡ None
    → first_tag name parts ≡ None
none_earlier name [] more none = refl
none_earlier name (part ∷ parts) more none =
    let apart =
    neither (named_kept name (kept part)) (first_tag name (parts ++ more))
    (sym (first_tag-cons name part (parts ++ more)) ∙ none) in
    first_tag-cons name part parts ∙ ap (λ o. option_or o (first_tag name parts)) apart.0
    ∙ none_earlier name parts more apart.1

not_among : (name : List ℕ) (parts more done : List Part) → first_tag name done ≡ None
    → is_some (first_tag name parts) ≡ true → done ≡ parts ++ more → ⊥
not_among name parts more done none some is =
    let clash : true ≡ false = sym some
    ∙ ap is_some (none_earlier name parts more (ap (first_tag name) (sym is) ∙ none)) in cc

pub tag_here : (f : Bool) (block : List ℕ) (begin at end : ℕ) (name : List ℕ) (token : Kept)
    (done : List Part) (to : PassedTo f block begin at done) → first_tag name done ≡ None
    → KeptAt f block at token end → is_some (named_kept name token) ≡ true
    → IsTagPlace f block begin name at
tag_here f block begin at end name token done to none here named parts rest parted stand some =
    next_here f block begin at done to parts rest parted stand (IsFirstTag name) token end here (
      none,
      ap is_some (first_tag-cons name here.part []
          ∙ option_or-none (named_kept name (kept here.part)) ∙ ap (named_kept name) here.keeps)
          ∙ named,
    )
    (λ more is. not_among name parts more done none some is)

pub tag_more : (name : List ℕ) (done : List Part) (part : Part) (token : Kept) → kept part ≡ token
    → first_tag name done ≡ None → is_some (named_kept name token) ≡ false
    → first_tag name (done ++ part ∷ []) ≡ None
tag_more name done part token keeps none other =
    first_tag-push name done part ∙ ap (λ o. option_or o (named_kept name (kept part))) none
    ∙ ap (named_kept name) keeps ∙ is_none (named_kept name token) other

pub no_tag : (f : Bool) (block : List ℕ) (begin at : ℕ) (name : List ℕ) (done : List Part)
    (to : PassedTo f block begin at done) → first_tag name done ≡ None
    → NothingAt f block at → IsTagPlace f block begin name at
no_tag f block begin at name done to none nothing parts rest parted stand some =
    absurd (none_next f block begin at done to parts rest parted stand nothing (λ more is.
    not_among name parts more done none some is))
