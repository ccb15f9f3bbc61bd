-- A place up to which a text was read stands in one thing.
use Rattle.std.proofs.Common.{◌≡◌, ℕ, ◌+◌, ◌-◌, ◌<◌, Bool, true, false, List, [], ◌∷◌, ◌++◌, IsTrue}
use Rattle.std.proofs.Common.{take, drop, length, refl, sym, ap, subst, ◌∙◌, inl, inr, arith}
use Rattle.std.proofs.Common.{append_assoc, append-nil, length-append, drop-drop, drop_at, take_at}
use Rattle.std.specs.Prelude.{not, ◌||◌, nat_lt, count_by}
use Rattle.std.proofs.lemmas.List.Folds.{list_any-append}
use Rattle.pgn_text.proofs.Common.{if◌then◌else◌, list_all, list_any, and_parts, false≢true}
use Rattle.pgn_text.proofs.Common.{eqb-true, or_left, or_right, or_parts, not-true, nat_tests}
use Rattle.pgn_text.proofs.Common.{list_all-append, begins, is_not_brace, is_open, is_result}
use Rattle.pgn_text.proofs.Common.{is_meant, depth_after, Part, Open, Stands, standing_of, AllStand}
use Rattle.pgn_text.proofs.Common.{spelled_part, spelled, PartsThen, StandsWithin, is_open_brace}
use Rattle.pgn_text.proofs.Common.{is_open_bracket, is_quote, is_before_movetext, Within, Comment}
use Rattle.pgn_text.proofs.Common.{Tags, MainLine, TagName, TagValue, Variation}
use Rattle.pgn_text.specs.Public.AnswerLaws.{StandsInOneThing, CommentIsOpen}
use Rattle.pgn_text.specs.declared.error.error_position.Within.TheVariants.{Game}
use Rattle.pgn_text.proofs.laws.Halfway.{spelled-append, stands_cut}
use Rattle.pgn_text.proofs.Located.{rows}
use Rattle.pgn_text.proofs.OneList.{same_fronts}

-- what bytes begin with an opening bracket, or with neither
bracket_no_brace : (front : List ℕ) → begins is_open_bracket front ≡ true
    → begins is_open_brace front ≡ false
bracket_no_brace [] e = cc
bracket_no_brace (b ∷ front) e = ap is_open_brace (eqb-true b 91 e)

no_bracket : (front : List ℕ) → not (begins (λ b. is_open_brace b || is_open_bracket b) front)
    ≡ true
    → (begins is_open_brace front ≡ false) × (begins is_open_bracket front ≡ false)
no_bracket [] e = (refl, refl)
no_bracket (b ∷ front) e =
    or_parts (is_open_brace b) (is_open_bracket b)
    (not-true (is_open_brace b || is_open_bracket b) e)

-- before the movetext no variation is open
before_no_open : (p : Part) → is_before_movetext p ≡ true → is_open p ≡ false
before_no_open Open e = cc
before_no_open p e = refl

no_opens : (parts : List Part) → list_all is_before_movetext parts ≡ true
    → count_by is_open parts ≡ 0
no_opens [] e = refl
no_opens (p ∷ parts) e =
    let both = and_parts (is_before_movetext p) (list_all is_before_movetext parts) e in
    rw (before_no_open p both.0) (no_opens parts both.1)

before_closed : (parts : List Part) → list_all is_before_movetext parts ≡ true
    → depth_after parts ≡ 0
before_closed parts e = omega (arith, no_opens parts e)

-- what a place stands in, by the parts before it and the bytes between them and the place
abbrev within_of : ℕ → List Part → List ℕ → Within
within_of at parts front =
    if begins is_open_brace front then Comment at
    else (if begins is_open_bracket front then
    (if list_any is_quote front then TagValue at else TagName at)
    else (if list_any is_result parts then Game
    else (if nat_lt 0 (depth_after parts) then Variation
    else (if list_all is_before_movetext parts then Tags else MainLine))))

deep_test : (n : ℕ) → 0 < n → nat_lt 0 n ≡ true
deep_test n h = grind (arith, nat_tests)

closed_test : (n : ℕ) → n ≡ 0 → nat_lt 0 n ≡ false
closed_test n h = ap (nat_lt 0) h

module _ (f : Bool) (block : List ℕ) (begin place : ℕ) where
  -- the one row of parts does not go on where the other ends
  no_longer : (at at' : ℕ) (parts parts' : List Part) (front front' : List ℕ) (next : Part)
      (more : List Part)
      → PartsThen f block begin at place parts front
      → PartsThen f block begin at' place parts' front' → parts' ≡ parts ++ next ∷ more → ⊥
  no_longer at at' parts parts' front front' next more h k is =
      let after = drop place block in
      let own = spelled_part next ++ (spelled more ++ front') in
      let stands = (stands_cut f (take begin block) parts (next ∷ more) (front' ++ after)
      (subst (λ l. AllStand f (take begin block) l (front' ++ after)) is k.stand)).1.0 in
      let meant =
      (and_parts (is_meant next) (list_all is_meant more)
      (and_parts (list_all is_meant parts) (list_all is_meant (next ∷ more))
      (sym (list_all-append is_meant parts (next ∷ more)) ∙ ap (list_all is_meant) (sym is)
      ∙ k.meant)).1).0 in
      let bytes : spelled parts ++ (front ++ after)
      ≡ spelled parts ++ (spelled (next ∷ more) ++ (front' ++ after)) =
      sym h.parted ∙ k.parted
      ∙ ap (λ l. l ++ (front' ++ after)) (ap spelled is ∙ spelled-append parts (next ∷ more))
      ∙ append_assoc (spelled parts) (spelled (next ∷ more)) (front' ++ after) in
      let back : front ++ after ≡ own ++ after =
      (same_fronts (spelled parts) (front ++ after) (spelled parts) (spelled (next ∷ more)
      ++ (front' ++ after)) refl bytes).1
      ∙ sym (append_assoc (spelled (next ∷ more)) front' after)
      ∙ ap (λ l. l ++ after) (append_assoc (spelled_part next) (spelled more) front') in
      let size : length front ≡ length own =
      omega (arith, ap length back, length-append front after, length-append own after) in
      let parted : front ≡ own = (same_fronts front after own after size back).0 in
      false≢true (sym (h.no_more next (spelled more ++ front') parted
      (subst (Stands (standing_of f (take begin block ++ spelled parts)) next)
      (sym (append_assoc (spelled more) front' after)) stands)) ∙ meant)

  -- so two rows are the same
  same_row : (at at' : ℕ) (parts parts' : List Part) (front front' : List ℕ)
      → PartsThen f block begin at place parts front
      → PartsThen f block begin at' place parts' front'
      → (at ≡ at') × (parts ≡ parts') × (front ≡ front')
  same_row at at' parts parts' front front' h k =
      elim (rows f (take begin block) parts parts' (front ++ drop place block) (front'
      ++ drop place block) (sym h.parted ∙ k.parted) h.stand k.stand) [
        | inl t ↦ shorter t.0 t.1
        | inr t ↦ absurd (no_longer at at' parts parts' front front' t.0 t.1 h k t.3)
      ]
    where
      same : parts ≡ parts' → (at ≡ at') × (parts ≡ parts') × (front ≡ front')
      same e =
          let ends : at ≡ at' = h.at_is ∙ ap (λ l. begin + length (spelled l)) e ∙ sym k.at_is in
          let size : length front ≡ length front' = omega (arith, h.place_is, k.place_is, ends) in
          let back =
          (same_fronts (spelled parts) (front ++ drop place block) (spelled parts') (front'
          ++ drop place block)
          (ap (λ l. length (spelled l)) e) (sym h.parted ∙ k.parted)).1 in
          (ends, e, (same_fronts front (drop place block) front' (drop place block) size back).0)

      shorter : (more : List Part) → parts ≡ parts' ++ more
          → (at ≡ at') × (parts ≡ parts') × (front ≡ front')
      shorter [] e = same (e ∙ append-nil parts')
      shorter (next ∷ more) e = absurd (no_longer at' at parts' parts front' front next more k h e)

  -- what a place stands in, with its row
  record IsOf (within : Within) : Type 0 where
    at : ℕ
    parts : List Part
    front : List ℕ
    row : PartsThen f block begin at place parts front
    is : within ≡ within_of at parts front

  is_of : (within : Within) → StandsWithin f block begin place within → IsOf within
  is_of (Comment at) (parts, front, row, opens, unclosed) =
      let brace : begins is_open_brace front ≡ true = opens in
      record { at = at; parts = parts; front = front; row = row; is = rw brace refl }
  is_of (TagName at) (parts, front, row, opens, quoted) =
      let bracket : begins is_open_bracket front ≡ true = opens in
      record {
        at = at;
        parts = parts;
        front = front;
        row = row;
        is =
            rw (bracket_no_brace front bracket, bracket, quoted) refl;
      }
  is_of (TagValue at) (parts, front, row, opens, quoted) =
      let bracket : begins is_open_bracket front ≡ true = opens in
      record {
        at = at;
        parts = parts;
        front = front;
        row = row;
        is =
            rw (bracket_no_brace front bracket, bracket, quoted) refl;
      }
  is_of Variation (parts, context, deep) =
      let no = no_bracket context.front context.other in
      record {
        at = context.at;
        parts = parts;
        front = context.front;
        row = context.parts_then;
        is =
            rw (no.0, no.1, context.unended, deep_test (depth_after parts) deep) refl;
      }
  is_of Tags (parts, context, tags) =
      let no = no_bracket context.front context.other in
      let all : list_all is_before_movetext parts ≡ true = tags in
      record {
        at = context.at;
        parts = parts;
        front = context.front;
        row = context.parts_then;
        is = rw (
          no.0,
          no.1,
          context.unended,
          closed_test (depth_after parts) (before_closed parts all),
          all,
        ) refl;
      }
  is_of MainLine (parts, context, closed, tags) =
      let no = no_bracket context.front context.other in
      record {
        at = context.at;
        parts = parts;
        front = context.front;
        row = context.parts_then;
        is = rw (no.0, no.1, context.unended, closed_test (depth_after parts) closed, tags) refl;
      }
  is_of Game (parts, result, row, ends) =
      let some : list_any is_result (parts ++ result ∷ []) ≡ true =
      list_any-append is_result parts (result ∷ [])
      ∙ or_right (list_any is_result parts) (is_result result
      || false) (or_left (is_result result) false ends) in
      record { at = place; parts = parts ++ result ∷ []; front = []; row = row; is = rw some refl }

pub stands_in_one_thing : StandsInOneThing
stands_in_one_thing f block begin place within other h k =
    let own = is_of f block begin place within h in
    let its = is_of f block begin place other k in
    let same =
    same_row f block begin place own.at its.at own.parts its.parts own.front its.front own.row
    its.row in
    own.is ∙ ap (λ n. within_of n own.parts own.front) same.0
    ∙ ap (λ l. within_of its.at l own.front) same.1
    ∙ ap (λ l. within_of its.at its.parts l) same.2 ∙ sym its.is

pub comment_is_open : CommentIsOpen
comment_is_open f block begin place at (parts, front, row, opens, unclosed) =
    let bytes : drop at block ≡ front ++ drop place block =
    ap (λ n. drop n block) row.at_is ∙ sym (drop-drop (length (spelled parts)) begin block)
    ∙ ap (drop (length (spelled parts))) row.parted
    ∙ drop_at (spelled parts) (front ++ drop place block) (length (spelled parts)) refl in
    let size : length front ≡ place - at = omega (arith, row.place_is) in
    let same : take (place - at) (drop at block) ≡ front =
    ap (take (place - at)) bytes ∙ take_at front (drop place block) (place - at) size in
    subst (λ l. IsTrue (list_all is_not_brace l)) (sym same) unclosed
