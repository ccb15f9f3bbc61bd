-- A line without the carriage return at its end and the blanks about it.
use Rattle.std.specs.Prelude.{◌⊎◌}
use Rattle.std.proofs.lemmas.List.{reverse-append, reverse-reverse}
use Rattle.pgn_criteria.proofs.Common.{◌≡◌, ℕ, true, false, List, [], ◌∷◌, ◌++◌, reverse, refl, sym}
use Rattle.pgn_criteria.proofs.Common.{ap, ◌∙◌, inl, inr, append_assoc, arith, if◌then◌else◌, ◌==◌}
use Rattle.pgn_criteria.proofs.Common.{list_all, and_parts, eqb-true, and_from, nat_tests}
use Rattle.pgn_criteria.proofs.Common.{list_all-append, is_blank, after_blanks, core_of, AreBlanks}
use Rattle.pgn_criteria.specs.Private.Reading.{drop_return}
use Rattle.pgn_criteria.proofs.SolidFacts.{is_solid, solid_blank, solid_return, over_blanks}
use Rattle.pgn_criteria.proofs.SolidFacts.{blank_front, BeginsSolid, EndsSolid, begins_kept}

-- blanks read from their end
blanks_reversed : (x : List ℕ) → AreBlanks x → AreBlanks (reverse x)
blanks_reversed [] are = refl
blanks_reversed (b ∷ x) are =
    let parts : (is_blank b ≡ true) × (list_all is_blank x ≡ true) = and_parts _ _ are in
    ap (list_all is_blank) (reverse-append (b ∷ []) x)
    ∙ list_all-append is_blank (reverse x) (b ∷ [])
    ∙ and_from _ _ (blanks_reversed x parts.1) (and_from (is_blank b) true parts.0 refl)

-- what a line of blanks, a text, blanks and its end is, read from its end
line_reversed : (before text after last : List ℕ) → reverse (before ++ (text ++ (after ++ last)))
    ≡ reverse last ++ (reverse after ++ (reverse text ++ reverse before))
line_reversed before text after last =
    reverse-append before (text ++ (after ++ last))
    ∙ ap (λ x. x ++ reverse before) (reverse-append text (after ++ last)
    ∙ ap (λ x. x ++ reverse text) (reverse-append after last))
    ∙ append_assoc (reverse last ++ reverse after) (reverse text) (reverse before)
    ∙ append_assoc (reverse last) (reverse after) (reverse text ++ reverse before)

blank_return : (b : ℕ) → is_blank b ≡ true → (b == 13) ≡ false
blank_return b blank = grind (arith, nat_tests)

-- blanks before a solid byte are no carriage return
kept : (gap rest : List ℕ) (b : ℕ) → AreBlanks gap → is_solid b ≡ true
    → drop_return (gap ++ (b ∷ rest)) ≡ gap ++ (b ∷ rest)
kept [] rest b are solid = ap (λ t. if t then rest else b ∷ rest) (solid_return b solid)
kept (a ∷ gap) rest b are solid =
    let parts : (is_blank a ≡ true) × (list_all is_blank gap ≡ true) = and_parts _ _ are in
    ap (λ t. if t then gap ++ (b ∷ rest) else a ∷ (gap ++ (b ∷ rest))) (blank_return a parts.0)

return_dropped : (last gap rest : List ℕ) (b : ℕ) → (last ≡ []) ⊎ (last ≡ 13 ∷ []) → AreBlanks gap
    → is_solid b ≡ true → drop_return (reverse last ++ (gap ++ (b ∷ rest))) ≡ gap ++ (b ∷ rest)
return_dropped last gap rest b (inl none) are solid =
    ap (λ x. drop_return (reverse x ++ (gap ++ (b ∷ rest)))) none ∙ kept gap rest b are solid
return_dropped last gap rest b (inr is) are solid =
    ap (λ x. drop_return (reverse x ++ (gap ++ (b ∷ rest)))) is

-- a text that begins and ends with solid bytes is the core of its line
pub solid_core : (line before text after last : List ℕ) → line ≡ before ++ (text ++ (after ++ last))
    → AreBlanks before → AreBlanks after
    → (last ≡ []) ⊎ (last ≡ 13 ∷ []) → BeginsSolid text → EndsSolid text → core_of line ≡ text
solid_core line before text after last whole blank_before blank_after end begins
    (front, b, ends, solid) =
    let tail : List ℕ = reverse front ++ reverse before in
    let text_reversed : reverse text ≡ b ∷ reverse front =
    ap reverse ends ∙ reverse-append front (b ∷ []) in
    let line_is : reverse line ≡ reverse last ++ (reverse after ++ (b ∷ tail)) =
    ap reverse whole ∙ line_reversed before text after last
    ∙ ap (λ x. reverse last ++ (reverse after ++ (x ++ reverse before))) text_reversed in
    let cut : drop_return (reverse line) ≡ reverse after ++ (b ∷ tail) = ap drop_return line_is
    ∙ return_dropped last (reverse after) tail b end (blanks_reversed after blank_after) solid
    in
    let ended : after_blanks (drop_return (reverse line)) ≡ b ∷ tail =
    ap after_blanks cut ∙ over_blanks (reverse after) (b ∷ tail) (blanks_reversed after blank_after)
    ∙ ap (λ t. if t then after_blanks tail else b ∷ tail) (solid_blank b solid) in
    let back : reverse (b ∷ tail) ≡ before ++ text =
    ap (λ x. reverse (x ++ reverse before)) (sym text_reversed)
    ∙ ap reverse (sym (reverse-append before text)) ∙ reverse-reverse (before ++ text) in
    ap (λ x. after_blanks (reverse x)) ended ∙ ap after_blanks back
    ∙ over_blanks before text blank_before ∙ begins_kept text begins

-- blanks alone have an empty core
all_blank : (x : List ℕ) → AreBlanks x → after_blanks x ≡ []
all_blank [] are = refl
all_blank (b ∷ x) are =
    let parts : (is_blank b ≡ true) × (list_all is_blank x ≡ true) = and_parts _ _ are in
    ap (λ t. if t then after_blanks x else b ∷ x) parts.0 ∙ all_blank x parts.1

blanks_kept : (x : List ℕ) → AreBlanks x → drop_return x ≡ x
blanks_kept [] are = refl
blanks_kept (b ∷ x) are =
    let parts : (is_blank b ≡ true) × (list_all is_blank x ≡ true) = and_parts _ _ are in
    ap (λ t. if t then x else b ∷ x) (blank_return b parts.0)

blanks_dropped : (last x : List ℕ) → (last ≡ []) ⊎ (last ≡ 13 ∷ []) → AreBlanks x
    → after_blanks (drop_return (reverse last ++ x)) ≡ []
blanks_dropped last x (inl none) are = ap (λ y. after_blanks (drop_return (reverse y ++ x))) none
    ∙ ap after_blanks (blanks_kept x are) ∙ all_blank x are
blanks_dropped last x (inr is) are = ap (λ y. after_blanks (drop_return (reverse y ++ x))) is
    ∙ all_blank x are

pub empty_core : (line before text after last : List ℕ) → line ≡ before ++ (text ++ (after ++ last))
    → AreBlanks before → AreBlanks after
    → (last ≡ []) ⊎ (last ≡ 13 ∷ []) → text ≡ [] → core_of line ≡ []
empty_core line before text after last whole blank_before blank_after end none =
    let blanks : AreBlanks (reverse after ++ reverse before) =
    list_all-append is_blank (reverse after) (reverse before)
    ∙ and_from _ _ (blanks_reversed after blank_after) (blanks_reversed before blank_before) in
    let line_is : reverse line ≡ reverse last ++ (reverse after ++ reverse before) =
    ap reverse whole ∙ line_reversed before text after last
    ∙ ap (λ x. reverse last ++ (reverse after ++ (reverse x ++ reverse before))) none in
    ap (λ x. after_blanks (reverse (after_blanks (drop_return x)))) line_is
    ∙ ap (λ x. after_blanks (reverse x))
    (blanks_dropped last (reverse after ++ reverse before) end blanks)

-- the core of a line whose first solid byte is that of a comment begins with it
drop_over : (x rest : List ℕ) → (y : List ℕ) × (drop_return (x ++ (35 ∷ rest)) ≡ y ++ (35 ∷ rest))
drop_over [] rest = ([], refl)
drop_over (b ∷ x) rest =
    elim (b == 13) as (λ t. (y : List ℕ)
    × ((if t then x ++ (35 ∷ rest) else b ∷ (x ++ (35 ∷ rest))) ≡ y ++ (35 ∷ rest))) [
      | true ↦ (x, refl)
      | false ↦ (b ∷ x, refl)
    ]

blanks_over : (x rest : List ℕ) → (y : List ℕ)
    × (after_blanks (x ++ (35 ∷ rest)) ≡ y ++ (35 ∷ rest))
blanks_over [] rest = ([], refl)
blanks_over (b ∷ x) rest =
    elim (is_blank b) as (λ t. (y : List ℕ)
    × ((if t then after_blanks (x ++ (35 ∷ rest)) else b ∷ (x ++ (35 ∷ rest)))
    ≡ y ++ (35 ∷ rest))) [
      | true ↦ blanks_over x rest
      | false ↦ (b ∷ x, refl)
    ]

pub comment_core : (line before rest : List ℕ) → line ≡ before ++ (35 ∷ rest) → AreBlanks before
    → (y : List ℕ) × (core_of line ≡ 35 ∷ y)
comment_core line before rest whole blank_before =
    let line_is : reverse line ≡ reverse rest ++ (35 ∷ reverse before) =
    ap reverse whole ∙ reverse-append before (35 ∷ rest)
    ∙ ap (λ x. x ++ reverse before) (reverse-append (35 ∷ []) rest)
    ∙ append_assoc (reverse rest) (35 ∷ []) (reverse before) in
    let cut = drop_over (reverse rest) (reverse before) in
    let ended = blanks_over cut.0 (reverse before) in
    let tail : after_blanks (drop_return (reverse line)) ≡ ended.0 ++ (35 ∷ reverse before) =
    ap (λ x. after_blanks (drop_return x)) line_is ∙ ap after_blanks cut.1 ∙ ended.1 in
    let back : reverse (ended.0 ++ (35 ∷ reverse before)) ≡ before ++ (35 ∷ reverse ended.0) =
    reverse-append ended.0 (35 ∷ reverse before)
    ∙ ap (λ x. x ++ reverse ended.0) (reverse-append (35 ∷ []) (reverse before)
    ∙ ap (λ x. x ++ (35 ∷ [])) (reverse-reverse before))
    ∙ append_assoc before (35 ∷ []) (reverse ended.0) in (
      reverse ended.0,
      ap (λ x. after_blanks (reverse x)) tail ∙ ap after_blanks back
          ∙ over_blanks before (35 ∷ reverse ended.0) blank_before,
    )

-- a line is its core, with blanks about it and perhaps a carriage return at its end
pub record IsAbout (line core : List ℕ) : Type 0 where
  pub before : List ℕ
  pub after : List ℕ
  pub last : List ℕ
  pub whole : line ≡ before ++ (core ++ (after ++ last))
  pub blank_before : AreBlanks before
  pub blank_after : AreBlanks after
  pub end : (last ≡ []) ⊎ (last ≡ 13 ∷ [])

return_front : (x : List ℕ) → (last : List ℕ) × (x ≡ last ++ drop_return x)
    × ((last ≡ []) ⊎ (last ≡ 13 ∷ []))
return_front [] = ([], refl, inl refl)
return_front (b ∷ x) =
    elim (b == 13) as (λ t. (b == 13) ≡ t → (last : List ℕ)
    × (b ∷ x ≡ last ++ (if t then x else b ∷ x)) × ((last ≡ []) ⊎ (last ≡ 13 ∷ []))) [
      | true ↦ λ same. (13 ∷ [], ap (λ a. a ∷ x) (eqb-true b 13 same), inr refl)
      | false ↦ λ other. ([], refl, inl refl)
    ] refl

last_reversed : (last : List ℕ) → (last ≡ []) ⊎ (last ≡ 13 ∷ [])
    → (reverse last ≡ []) ⊎ (reverse last ≡ 13 ∷ [])
last_reversed last (inl none) = inl (ap reverse none)
last_reversed last (inr is) = inr (ap reverse is)

pub core_about : (line : List ℕ) → IsAbout line (core_of line)
core_about line =
    let ended = return_front (reverse line) in
    let closed = blank_front (drop_return (reverse line)) in
    let stem : List ℕ = after_blanks (drop_return (reverse line)) in
    let opened = blank_front (reverse stem) in
    let line_is : reverse line ≡ ended.0 ++ (closed.0 ++ stem) =
    ended.1 ∙ ap (λ x. ended.0 ++ x) closed.1 in
    let back : reverse (ended.0 ++ (closed.0 ++ stem))
    ≡ (reverse stem ++ reverse closed.0) ++ reverse ended.0 =
    reverse-append ended.0 (closed.0 ++ stem)
    ∙ ap (λ x. x ++ reverse ended.0) (reverse-append closed.0 stem) in
    record {
      before = opened.0;
      after = reverse closed.0;
      last = reverse ended.0;
      whole = sym (reverse-reverse line) ∙ ap reverse line_is ∙ back
          ∙ append_assoc (reverse stem) (reverse closed.0) (reverse ended.0)
          ∙ ap (λ x. x ++ (reverse closed.0 ++ reverse ended.0)) opened.1
          ∙ append_assoc opened.0 (core_of line) (reverse closed.0 ++ reverse ended.0);
      blank_before = opened.2;
      blank_after = blanks_reversed closed.0 closed.2;
      end = last_reversed ended.0 ended.2;
    }
