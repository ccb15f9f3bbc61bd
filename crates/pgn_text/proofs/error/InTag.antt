-- Tags byte by byte: where in a tag a place is, how each place goes on to the tag's end, and how
-- far a text can be the front of a tag.
use Rattle.std.proofs.Common.{Option, Some}
use Rattle.std.specs.Prelude.{not}
use Rattle.std.proofs.Math.Seq.{drop-cons}
use Rattle.pgn_text.proofs.Common.{◌≡◌, ℕ, suc, Bool, true, false, List, [], ◌∷◌, ◌++◌, None}
use Rattle.pgn_text.proofs.Common.{IsTrue, codes, refl, sym, ap, subst, ◌∙◌, inl, inr, arith}
use Rattle.pgn_text.proofs.Common.{get_or, drop, length, ◌<◌, ◌≤◌, ◌==◌, ◌&&◌, flat_map, list_all}
use Rattle.pgn_text.proofs.Common.{drop_of_length-le, and_parts, and_from, cases_Bool, eqb-true}
use Rattle.pgn_text.proofs.Common.{not_from_false, not-true, is_byte, is_white, is_name_byte}
use Rattle.pgn_text.proofs.Common.{is_plain, is_empty, Sign, Single, Escaped, spelled_sign, is_sign}
use Rattle.pgn_text.proofs.Common.{IsContents, Part, Tag, Standing, Stands, spelled_part, is_tag}
use Rattle.pgn_text.proofs.Common.{Longest, Ends, IsTagFront, BeforeName}
use Rattle.pgn_text.proofs.laws.Classes.{is_name_byte-white, is_white-name}
use Rattle.pgn_text.specs.Private.PartFronts.{next_in}
use Rattle.pgn_text.specs.declared.error.error_position.InTag.{InTag}
use Rattle.pgn_text.specs.declared.error.error_position.InTag.TheVariants.{AfterString, Name}
use Rattle.pgn_text.specs.declared.error.error_position.InTag.TheVariants.{AfterName, Closed}
use Rattle.pgn_text.specs.declared.error.error_position.InTag.TheVariants.{Contents, AfterBackslash}
use Rattle.pgn_text.proofs.error.Furthest.{longest_after, longest_nothing}

-- each place goes on to the tag's end
pub each_ends : (s : InTag) → IsTagFront s []
each_ends BeforeName =
    (codes "A\"\"]", (Name, refl, (Contents, refl, (AfterString, refl, (Closed, refl, refl)))))
each_ends Name = (codes "\"\"]", (Contents, refl, (AfterString, refl, (Closed, refl, refl))))
each_ends AfterName = (codes "\"\"]", (Contents, refl, (AfterString, refl, (Closed, refl, refl))))
each_ends Contents = (codes "\"]", (AfterString, refl, (Closed, refl, refl)))
each_ends AfterBackslash =
    (codes " \"]", (Contents, refl, (AfterString, refl, (Closed, refl, refl))))
each_ends AfterString = (codes "]", (Closed, refl, refl))
each_ends Closed = ([], refl)

-- with bytes
ends_in_bytes : (s : InTag) → IsTrue (list_all is_byte (each_ends s).0)
unfolding each_ends
ends_in_bytes BeforeName = refl
ends_in_bytes _ = refl

-- so each front of a tag does
pub tag_bytes : (s : InTag) (x more : List ℕ) → Ends s (x ++ more)
    → (y : List ℕ) × Ends s (x ++ y) × IsTrue (list_all is_byte y)
tag_bytes s [] more h = let end = each_ends s in (end.0, end.1, ends_in_bytes s)
tag_bytes s (b ∷ x) more h = let r = tag_bytes h.0 x more h.2 in (r.0, (h.0, h.1, r.1), r.2)

abbrev pub one_more : Option InTag → (InTag → ℕ) → ℕ
one_more None count = 0
one_more (Some t) count = suc (count t)

-- how many of the text's first bytes a tag may have from there
abbrev pub tag_far : InTag → List ℕ → ℕ
tag_far s [] = 0
tag_far s (b ∷ rest) = one_more (next_in s b) (λ t. tag_far t rest)

pub tag_longest : (s : InTag) (text : List ℕ) → Longest (IsTagFront s) text (tag_far s text)
tag_longest s [] = record { within = omega arith; here = each_ends s; most = λ k low p. low }
tag_longest s (b ∷ rest) = go (next_in s b) refl (λ t. tag_longest t rest)
  where
    go : (o : Option InTag) → next_in s b ≡ o
        → ((t : InTag) → Longest (IsTagFront t) rest (tag_far t rest))
        → Longest (IsTagFront s) (b ∷ rest) (tag_far s (b ∷ rest))
    go None e again =
        subst (Longest (IsTagFront s) (b ∷ rest))
        (ap (λ o. one_more o (λ t. tag_far t rest)) (sym e))
        (longest_nothing (IsTagFront s) b rest (each_ends s) (λ x p. let f = p.1.1 in cc))
    go (Some t) e again =
        subst (Longest (IsTagFront s) (b ∷ rest))
        (ap (λ o. one_more o (λ t. tag_far t rest)) (sym e))
        (longest_after (IsTagFront s) (IsTagFront t) b rest (tag_far t rest)
        (λ x q. (q.0, (t, e, q.1)))
        (λ x p. (
          p.0,
          (let same : p.1.0 ≡ t = (let f = p.1.1 in cc) in
              subst (λ u. Ends u (x ++ p.0)) same p.1.2),
        ))
        (again t))

-- a byte that none may have
pub tag_stuck : (s : InTag) (text : List ℕ) (i : ℕ) → i < length text
    → next_in s (get_or text i 0) ≡ None
    → tag_far s (drop i text) ≡ 0
tag_stuck s text i inside e = rw (drop-cons text i 0 inside, e) refl

-- the text's end
pub tag_over : (s : InTag) (text : List ℕ) (i : ℕ) → length text ≤ i → tag_far s (drop i text) ≡ 0
tag_over s text i past = rw (drop_of_length-le text past) refl

-- ---- what goes on to the end is a tag

end_is : (z : List ℕ) → Ends Closed z → z ≡ []
end_is [] h = refl
end_is (b ∷ z) (t, e, h) = cc

third_is : (z : List ℕ) → Ends AfterString z
    → (third : List ℕ) × (z ≡ third ++ 93 ∷ []) × IsTrue (list_all is_white third)
third_is [] h = cc
third_is (b ∷ z) (t, e, h) = elim (cases_Bool (is_white b)) [
  | inl w ↦
      let same : AfterString ≡ t = (let f = rw w at e in cc) in
      let more = third_is z (rw same h) in (
        b ∷ more.0,
        ap (λ l. b ∷ l) more.1,
        and_from (is_white b) (list_all is_white more.0) w more.2,
      )
  | inr w ↦ elim (cases_Bool (b == 93)) [
    | inl q ↦
        let same : Closed ≡ t = (let f = rw (w, q) at e in cc) in
        ([], ap (λ k. k ∷ z) (eqb-true b 93 q) ∙ ap (λ l. 93 ∷ l) (end_is z (rw same h)), refl)
    | inr q ↦ let f = rw (w, q) at e in cc
  ]
]

-- contents, or what is left of them after a backslash
abbrev SpelledIn : Bool → List ℕ → Type 0
SpelledIn true y = IsContents (92 ∷ y)
SpelledIn false y = IsContents y

abbrev in_contents : Bool → InTag
in_contents true = AfterBackslash
in_contents false = Contents

-- one sign more
escaped_in : (b : ℕ) (y : List ℕ) → is_plain b ≡ true → IsContents y → IsContents (92 ∷ b ∷ y)
escaped_in b y plain (signs, spelt, all) = (
  Escaped b ∷ signs,
  ap (λ l. 92 ∷ b ∷ l) spelt,
  and_from (is_plain b) (list_all is_sign signs) plain all,
)

single_in : (b : ℕ) (y : List ℕ) → is_plain b ≡ true → (b == 34) ≡ false → (b == 92) ≡ false
    → IsContents y → IsContents (b ∷ y)
single_in b y plain quote backslash (signs, spelt, all) = (
  Single b ∷ signs,
  ap (λ l. b ∷ l) spelt,
  and_from (is_sign (Single b)) (list_all is_sign signs)
      (and_from (is_plain b) (not (b == 34) && not (b == 92)) plain
      (and_from (not (b == 34)) (not (b == 92)) (not_from_false (b == 34) quote)
      (not_from_false (b == 92) backslash))) all,
)

one_byte : (b : ℕ) (z y after : List ℕ) → z ≡ y ++ 34 ∷ after → b ∷ z ≡ (b ∷ y) ++ 34 ∷ after
one_byte b z y after e = ap (λ l. b ∷ l) e

contents_is : (escaped : Bool) (z : List ℕ) → Ends (in_contents escaped) z
    → (y : List ℕ) × (after : List ℕ) × (z ≡ y ++ 34 ∷ after) × SpelledIn escaped y
    × Ends AfterString after
contents_is true [] h = cc
contents_is false [] h = cc
contents_is true (b ∷ z) (t, e, h) = elim (cases_Bool (is_plain b)) [
  | inl p ↦
      let same : Contents ≡ t = (let f = rw p at e in cc) in
      let more = contents_is false z (rw same h) in (
        b ∷ more.0,
        more.1,
        one_byte b z more.0 more.1 more.2,
        escaped_in b more.0 p more.3,
        more.4,
      )
  | inr p ↦ let f = rw p at e in cc
]
contents_is false (b ∷ z) (t, e, h) = elim (cases_Bool (b == 92)) [
  | inl k ↦
      let same : AfterBackslash ≡ t = (let f = rw k at e in cc) in
      let more = contents_is true z (rw same h) in (
        b ∷ more.0,
        more.1,
        one_byte b z more.0 more.1 more.2,
        subst (λ c. IsContents (c ∷ more.0)) (sym (eqb-true b 92 k)) more.3,
        more.4,
      )
  | inr k ↦ elim (cases_Bool (b == 34)) [
    | inl q ↦
        let same : AfterString ≡ t = (let f = rw (k, q) at e in cc) in
        ([], z, ap (λ c. c ∷ z) (eqb-true b 34 q), ([], refl, refl), rw same h)
    | inr q ↦ elim (cases_Bool (is_plain b)) [
      | inl p ↦
          let same : Contents ≡ t = (let f = rw (k, q, p) at e in cc) in
          let more = contents_is false z (rw same h) in (
            b ∷ more.0,
            more.1,
            one_byte b z more.0 more.1 more.2,
            single_in b more.0 p q k more.3,
            more.4,
          )
      | inr p ↦ let f = rw (k, q, p) at e in cc
    ]
  ]
]

second_is : (z : List ℕ) → Ends AfterName z
    → (second : List ℕ) × (after : List ℕ) × (z ≡ second ++ 34 ∷ after)
    × IsTrue (list_all is_white second) × Ends Contents after
second_is [] h = cc
second_is (b ∷ z) (t, e, h) = elim (cases_Bool (is_white b)) [
  | inl w ↦
      let same : AfterName ≡ t = (let f = rw w at e in cc) in
      let more = second_is z (rw same h) in (
        b ∷ more.0,
        more.1,
        ap (λ l. b ∷ l) more.2,
        and_from (is_white b) (list_all is_white more.0) w more.3,
        more.4,
      )
  | inr w ↦ elim (cases_Bool (b == 34)) [
    | inl q ↦
        let same : Contents ≡ t = (let f = rw (w, q) at e in cc) in
        ([], z, ap (λ c. c ∷ z) (eqb-true b 34 q), refl, rw same h)
    | inr q ↦ let f = rw (w, q) at e in cc
  ]
]

-- the rest of a name, and what follows it
record NameIs (z : List ℕ) : Type 0 where
  name : List ℕ
  second : List ℕ
  after : List ℕ
  is : z ≡ name ++ (second ++ 34 ∷ after)
  names : IsTrue (list_all is_name_byte name)
  whites : IsTrue (list_all is_white second)
  ends : Ends Contents after

name_is : (z : List ℕ) → Ends Name z → NameIs z
name_is [] h = cc
name_is (b ∷ z) (t, e, h) = elim (cases_Bool (is_name_byte b)) [
  | inl n ↦
      let same : Name ≡ t = (let f = rw n at e in cc) in
      let more = name_is z (rw same h) in record {
        name = b ∷ more.name;
        second = more.second;
        after = more.after;
        is = ap (λ l. b ∷ l) more.is;
        names = and_from (is_name_byte b) (list_all is_name_byte more.name) n more.names;
        whites = more.whites;
        ends = more.ends;
      }
  | inr n ↦ elim (cases_Bool (is_white b)) [
    | inl w ↦
        let same : AfterName ≡ t = (let f = rw (n, w) at e in cc) in
        let more = second_is z (rw same h) in record {
          name = [];
          second = b ∷ more.0;
          after = more.1;
          is = ap (λ l. b ∷ l) more.2;
          names = refl;
          whites = and_from (is_white b) (list_all is_white more.0) w more.3;
          ends = more.4;
        }
    | inr w ↦ elim (cases_Bool (b == 34)) [
      | inl q ↦
          let same : Contents ≡ t = (let f = rw (n, w, q) at e in cc) in record {
            name = [];
            second = [];
            after = z;
            is = ap (λ c. c ∷ z) (eqb-true b 34 q);
            names = refl;
            whites = refl;
            ends = rw same h;
          }
      | inr q ↦ let f = rw (n, w, q) at e in cc
    ]
  ]
]

record FirstIs (z : List ℕ) : Type 0 where
  first : List ℕ
  head : ℕ
  back : List ℕ
  is : z ≡ first ++ head ∷ back
  whites : IsTrue (list_all is_white first)
  named : is_name_byte head ≡ true
  ends : Ends Name back

first_is : (z : List ℕ) → Ends BeforeName z → FirstIs z
first_is [] h = cc
first_is (b ∷ z) (t, e, h) = elim (cases_Bool (is_white b)) [
  | inl w ↦
      let same : BeforeName ≡ t = (let f = rw w at e in cc) in
      let more = first_is z (rw same h) in record {
        first = b ∷ more.first;
        head = more.head;
        back = more.back;
        is = ap (λ l. b ∷ l) more.is;
        whites = and_from (is_white b) (list_all is_white more.first) w more.whites;
        named = more.named;
        ends = more.ends;
      }
  | inr w ↦ elim (cases_Bool (is_name_byte b)) [
    | inl n ↦
        let same : Name ≡ t = (let f = rw (w, n) at e in cc) in
        record {
          first = [];
          head = b;
          back = z;
          is = refl;
          whites = refl;
          named = n;
          ends =
              rw same h;
        }
    | inr n ↦ let f = rw (w, n) at e in cc
  ]
]

-- what goes on from the bracket to the end
pub tag_is : (place : Standing) (z : List ℕ) → Ends BeforeName z
    → (p : Part) × (spelled_part p ≡ 91 ∷ z) × (is_tag p ≡ true) × Stands place p []
tag_is place z h =
    let a = first_is z h in
    let n = name_is a.back a.ends in
    let c = contents_is false n.after n.ends in
    let d = third_is c.1 c.4 in
    let after : n.after ≡ c.0 ++ 34 ∷ (d.0 ++ 93 ∷ []) = c.2 ∙ ap (λ l. c.0 ++ 34 ∷ l) d.1 in (
      Tag a.first (a.head ∷ n.name) n.second c.0 d.0,
      sym (ap (λ l. 91 ∷ l) (a.is ∙ ap (λ l. a.first ++ a.head ∷ l)
          (n.is ∙ ap (λ l. n.name ++ (n.second ++ 34 ∷ l)) after))),
      refl,
      (
        a.whites,
        refl,
        and_from (is_name_byte a.head) (list_all is_name_byte n.name) a.named n.names,
        n.whites,
        c.3,
        d.2,
      ),
    )

-- ---- and a tag goes on to its end

third_ends : (third : List ℕ) → IsTrue (list_all is_white third)
    → Ends AfterString (third ++ 93 ∷ [])
third_ends [] all = (Closed, refl, refl)
third_ends (b ∷ third) all =
    let both = and_parts (is_white b) (list_all is_white third) all in
    (AfterString, rw both.0 refl, third_ends third both.1)

signs_end : (signs : List Sign) (after : List ℕ) → IsTrue (list_all is_sign signs)
    → Ends AfterString after
    → Ends Contents (flat_map spelled_sign signs ++ 34 ∷ after)
signs_end [] after all h = (AfterString, refl, h)
signs_end (Single b ∷ signs) after all h =
    let both = and_parts (is_sign (Single b)) (list_all is_sign signs) all in
    let plain = and_parts (is_plain b) (not (b == 34) && not (b == 92)) both.0 in
    let others = and_parts (not (b == 34)) (not (b == 92)) plain.1 in (
      Contents,
      rw (not-true _ others.1, not-true _ others.0, plain.0) refl,
      signs_end signs after both.1 h,
    )
signs_end (Escaped b ∷ signs) after all h =
    let both = and_parts (is_plain b) (list_all is_sign signs) all in
    (AfterBackslash, refl, (Contents, rw both.0 refl, signs_end signs after both.1 h))

second_ends : (second after : List ℕ) → IsTrue (list_all is_white second) → Ends Contents after
    → Ends AfterName (second ++ 34 ∷ after)
second_ends [] after all h = (Contents, refl, h)
second_ends (b ∷ second) after all h =
    let both = and_parts (is_white b) (list_all is_white second) all in
    (AfterName, rw both.0 refl, second_ends second after both.1 h)

-- after a name
after_ends : (second after : List ℕ) → IsTrue (list_all is_white second) → Ends Contents after
    → Ends Name (second ++ 34 ∷ after)
after_ends [] after all h = (Contents, refl, h)
after_ends (b ∷ second) after all h =
    let both = and_parts (is_white b) (list_all is_white second) all in
    (AfterName, rw (is_name_byte-white b both.0, both.0) refl, second_ends second after both.1 h)

name_ends : (name rest : List ℕ) → IsTrue (list_all is_name_byte name) → Ends Name rest
    → Ends Name (name ++ rest)
name_ends [] rest all h = h
name_ends (b ∷ name) rest all h =
    let both = and_parts (is_name_byte b) (list_all is_name_byte name) all in
    (Name, rw both.0 refl, name_ends name rest both.1 h)

first_ends : (first name rest : List ℕ) → IsTrue (list_all is_white first)
    → IsTrue (not (is_empty name))
    → IsTrue (list_all is_name_byte name) → Ends Name rest
    → Ends BeforeName (first ++ (name ++ rest))
first_ends [] [] rest all some names h = cc
first_ends [] (b ∷ name) rest all some names h =
    let both = and_parts (is_name_byte b) (list_all is_name_byte name) names in
    (Name, rw (is_white-name b both.0, both.0) refl, name_ends name rest both.1 h)
first_ends (b ∷ first) name rest all some names h =
    let both = and_parts (is_white b) (list_all is_white first) all in
    (BeforeName, rw both.0 refl, first_ends first name rest both.1 some names h)

pub tag_ends : (place : Standing) (first name second contents third after : List ℕ)
    → Stands place (Tag first name second contents third) after
    → Ends BeforeName (first
    ++ (name ++ (second ++ (34 ∷ (contents ++ (34 ∷ (third ++ 93 ∷ [])))))))
tag_ends place first name second contents third after (
  whites,
  some,
  names,
  more_whites,
  (signs, spelt, all),
  last_whites,
) =
    first_ends first name _ whites some names
    (after_ends second _ more_whites
    (rw spelt (signs_end signs (third ++ 93 ∷ []) all (third_ends third last_whites))))
