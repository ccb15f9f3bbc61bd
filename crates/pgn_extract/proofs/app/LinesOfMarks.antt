-- The lines of a text are its first one and those of what follows it; and which marks are gathered
-- of them.
use Rattle.std.proofs.Common.{◌≡◌, ◌≢◌, ◌⊎◌, ℕ, ◌==◌, ◌||◌, ◌&&◌, Bool, true, false, nat_le, nat_lt}
use Rattle.std.proofs.Common.{inl, inr, List, [], ◌∷◌, ◌++◌, map, Option, Some, None, IfSome, refl}
use Rattle.std.proofs.Common.{sym, ap, ap₂, ◌∙◌, append_assoc, append-nil, arith, ◌≤◌, ◌<◌, subst}
use Rattle.std.proofs.Common.{length, if◌then◌else◌}
use Rattle.std.specs.Io.BufRead.{take_through, drop_through, DropsThrough}
use Rattle.std.specs.Io.KnownBytes.{prepend_known}
use Rattle.pgn_extract.proofs.Common.{cases_Bool, eqb-true, nat_tests, map-append, list_any-append}
use Rattle.pgn_extract.proofs.Common.{IsAtEnd, is_among, is_mark_of, AreMarksOf, IsBeforeLine}
use Rattle.pgn_extract.proofs.Common.{IsLineOf, IsWithin, line_mark, pairs_of, given_of, game_id}
use Rattle.pgn_extract.specs.Private.MarkLines.{HasMark}
use Rattle.pgn_extract.specs.declared.marks.GameId.{GameId}

-- past a line feed within the text stands what follows the first one
past_feed : (front rest : List ℕ)
    → (before : List ℕ) × (drop_through 10 ((front ++ 10 ∷ []) ++ rest)
    ≡ before ++ rest) × IsBeforeLine before
past_feed [] rest = ([], refl, inl refl)
past_feed (x ∷ xs) rest =
    elim (cases_Bool (x == 10)) [
      | inl is ↦ (xs ++ 10 ∷ [], rw is refl, inr (xs, refl))
      | inr is ↦ let later = past_feed xs rest in (later.0, rw is later.1, later.2)
    ]

pub first_or_later : (text line : List ℕ) → IsLineOf text line
    → (line ≡ take_through 10 text) ⊎ IsLineOf (drop_through 10 text) line
first_or_later text line of =
    elim of.begins [
      | inl none ↦ inl (of.is ∙ ap (take_through 10) (sym (of.parted
          ∙ ap (λ b. b ++ of.rest) none)))
      | inr ended ↦
          let later = past_feed ended.0 of.rest in
          inr (record {
            before = later.0;
            rest = of.rest;
            parted = ap (drop_through 10) (of.parted ∙ ap (λ b. b ++ of.rest) ended.1) ∙ later.1;
            begins = later.2;
            some = of.some;
            is = of.is;
          })
    ]

first : (text : List ℕ) → text ≢ [] → IsLineOf text (take_through 10 text)
first text some = record {
  before = [];
  rest = text;
  parted = refl;
  begins = inl refl;
  some = some;
  is = refl;
}

-- both parts of a text
both : (text : List ℕ) → text ≡ take_through 10 text ++ drop_through 10 text
both [] = refl
both (x ∷ xs) =
    elim (cases_Bool (x == 10)) [
      | inl is ↦ rw is refl
      | inr is ↦ rw is (ap (λ l. x ∷ l) (both xs))
    ]

-- the first ends with a line feed, where something follows it
ends : (text : List ℕ) → drop_through 10 text ≢ []
    → (front : List ℕ) × (take_through 10 text ≡ front ++ 10 ∷ [])
ends [] some = absurd (some refl)
ends (x ∷ xs) some =
    elim (cases_Bool (x == 10)) [
      | inl is ↦ ([], rw is (ap (λ b. b ∷ []) (eqb-true x 10 is)))
      | inr is ↦ let rest = ends xs (rw is at some) in (x ∷ rest.0, rw is (ap (λ l. x ∷ l) rest.1))
    ]

pub none_of_none : (before rest : List ℕ) → before ++ rest ≡ [] → rest ≡ []
none_of_none [] rest is = is
none_of_none (x ∷ xs) rest is = cc

later : (text line : List ℕ) → IsLineOf (drop_through 10 text) line → IsLineOf text line
later text line of =
    let head = take_through 10 text in
    let end = ends text (λ none. of.some (none_of_none of.before of.rest (sym of.parted ∙ none))) in
    record {
      before = head ++ of.before;
      rest = of.rest;
      parted = both text ∙ ap (λ r. head ++ r) of.parted
          ∙ sym (append_assoc head of.before of.rest);
      begins = inr (elim of.begins [
        | inl none ↦ (end.0, ap (λ b. head ++ b) none ∙ append-nil head ∙ end.1)
        | inr more ↦ (
          head ++ more.0,
          ap (λ b. head ++ b) more.1 ∙ sym (append_assoc head more.0 (10 ∷ [])),
        )
      ]);
      some = of.some;
      is = of.is;
    }

-- the marks of a text are that of its first line and those of the others
module _ (name text : List ℕ) (mark : GameId) where
  mark_parts : HasMark name text mark
      → (line_mark name (take_through 10 text)
      ≡ Some mark) ⊎ HasMark name (drop_through 10 text) mark
  mark_parts has =
      elim (first_or_later text has.0 has.1) [
        | inl is ↦ inl (ap (line_mark name) (sym is) ∙ has.2)
        | inr of ↦ inr (has.0, of, has.2)
      ]

  mark_first : text ≢ [] → line_mark name (take_through 10 text) ≡ Some mark
      → HasMark name text mark
  mark_first some is = (take_through 10 text, first text some, is)

  mark_later : HasMark name (drop_through 10 text) mark → HasMark name text mark
  mark_later has = (has.0, later text has.0 has.1, has.2)

-- an empty text has none
no_mark : (name : List ℕ) (mark : GameId) → HasMark name [] mark → ⊥
no_mark name mark has = has.1.some (none_of_none has.1.before has.1.rest (sym has.1.parted))

-- ---- what is gathered

either : (a b : Bool) → (a || b) ≡ true → (a ≡ true) ⊎ (b ≡ true)
either true b is = inl refl
either false b is = inr is

or_first : (a b : Bool) → a ≡ true → (a || b) ≡ true
or_first a b is = rw is refl

or_second : (a b : Bool) → b ≡ true → (a || b) ≡ true
or_second true b is = refl
or_second false b is = is

same_mark : (id mark : GameId) → is_mark_of id mark ≡ true → mark ≡ id
same_mark id mark is =
    let number : mark.number ≡ id.number = grind (arith, nat_tests, is) in
    let offset : mark.offset ≡ id.offset = grind (arith, nat_tests, is) in
    ap₂ game_id number offset

its_own : (id : GameId) → is_mark_of id id ≡ true
its_own id = grind (arith, nat_tests)

not_before : (begin end offset : ℕ) → (nat_le begin offset && nat_lt offset end) ≡ true
    → begin ≤ offset
not_before begin end offset is = grind (arith, nat_tests, is)

not_after : (begin end offset : ℕ) → (nat_le begin offset && nat_lt offset end) ≡ true
    → offset < end
not_after begin end offset is = grind (arith, nat_tests, is)

between : (begin end offset : ℕ) → begin ≤ offset → offset < end
    → (nat_le begin offset && nat_lt offset end) ≡ true
between begin end offset low high = grind (arith, nat_tests, low, high)

module _ (begin end : ℕ) (id : GameId) where
  -- the mark that a line adds
  its_mark : (mark : Option GameId) → is_among (map given_of (pairs_of begin end mark)) id ≡ true
      → IsWithin begin end id × (mark ≡ Some id)
  its_mark None is = absurd cc
  its_mark (Some mark) is =
      elim (cases_Bool (nat_le begin mark.offset && nat_lt mark.offset end)) [
        | inl within ↦
            elim (either (is_mark_of id mark) false (rw within at is)) [
              | inl same ↦
                  let is = same_mark id mark same in
                  let low = not_before begin end mark.offset within in
                  let high = not_after begin end mark.offset within in
                  (subst (IsWithin begin end) is (low, high), ap Some is)
              | inr none ↦ absurd cc
            ]
        | inr outside ↦ absurd (let none = rw outside at is in cc)
      ]

  adds : (mark : Option GameId) → mark ≡ Some id → IsWithin begin end id
      → is_among (map given_of (pairs_of begin end mark)) id ≡ true
  adds mark is within =
      rw is (rw (between begin end id.offset within.0 within.1)
      (or_first (is_mark_of id id) false (its_own id)))

  -- those before and that one
  all_of : (pairs more : List (ℕ × ℕ)) → is_among (map given_of (pairs ++ more)) id
      ≡ (is_among (map given_of pairs) id || is_among (map given_of more) id)
  all_of pairs more =
      ap (λ marks. is_among marks id) (map-append given_of pairs more)
      ∙ list_any-append (is_mark_of id) (map given_of pairs) (map given_of more)

-- a line of the text has the mark, which stands in the stretch
abbrev pub IsAsked : List ℕ → List ℕ → ℕ → ℕ → GameId → Type 0
IsAsked name text begin end id = IsWithin begin end id × HasMark name text id

-- the pairs are those of the lines before a rest of the text
pub record AreGathered (name text : List ℕ) (begin end : ℕ) (pairs : List (ℕ
    × ℕ)) (rest : List ℕ) : Type 0 where
  pub each : (id : GameId) → is_among (map given_of pairs) id ≡ true
      → IsAsked name text begin end id
  pub lost : (id : GameId) → IsAsked name text begin end id
      → (is_among (map given_of pairs) id ≡ true) ⊎ IsAsked name rest begin end id
  pub later : (id : GameId) → IsAsked name rest begin end id → IsAsked name text begin end id

module _ (name text : List ℕ) (begin end : ℕ) where
  -- before any is read
  pub none_gathered : AreGathered name text begin end [] text
  none_gathered = record {
    each = λ id is. absurd cc;
    lost = λ id has. inr has;
    later = λ id has. has;
  }

  -- one line more
  pub one_more : (pairs : List (ℕ × ℕ)) (rest : List ℕ) → rest ≢ []
      → AreGathered name text begin end pairs rest
      → AreGathered name text begin end (pairs ++ pairs_of begin end (line_mark name
      (take_through 10 rest))) (drop_through 10 rest)
  one_more pairs rest some before =
      let mark = line_mark name (take_through 10 rest) in
      let own = pairs_of begin end mark in
      record {
        each = λ id is.
            elim (either _ _ (sym (all_of begin end id pairs own) ∙ is)) [
              | inl earlier ↦ before.each id earlier
              | inr here ↦
                  let its = its_mark begin end id mark here in
                  before.later id (
                    its.0,
                    mark_first name rest
                        id some its.1,
                  )
            ];
        lost = λ id has.
            elim (before.lost id has) [
              | inl earlier ↦ inl (all_of begin end id pairs own ∙ or_first _ _ earlier)
              | inr left ↦
                  elim (mark_parts name rest id left.1) [
                    | inl here ↦ inl (all_of begin end id pairs own
                        ∙ or_second _ _ (adds begin end id mark here left.0))
                    | inr more ↦ inr (left.0, more)
                  ]
            ];
        later = λ id has. before.later id (
          has.0,
          mark_later name rest
              id has.1,
        );
      }

  -- and all
  pub all_gathered : (pairs : List (ℕ × ℕ)) → AreGathered name text begin end pairs []
      → AreMarksOf name text begin end (map given_of pairs)
  all_gathered pairs all = λ id. (
    all.each id,
    λ has.
        elim (all.lost id has) [
          | inl is ↦ is
          | inr none ↦ absurd (no_mark name id none.1)
        ],
  )

-- ---- over a reader

-- what a reader has left, and the pairs of the lines before it
pub record IsReadTo (name text : List ℕ) (begin end : ℕ) (pairs : List (ℕ
    × ℕ)) (left : Option (List ℕ)) : Type 0 where
  pub rest : List ℕ
  pub is : left ≡ Some rest
  pub gathered : AreGathered name text begin end pairs rest

-- what a new reader over these bytes has left
pub all_left : (capacity : ℕ) (buffer : List ℕ) (known : Option (List ℕ)) → capacity ≡ 8192
    → buffer ≡ [] → (if capacity == 0 then None else prepend_known buffer known) ≡ known
all_left capacity buffer None size empty = rw size refl
all_left capacity buffer (Some text) size empty = rw (size, empty) refl

at_known : (known : Option (List ℕ)) (text : List ℕ) (P : List ℕ → Type 0) → known ≡ Some text
    → IfSome known P → P text
at_known known text P is = subst (λ k. IfSome k P) is

not_empty : (rest line : List ℕ) → line ≡ take_through 10 rest → 0 < length line → rest ≢ []
not_empty rest line is some none = omega (
  arith,
  ap length is,
  ap (λ r. length
      (take_through 10 r)) none,
)

module _ (name : List ℕ) (begin end : ℕ) where
  pub none_read : (known left : Option (List ℕ)) (pairs : List (ℕ × ℕ)) → left ≡ known → pairs ≡ []
      → IfSome known (λ text. IsReadTo name text begin end pairs left)
  none_read None left pairs is none = tt
  none_read (Some text) left pairs is none =
      record {
        rest = text;
        is = is;
        gathered = subst
            (λ p. AreGathered name text begin end p text) (sym none)
            (none_gathered name text begin end);
      }

  pub line_read : (known left left' : Option (List ℕ)) (pairs pairs' : List (ℕ
      × ℕ)) (old line : List ℕ) → old ≡ []
      → IfSome left (λ rest. line ≡ old ++ take_through 10 rest) → DropsThrough left left' 10
      → 0 < length line → pairs' ≡ pairs ++ pairs_of begin end (line_mark name line)
      → IfSome known (λ text. IsReadTo name text begin end pairs left)
      → IfSome known (λ text. IsReadTo name text begin end pairs' left')
  line_read None left left' pairs pairs' old line empty bytes drops some added before = tt
  line_read (Some text) left left' pairs pairs' old line empty bytes drops some added before =
      let rest = before.rest in
      let read : line ≡ take_through 10 rest =
      at_known left rest (λ r. line ≡ old ++ take_through 10 r) before.is bytes
      ∙ ap (λ l. l ++ take_through 10 rest) empty in
      let own : pairs' ≡ pairs ++ pairs_of begin end (line_mark name (take_through 10 rest)) =
      added ∙ ap (λ l. pairs ++ pairs_of begin end (line_mark name l)) read in
      record {
        rest = drop_through 10 rest;
        is = at_known left rest (λ r. left' ≡ Some (drop_through 10 r)) before.is drops;
        gathered = subst (λ p. AreGathered name text begin end p (drop_through 10 rest)) (sym own)
            (one_more name text begin end pairs rest
            (not_empty rest line read some) before.gathered);
      }

  pub all_read : (known left : Option (List ℕ)) (pairs : List (ℕ × ℕ)) → IsAtEnd left
      → IfSome known (λ text. IsReadTo name text begin end pairs left)
      → IfSome known (λ text. AreMarksOf name text begin end (map given_of pairs))
  all_read None left pairs ended before = tt
  all_read (Some text) left pairs ended before =
      let none : before.rest ≡ [] = subst IsAtEnd before.is ended in
      all_gathered name text begin end pairs (subst
      (λ r. AreGathered name text begin end pairs r) none before.gathered)
