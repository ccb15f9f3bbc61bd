-- Letters of kinds with their limits: what spells them is cut as they are read, and the other way
-- round.
use Rattle.std.specs.Prelude.{map, ◌+◌, ◌-◌, ◌==◌, ◌||◌, ◌&&◌, not, nat_le, if◌then◌else◌}
use Rattle.pgn_criteria.proofs.Common.{◌≡◌, ◌≢◌, ◌≤◌, ℕ, Bool, true, false, List, [], ◌∷◌, ◌++◌}
use Rattle.pgn_criteria.proofs.Common.{refl, sym, ap, ◌∙◌, subst, IsTrue, inl, inr, arith, list_all}
use Rattle.pgn_criteria.proofs.Common.{and_parts, not-true, eqb-true, and_from, eq-eqb, nat_tests}
use Rattle.pgn_criteria.proofs.Common.{list_all-append, kind_letter, Kind, King, IsLimitIn}
use Rattle.pgn_criteria.proofs.Common.{SpellsLimits, limit_of, AreEntries, first_limit, limit_after}
use Rattle.pgn_criteria.proofs.Common.{Limit, Exactly, AtLeast, AtMost, AnyNumber, Limits}
use Rattle.chess.specs.Public.Fen.{is_digit, has_byte, is_distinct}
use Rattle.pgn_criteria.specs.Public.Lines.{SpellsLimit, one, exactly, at_least, at_most, any}
use Rattle.pgn_criteria.specs.Public.Lines.{SpellsEntries}
use Rattle.pgn_criteria.specs.Private.Reading.{digit_limit}
use Rattle.pgn_criteria.proofs.SolidFacts.{is_solid, AreSolid}
use Rattle.pgn_game.proofs.MoveTexts.{same_letter}

-- letters of kinds are high, the bytes of limits low
abbrev pub is_high : ℕ → Bool
is_high b = nat_le 65 b

abbrev pub is_low : ℕ → Bool
is_low b = nat_le 33 b && nat_le b 57

letter_high : (kind : Kind) → is_high (kind_letter kind) ≡ true
letter_high King = refl
letter_high _ = refl

high_solid : (b : ℕ) → is_high b ≡ true → is_solid b ≡ true
high_solid b high = grind (arith, nat_tests)

low_solid : (b : ℕ) → is_low b ≡ true → is_solid b ≡ true
low_solid b low = grind (arith, nat_tests)

digit_low : (n : ℕ) → n ≤ 9 → is_low (48 + n) ≡ true
digit_low n h = grind (arith, nat_tests)

limit_low : (own : List ℕ) (limit : Limit) → SpellsLimit own limit → IsTrue (list_all is_low own)
limit_low own limit one = refl
limit_low own limit (exactly n h) = ap (λ t. t && true) (digit_low n h)
limit_low own limit (at_least n h) = ap (λ t. t && true) (digit_low n h)
limit_low own limit (at_most n h) = ap (λ t. t && true) (digit_low n h)
limit_low own limit any = refl

-- low bytes are no letter of a kind
low_other : (b : ℕ) (letter : ℕ) → is_low b ≡ true → is_high letter ≡ true → (b == letter) ≡ false
low_other b letter low high = grind (arith, nat_tests)

has_after_low : (letter : ℕ) (own rest : List ℕ) → is_high letter ≡ true
    → IsTrue (list_all is_low own) → has_byte letter (own ++ rest) ≡ has_byte letter rest
has_after_low letter [] rest high low = refl
has_after_low letter (b ∷ own) rest high low =
    let parts : (is_low b ≡ true) × (list_all is_low own ≡ true) = and_parts _ _ low in
    ap (λ t. t || has_byte letter (own ++ rest)) (low_other b letter parts.0 high)
    ∙ has_after_low letter own rest high parts.1

limit_after_low : (letter : ℕ) (own rest : List ℕ) → is_high letter ≡ true
    → IsTrue (list_all is_low own) → limit_after letter (own ++ rest) ≡ limit_after letter rest
limit_after_low letter [] rest high low = refl
limit_after_low letter (b ∷ own) rest high low =
    let parts : (is_low b ≡ true) × (list_all is_low own ≡ true) = and_parts _ _ low in
    ap (λ t. if t then (first_limit (own ++ rest)).0
    else limit_after letter (own ++ rest)) (low_other b letter parts.0 high)
    ∙ limit_after_low letter own rest high parts.1

-- the text ends, or goes on with a high byte
abbrev pub begins_high : List ℕ → Bool
begins_high [] = true
begins_high (b ∷ x) = is_high b

entries_begin : (text : List ℕ) (entries : List (Kind × Limit)) → SpellsEntries text entries
    → begins_high text ≡ true
entries_begin text [] is = ap begins_high is
entries_begin text (entry ∷ more) (own, rest, is, limit, spells) =
    ap begins_high is ∙ letter_high entry.0

digit_star : (n : ℕ) → (48 + n == 42) ≡ false
digit_star n = grind (arith, nat_tests)

digit_digit : (n : ℕ) → n ≤ 9 → is_digit (48 + n) ≡ true
digit_digit n h = grind (arith, nat_tests)

digit_number : (n : ℕ) → 48 + n - 48 ≡ n
digit_number n = omega arith

digit_first : (n : ℕ) (x : List ℕ) → n ≤ 9 → first_limit ((48 + n) ∷ x) ≡ digit_limit n x
digit_first n x h =
    ap (λ t. if t then (AnyNumber, x) else if is_digit (48 + n) then digit_limit (48 + n - 48) x
    else (Exactly 1, (48 + n) ∷ x)) (digit_star n)
    ∙ ap (λ t. if t then digit_limit (48 + n - 48) x
    else (Exactly 1, (48 + n) ∷ x)) (digit_digit n h) ∙ ap (λ m. digit_limit m x) (digit_number n)

-- what follows a limit is none of its bytes
high_other : (b other : ℕ) → is_high b ≡ true → other ≤ 57 → (b == other) ≡ false
high_other b other high low = grind (arith, nat_tests)

high_digit : (b : ℕ) → is_high b ≡ true → is_digit b ≡ false
high_digit b high = grind (arith, nat_tests)

digit_end : (n : ℕ) (rest : List ℕ) → begins_high rest ≡ true
    → digit_limit n rest ≡ (Exactly n, rest)
digit_end n [] high = refl
digit_end n (b ∷ x) high =
    ap (λ t. if t then (AtLeast n, x) else if b == 45 then (AtMost n, x)
    else (Exactly n, b ∷ x)) (high_other b 43 high (omega arith))
    ∙ ap (λ t. if t then (AtMost n, x) else (Exactly n, b ∷ x)) (high_other b 45 high (omega arith))

no_limit : (rest : List ℕ) → begins_high rest ≡ true → first_limit rest ≡ (Exactly 1, rest)
no_limit [] high = refl
no_limit (b ∷ x) high =
    ap (λ t. if t then (AnyNumber, x) else if is_digit b then digit_limit (b - 48) x
    else (Exactly 1, b ∷ x)) (high_other b 42 high (omega arith))
    ∙ ap (λ t. if t then digit_limit (b - 48) x else (Exactly 1, b ∷ x)) (high_digit b high)

-- a limit before the end or a letter is cut as it is spelled
limit_read : (own rest : List ℕ) (limit : Limit) → SpellsLimit own limit → begins_high rest ≡ true
    → first_limit (own ++ rest) ≡ (limit, rest)
limit_read own rest limit one high = no_limit rest high
limit_read own rest limit (exactly n h) high = digit_first n rest h ∙ digit_end n rest high
limit_read own rest limit (at_least n h) high = digit_first n (43 ∷ rest) h
limit_read own rest limit (at_most n h) high = digit_first n (45 ∷ rest) h
limit_read own rest limit any high = refl

-- what is cut is spelled
abbrev pub IsCut : List ℕ → List ℕ → Limit × List ℕ → Type 0
IsCut front x f = (own : List ℕ) × (x ≡ own ++ f.1) × SpellsLimit (front ++ own) f.0

digit_spelled : (n : ℕ) (x : List ℕ) → n ≤ 9 → IsCut ((48 + n) ∷ []) x (digit_limit n x)
digit_spelled n [] h = ([], refl, exactly n h)
digit_spelled n (b ∷ x) h =
    elim (b == 43) as (λ t. (b == 43) ≡ t
    → IsCut ((48 + n) ∷ []) (b ∷ x) (if t then (AtLeast n, x) else if b == 45 then (AtMost n, x)
    else (Exactly n, b ∷ x))) [
      | true ↦ λ plus. (43 ∷ [], ap (λ a. a ∷ x) (eqb-true b 43 plus), at_least n h)
      | false ↦ λ other. elim (b == 45) as (λ t. (b == 45) ≡ t
          → IsCut ((48 + n) ∷ []) (b ∷ x) (if t then (AtMost n, x) else (Exactly n, b ∷ x))) [
            | true ↦ λ minus. (45 ∷ [], ap (λ a. a ∷ x) (eqb-true b 45 minus), at_most n h)
            | false ↦ λ neither. ([], refl, exactly n h)
          ] refl
    ] refl

limit_spelled : (x : List ℕ) → IsCut [] x (first_limit x)
limit_spelled [] = ([], refl, one)
limit_spelled (b ∷ x) =
    elim (b == 42) as (λ t. (b == 42) ≡ t
    → IsCut [] (b ∷ x) (if t then (AnyNumber, x) else if is_digit b then digit_limit (b - 48) x
    else (Exactly 1, b ∷ x))) [
      | true ↦ λ star. (42 ∷ [], ap (λ a. a ∷ x) (eqb-true b 42 star), any)
      | false ↦ λ other. elim (is_digit b) as (λ t. is_digit b ≡ t
          → IsCut [] (b ∷ x) (if t then digit_limit (b - 48) x else (Exactly 1, b ∷ x))) [
            | true ↦ λ digit.
                let number : 48 + (b - 48) ≡ b = digit_back b digit in
                let f = digit_spelled (b - 48) x (digit_small b digit) in (
                  b ∷ f.0,
                  ap (λ y. b ∷ y) f.1,
                  subst (λ a. SpellsLimit (a ∷ f.0) (digit_limit (b - 48) x).0) number f.2,
                )
            | false ↦ λ neither. ([], refl, one)
          ] refl
    ] refl
  where
    digit_back : (b : ℕ) → is_digit b ≡ true → 48 + (b - 48) ≡ b
    digit_back b digit = grind (arith, nat_tests)

    digit_small : (b : ℕ) → is_digit b ≡ true → b - 48 ≤ 9
    digit_small b digit = grind (arith, nat_tests)

-- the first entry, and those after it
pub record IsEntry (b : ℕ) (x : List ℕ) (entries : List (Kind × Limit)) : Type 0 where
  pub kind : Kind
  pub more : List (Kind × Limit)
  pub letter_is : b ≡ kind_letter kind
  pub entries_are : entries ≡ (kind, (first_limit x).0) ∷ more
  pub spells : SpellsEntries (first_limit x).1 more

pub entry_read : (b : ℕ) (x : List ℕ) (entries : List (Kind × Limit))
    → SpellsEntries (b ∷ x) entries → IsEntry b x entries
entry_read b x [] is = let none : b ∷ x ≡ [] = is in absurd (cc)
entry_read b x (entry ∷ more) (own, rest, is, limit, spells) =
    let head : b ≡ kind_letter entry.0 = cc in
    let tail : x ≡ own ++ rest = cc in
    let cut : first_limit x ≡ (entry.1, rest) =
    ap first_limit tail ∙ limit_read own rest entry.1 limit (entries_begin rest more spells) in
    record {
      kind = entry.0;
      more = more;
      letter_is = head;
      entries_are = ap (λ (f : Limit × List ℕ). (entry.0, f.0) ∷ more) (sym cut);
      spells = subst (λ (f : Limit × List ℕ). SpellsEntries f.1 more) (sym cut) spells;
    }

pub entry_spelled : (kind : Kind) (x : List ℕ) (more : List (Kind × Limit))
    → SpellsEntries (first_limit x).1 more
    → SpellsEntries (kind_letter kind ∷ x) ((kind, (first_limit x).0) ∷ more)
entry_spelled kind x more spells =
    let f = limit_spelled x in
    (f.0, (first_limit x).1, ap (λ y. kind_letter kind ∷ y) f.1, f.2, spells)

-- a letter stands in the text where one of the entries has it
abbrev pub letters : List (Kind × Limit) → List ℕ
letters entries = map (λ entry. kind_letter entry.0) entries

has_letter : (letter : ℕ) (text : List ℕ) (entries : List (Kind × Limit)) → is_high letter ≡ true
    → SpellsEntries text entries → has_byte letter text ≡ has_byte letter (letters entries)
has_letter letter text [] high is = ap (has_byte letter) is
has_letter letter text (entry ∷ more) high (own, rest, is, limit, spells) =
    ap (has_byte letter) is
    ∙ ap (λ t. kind_letter entry.0 == letter
    || t) (has_after_low letter own rest high (limit_low own entry.1 limit)
    ∙ has_letter letter rest more high spells)

-- entries begin with one whose letter does not stand in the rest
pub entries_read : (b : ℕ) (x : List ℕ) → AreEntries (b ∷ x)
    → ((kind : Kind) × (b ≡ kind_letter kind)) × (has_byte b (first_limit x).1 ≡ false)
    × AreEntries (first_limit x).1
entries_read b x (entries, spells, distinct) =
    let e = entry_read b x entries spells in
    let parts : (not (has_byte (kind_letter e.kind) (letters e.more)) ≡ true)
    × (is_distinct (letters e.more) ≡ true) =
    and_parts _ _ (rw e.entries_are at distinct) in
    let other : has_byte (kind_letter e.kind) (letters e.more) ≡ false = not-true _ parts.0 in (
      (e.kind, e.letter_is),
      ap (λ a. has_byte a (first_limit x).1) e.letter_is
          ∙ has_letter (kind_letter e.kind) (first_limit x).1 e.more (letter_high e.kind) e.spells
          ∙ other,
      (e.more, e.spells, parts.1),
    )

pub entries_spelled : (b : ℕ) (x : List ℕ) (kind : Kind) → b ≡ kind_letter kind
    → has_byte b (first_limit x).1 ≡ false → AreEntries (first_limit x).1 → AreEntries (b ∷ x)
entries_spelled b x kind is other (more, spells, distinct) =
    let absent : has_byte (kind_letter kind) (letters more) ≡ false =
    sym (has_letter (kind_letter kind) (first_limit x).1 more (letter_high kind) spells)
    ∙ ap (λ a. has_byte a (first_limit x).1) (sym is) ∙ other in
    rw is (
      (kind, (first_limit x).0) ∷ more,
      entry_spelled kind x more spells,
      and_from _ _ (ap not
          absent) distinct,
    )

-- the entries of a text give each kind the limit after its letter
pub entries_give : (text : List ℕ) (entries : List (Kind × Limit)) → SpellsEntries text entries
    → (kind : Kind) → IsLimitIn entries kind (limit_after (kind_letter kind) text)
entries_give text [] is kind = ap (limit_after (kind_letter kind)) is
entries_give text (entry ∷ more) (own, rest, is, limit, spells) kind =
    subst (IsLimitIn (entry ∷ more) kind) (sym (ap (limit_after (kind_letter kind)) is))
    (elim (kind_letter entry.0 == kind_letter kind) as (λ t.
    (kind_letter entry.0 == kind_letter kind) ≡ t
    → IsLimitIn (entry ∷ more) kind (if t then (first_limit (own ++ rest)).0
    else limit_after (kind_letter kind) (own ++ rest))) [
      | true ↦ λ same. inl (
        same_letter entry.0 kind (eqb-true _ _ same),
        ap (λ (f : Limit × List ℕ).
            f.0) (limit_read own rest entry.1 limit (entries_begin rest more spells)),
      )
      | false ↦ λ other. inr (
        (λ e. let clash : true ≡ false = sym (eq-eqb _ _ (ap kind_letter e)) ∙ other in cc),
        subst (IsLimitIn more kind)
            (sym (limit_after_low (kind_letter kind) own rest (letter_high kind)
            (limit_low own entry.1 limit))) (entries_give rest more spells kind),
      )
    ] refl)

-- and no other limit
one_limit : (entries : List (Kind × Limit)) (kind : Kind) (a b : Limit) → IsLimitIn entries kind a
    → IsLimitIn entries kind b → a ≡ b
one_limit [] wanted a b is has = is ∙ sym has
one_limit (entry ∷ more) wanted a b (inl is) (inl has) = is.1 ∙ sym has.1
one_limit (entry ∷ more) wanted a b (inl is) (inr has) = absurd (has.0 is.0)
one_limit (entry ∷ more) wanted a b (inr is) (inl has) = absurd (is.0 has.0)
one_limit (entry ∷ more) wanted a b (inr is) (inr has) = one_limit more wanted a b is.1 has.1

-- limits: what spells them has entries, and gives each kind the limit after its letter
pub limits_entries : (text : List ℕ) (limits : Limits) → SpellsLimits text limits → AreEntries text
limits_entries text limits (entries, some, spells, distinct, each) = (entries, spells, distinct)

pub limits_some : (text : List ℕ) (limits : Limits) → SpellsLimits text limits → text ≢ []
limits_some text limits ([], some, spells, distinct, each) none = some refl
limits_some text limits (entry ∷ more, some, (own, rest, is, limit, spells), distinct, each) none =
    let clash : kind_letter entry.0 ∷ (own ++ rest) ≡ [] = sym is ∙ none in cc

pub limits_given : (text : List ℕ) (limits : Limits) → SpellsLimits text limits → (kind : Kind)
    → limit_of limits kind ≡ limit_after (kind_letter kind) text
limits_given text limits (entries, some, spells, distinct, each) kind =
    one_limit entries kind (limit_of limits kind) (limit_after (kind_letter kind) text) (each kind)
    (entries_give text entries spells kind)

pub limits_spelled : (text : List ℕ) (limits : Limits) → text ≢ [] → AreEntries text
    → ((kind : Kind) → limit_of limits kind ≡ limit_after (kind_letter kind) text)
    → SpellsLimits text limits
limits_spelled text limits some (entries, spells, distinct) each = (
  entries,
  (λ none. some (subst (SpellsEntries text) none spells)),
  spells,
  distinct,
  (λ kind.
      subst (IsLimitIn entries kind) (sym (each kind)) (entries_give text entries spells kind)),
)

-- their texts are solid
entries_solid : (text : List ℕ) (entries : List (Kind × Limit)) → SpellsEntries text entries
    → AreSolid text
entries_solid text [] is = ap (list_all is_solid) is
entries_solid text (entry ∷ more) (own, rest, is, limit, spells) =
    ap (list_all is_solid) is
    ∙ and_from (is_solid (kind_letter entry.0)) (list_all is_solid (own ++ rest))
    (high_solid (kind_letter entry.0) (letter_high entry.0))
    (list_all-append is_solid own rest
    ∙ and_from _ _ (all_low own (limit_low own entry.1 limit)) (entries_solid rest more spells))
  where
    all_low : (x : List ℕ) → IsTrue (list_all is_low x) → AreSolid x
    all_low [] low = refl
    all_low (b ∷ x) low =
        let parts : (is_low b ≡ true) × (list_all is_low x ≡ true) = and_parts _ _ low in
        and_from (is_solid b) (list_all is_solid x) (low_solid b parts.0) (all_low x parts.1)

pub limits_solid : (text : List ℕ) (limits : Limits) → SpellsLimits text limits → AreSolid text
limits_solid text limits (entries, some, spells, distinct, each) = entries_solid text entries spells
