-- Bytes from 33 on are neither blanks nor carriage returns. All bytes of words, patterns and limits
-- are such, so a line is cut at its gaps.
use Rattle.pgn_criteria.proofs.Common.{◌≡◌, ◌≢◌, ℕ, Bool, true, false, List, [], ◌∷◌, ◌++◌, refl}
use Rattle.pgn_criteria.proofs.Common.{sym, ap, ◌∙◌, IsTrue, append_assoc, append-nil, arith}
use Rattle.pgn_criteria.proofs.Common.{if◌then◌else◌, ◌==◌, nat_le, list_all, eqb-true, and_parts}
use Rattle.pgn_criteria.proofs.Common.{and_from, nat_tests, parted_at, before_first, is_blank}
use Rattle.pgn_criteria.proofs.Common.{run_of, after_run, after_blanks, after_word, AreBlanks}
use Rattle.pgn_criteria.specs.Public.Lines.{IsGap}
use Rattle.pgn_criteria.proofs.WordFacts.{run_whole, begins_word}

-- a byte that is no blank and no carriage return
abbrev pub is_solid : ℕ → Bool
is_solid b = nat_le 33 b

abbrev pub AreSolid : List ℕ → Type 0
AreSolid x = IsTrue (list_all is_solid x)

pub solid_blank : (b : ℕ) → is_solid b ≡ true → is_blank b ≡ false
solid_blank b solid = grind (arith, nat_tests)

pub solid_return : (b : ℕ) → is_solid b ≡ true → (b == 13) ≡ false
solid_return b solid = grind (arith, nat_tests)

-- bytes of a class whose bytes are solid
pub all_solid : (test : ℕ → Bool) → ((b : ℕ) → test b ≡ true → is_solid b ≡ true) → (x : List ℕ)
    → IsTrue (list_all test x) → AreSolid x
all_solid test each [] all = refl
all_solid test each (b ∷ x) all =
    let parts : (test b ≡ true) × (list_all test x ≡ true) = and_parts _ _ all in
    and_from (is_solid b) (list_all is_solid x) (each b parts.0) (all_solid test each x parts.1)

-- parts of a text are
abbrev pub EachSolid : List (List ℕ) → Type 0
EachSolid [] = Unit {0}
EachSolid (item ∷ more) = AreSolid item × EachSolid more

pub front_solid : (b : ℕ) (items : List (List ℕ)) → EachSolid (before_first b items)
    → (is_solid b ≡ true) × EachSolid items
front_solid b [] each = let parts = and_parts (is_solid b) true each.0 in (parts.0, tt)
front_solid b (first ∷ more) each = let parts =
    and_parts (is_solid b) (list_all is_solid first) each.0 in (parts.0, (parts.1, each.1))

-- so is a text whose parts are, if what parts them is
pub parts_solid : (separator : ℕ) → is_solid separator ≡ true → (x : List ℕ)
    → EachSolid (parted_at separator x) → AreSolid x
parts_solid separator solid [] each = refl
parts_solid separator solid (b ∷ x) each =
    elim (b == separator) as (λ t. (b == separator) ≡ t
    → EachSolid (if t then [] ∷ parted_at separator x
    else before_first b (parted_at separator x)) → AreSolid (b ∷ x)) [
      | true ↦ λ same parts.
          and_from (is_solid b) (list_all is_solid x) (ap is_solid (eqb-true b separator same)
          ∙ solid) (parts_solid separator solid x parts.1)
      | false ↦ λ other parts.
          let both = front_solid b (parted_at separator x) parts in
          and_from (is_solid b) (list_all is_solid x) both.0
          (parts_solid separator solid x both.1)
    ] refl each

-- a text begins, and ends, with a solid byte
abbrev pub BeginsSolid : List ℕ → Type 0
BeginsSolid x = (b : ℕ) × (rest : List ℕ) × (x ≡ b ∷ rest) × (is_solid b ≡ true)

abbrev pub EndsSolid : List ℕ → Type 0
EndsSolid x = (front : List ℕ) × (b : ℕ) × (x ≡ front ++ (b ∷ [])) × (is_solid b ≡ true)

pub begins_kept : (x : List ℕ) → BeginsSolid x → after_blanks x ≡ x
begins_kept x (b, rest, is, solid) =
    ap after_blanks is ∙ ap (λ t. if t then after_blanks rest else b ∷ rest) (solid_blank b solid)
    ∙ sym is

pub begins_some : (x : List ℕ) → BeginsSolid x → x ≢ []
begins_some x (b, rest, is, solid) none = let clash : b ∷ rest ≡ [] = sym is ∙ none in cc

pub begins_front : (x y : List ℕ) → BeginsSolid x → BeginsSolid (x ++ y)
begins_front x y (b, rest, is, solid) = (b, rest ++ y, ap (λ z. z ++ y) is, solid)

pub ends_after : (x y : List ℕ) → EndsSolid y → EndsSolid (x ++ y)
ends_after x y (front, b, is, solid) =
    (x ++ front, b, ap (λ z. x ++ z) is ∙ sym (append_assoc x front (b ∷ [])), solid)

pub front_some : (x y : List ℕ) → BeginsSolid x → x ++ y ≢ []
front_some x y begins = begins_some (x ++ y) (begins_front x y begins)

pub solid_begins : (x : List ℕ) → x ≢ [] → AreSolid x → BeginsSolid x
solid_begins [] some solid = absurd (some refl)
solid_begins (b ∷ x) some solid =
    let parts : (is_solid b ≡ true) × (list_all is_solid x ≡ true) = and_parts _ _ solid in
    (b, x, refl, parts.0)

pub solid_ends : (x : List ℕ) → x ≢ [] → AreSolid x → EndsSolid x
solid_ends [] some solid = absurd (some refl)
solid_ends (b ∷ []) some solid =
    let parts : (is_solid b ≡ true) × (true ≡ true) = and_parts _ _ solid in ([], b, refl, parts.0)
solid_ends (b ∷ c ∷ x) some solid =
    let parts : (is_solid b ≡ true) × (list_all is_solid (c ∷ x) ≡ true) = and_parts _ _ solid in
    let more = solid_ends (c ∷ x) (λ none. cc) parts.1 in
    (b ∷ more.0, more.1, ap (λ z. b ∷ z) more.2, more.3)

-- a gap ends a word
pub at_gap : (gap rest : List ℕ) → IsGap gap
    → (run_of (gap ++ rest) ≡ []) × (after_run (gap ++ rest) ≡ gap ++ rest)
at_gap [] rest is = absurd (is.0 refl)
at_gap (b ∷ gap) rest is =
    let parts : (is_blank b ≡ true) × (list_all is_blank gap ≡ true) = and_parts _ _ is.1 in (
      ap (λ t. if t then [] else b ∷ run_of (gap ++ rest)) parts.0,
      ap (λ t. if t then b ∷ (gap ++ rest) else after_run (gap ++ rest)) parts.0,
    )

-- blanks are passed over
pub over_blanks : (gap rest : List ℕ) → AreBlanks gap
    → after_blanks (gap ++ rest) ≡ after_blanks rest
over_blanks [] rest are = refl
over_blanks (b ∷ gap) rest are =
    let parts : (is_blank b ≡ true) × (list_all is_blank gap ≡ true) = and_parts _ _ are in
    ap (λ t. if t then after_blanks (gap ++ rest) else b ∷ (gap ++ rest)) parts.0
    ∙ over_blanks gap rest parts.1

-- the blanks that a text begins with
pub blank_front : (x : List ℕ) → (gap : List ℕ) × (x ≡ gap ++ after_blanks x) × AreBlanks gap
blank_front [] = ([], refl, refl)
blank_front (b ∷ x) =
    elim (is_blank b) as (λ t. is_blank b ≡ t
    → (gap : List ℕ) × (b ∷ x ≡ gap ++ (if t then after_blanks x else b ∷ x)) × AreBlanks gap) [
      | true ↦ λ e. let f = blank_front x in (b ∷ f.0, ap (λ y. b ∷ y) f.1, rw e f.2)
      | false ↦ λ e. ([], refl, refl)
    ] refl

-- what follows a word begins with a blank
pub after_blank : (text : List ℕ) (b : ℕ) (x : List ℕ) → after_run text ≡ b ∷ x → is_blank b ≡ true
after_blank [] b x e = let none : [] ≡ b ∷ x = e in cc
after_blank (a ∷ y) b x e =
    elim (is_blank a) as (λ t. is_blank a ≡ t → (if t then a ∷ y else after_run y) ≡ b ∷ x
    → is_blank b ≡ true) [
      | true ↦ λ same f. let head : a ≡ b = cc in ap is_blank (sym head) ∙ same
      | false ↦ λ other f. after_blank y b x f
    ] refl e

-- a word goes on over solid bytes
pub run_front : (word rest : List ℕ) → AreSolid word
    → (run_of (word ++ rest) ≡ word ++ run_of rest) × (after_run (word ++ rest) ≡ after_run rest)
run_front [] rest solid = (refl, refl)
run_front (b ∷ word) rest solid =
    let parts : (is_solid b ≡ true) × (list_all is_solid word ≡ true) = and_parts _ _ solid in
    let dark = solid_blank b parts.0 in
    let more = run_front word rest parts.1 in (
      ap (λ t. if t then [] else b ∷ run_of (word ++ rest)) dark ∙ ap (λ x. b ∷ x) more.0,
      ap (λ t. if t then b ∷ (word ++ rest) else after_run (word ++ rest)) dark ∙ more.1,
    )

-- a word alone
pub word_alone : (word : List ℕ) → AreSolid word → (run_of word ≡ word) × (after_run word ≡ [])
word_alone word solid =
    let front = run_front word [] solid in (
      ap run_of (sym (append-nil word)) ∙ front.0 ∙ append-nil word,
      ap after_run (sym (append-nil word)) ∙ front.1,
    )

-- a word, a gap and what follows: read
pub word_read : (text word gap rest : List ℕ) → text ≡ word ++ (gap ++ rest) → AreSolid word
    → IsGap gap → BeginsSolid rest → (run_of text ≡ word) × (after_word text ≡ rest)
word_read text word gap rest is solid g begins =
    let at = at_gap gap rest g in
    let front = run_front word (gap ++ rest) solid in (
      ap run_of is ∙ front.0 ∙ ap (λ x. word ++ x) at.0 ∙ append-nil word,
      ap after_word is ∙ ap after_blanks (front.1 ∙ at.1) ∙ over_blanks gap rest g.1
          ∙ begins_kept rest begins,
    )

not_joined : (text rest : List ℕ) → after_word text ≡ rest → rest ≢ [] → after_run text ≡ rest → ⊥
not_joined text [] after some same = some refl
not_joined text (b ∷ x) after some same =
    let clash : false ≡ true = sym (begins_word (after_run text) b x after)
    ∙ after_blank text b x same in cc

-- and spelled
pub word_spelled : (text word rest : List ℕ) → run_of text ≡ word → after_word text ≡ rest
    → rest ≢ [] → (gap : List ℕ) × (text ≡ word ++ (gap ++ rest)) × IsGap gap
word_spelled text word rest run after some =
    let f = blank_front (after_run text) in
    let tail : after_run text ≡ f.0 ++ rest = f.1 ∙ ap (λ x. f.0 ++ x) after in (
      f.0,
      sym (run_whole text) ∙ ap (λ x. x ++ after_run text) run ∙ ap (λ x. word ++ x) tail,
      (λ none. not_joined text rest after some (tail ∙ ap (λ g. g ++ rest) none), f.2),
    )
