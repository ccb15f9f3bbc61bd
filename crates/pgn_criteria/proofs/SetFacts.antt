-- How a rank is cut into its items, and what a set of men takes.
use Rattle.std.proofs.Common.{◌≡◌, ◌≢◌, ◌↔◌, ◌≤◌, ◌<◌, ◌-◌, ℕ, suc, Bool, true, false, List, []}
use Rattle.std.proofs.Common.{◌∷◌, ◌++◌, length, take, drop, Option, Some, None, IsTrue, refl, sym}
use Rattle.std.proofs.Common.{ap, ◌∙◌, subst, inl, inr, arith, if◌then◌else◌}
use Rattle.std.specs.Prelude.{◌⊎◌, map}
use Rattle.std.proofs.lemmas.Bool.{or_left}
use Rattle.pgn_criteria.proofs.Common.{◌==◌, ◌||◌, list_all, eqb-true, eq-eqb, and_parts}
use Rattle.pgn_criteria.proofs.Common.{append_cancel_right, man_letter, IsSquares, before_first}
use Rattle.pgn_criteria.proofs.Common.{has_byte, first_and_rest, rest_within, run_whole, Man, Side}
use Rattle.pgn_criteria.proofs.Common.{White, Black, Kind, King, Queen, Rook, Bishop, Knight, Pawn}
use Rattle.pgn_criteria.proofs.Common.{AreMen, IsStretch, CanBeSplit, items_where, AreItems}
use Rattle.pgn_criteria.proofs.Common.{is_letter, IsItem, items_of, Fits, Reads, IsNextItem}
use Rattle.pgn_criteria.proofs.Common.{HasNoItem, item_of, has_man, men_in, spelled, any, occupied}
use Rattle.pgn_criteria.proofs.Common.{white, black, many, among, other, SquareTest, Among, Other}
use Rattle.pgn_criteria.proofs.Common.{Item, Run, same_first}
use Rattle.chess.specs.Shared.Runs.{run_of, after_run}
use Rattle.pgn_criteria.proofs.ItemFacts.{item_exact, no_stretch, some_stretch}

-- the first byte of an item, and those after it
abbrev pub first_of : List ℕ → ℕ
first_of [] = 0
first_of (b ∷ x) = b

abbrev pub rest_of : List ℕ → List ℕ
rest_of [] = []
rest_of (b ∷ x) = x

-- ---- how a rank is cut

-- a set ends with the first bracket that closes one
pub set_cut : (x after : List ℕ) (c : ℕ) → after_run 93 x ≡ c ∷ after
    → items_where true x ≡ (run_of 93 x ++ 93 ∷ []) ∷ items_of after
set_cut [] after c e = cc
set_cut (b ∷ x) after c e =
    elim (b == 93) as (λ t. (b == 93) ≡ t → (if t then b ∷ x else after_run 93 x) ≡ c ∷ after
    → (if t then (b ∷ []) ∷ items_of x else before_first b (items_where true x))
    ≡ ((if t then [] else b ∷ run_of 93 x) ++ 93 ∷ []) ∷ items_of after) [
      | true ↦ λ same cut. let byte : b ≡ 93 = eqb-true b 93 same in let rest : x ≡ after = cc in
          ap (λ n. (n ∷ []) ∷ items_of x) byte ∙ ap (λ y. (93 ∷ []) ∷ items_of y) rest
      | false ↦ λ not_end cut. ap (before_first b) (set_cut x after c cut)
    ] refl e

-- without one it has all that is left
pub set_open : (b : ℕ) (x : List ℕ) → after_run 93 x ≡ []
    → before_first b (items_where true x) ≡ (b ∷ x) ∷ []
set_open b [] e = refl
set_open b (c ∷ x) e =
    elim (c == 93) as (λ t. (if t then c ∷ x else after_run 93 x) ≡ []
    → before_first b (if t then (c ∷ []) ∷ items_of x else before_first c (items_where true x))
    ≡ (b ∷ c ∷ x) ∷ []) [
      | true ↦ λ cut. absurd (cc)
      | false ↦ λ cut. ap (before_first b) (set_open c x cut)
    ] e

-- where a bracket stands, there is one
no_end : (x : List ℕ) → after_run 93 (x ++ 93 ∷ []) ≡ [] → ⊥
no_end [] e = cc
no_end (b ∷ x) e =
    elim (b == 93) as (λ t. (if t then b ∷ (x ++ 93 ∷ []) else after_run 93 (x ++ 93 ∷ [])) ≡ []
    → ⊥) [
      | true ↦ λ cut. cc
      | false ↦ λ cut. no_end x cut
    ] e

-- ---- what a set takes

-- no set's first letter is the mark of the others
no_mark : (letters : List ℕ) → AreMen (94 ∷ letters) → ⊥
no_mark letters are = let parts = and_parts (is_letter 94) (list_all is_letter letters) are.1 in
    let clash : false ≡ true = parts.0 in cc

same_letters : (a b : List ℕ) → 91 ∷ (a ++ 93 ∷ []) ≡ 91 ∷ (b ++ 93 ∷ []) → a ≡ b
same_letters a b e = let tails : a ++ 93 ∷ [] ≡ b ++ 93 ∷ [] = cc in
    append_cancel_right a b (93 ∷ []) tails

short : (a : List ℕ) (b c : ℕ) → c ∷ [] ≡ b ∷ (a ++ 93 ∷ []) → ⊥
short [] b c e = cc
short (d ∷ a) b c e = cc

named_of : (letters : List ℕ) (side : Side) (kind : Kind)
    → has_man (men_in letters) (record { side = side; kind = kind })
    ≡ has_byte (man_letter (record { side = side; kind = kind })) letters
named_of letters White King = refl
named_of letters Black King = refl
named_of letters _ _ = refl

named : (letters : List ℕ) (man : Man) → has_man (men_in letters) man
    ≡ has_byte (man_letter man) letters
named letters man = named_of letters man.side man.kind

-- each of the letters is that of a man
abbrev pub all_men : List Man
all_men = record { side = White; kind = King }
    ∷ record { side = White; kind = Queen }
    ∷ record { side = White; kind = Rook }
    ∷ record { side = White; kind = Bishop }
    ∷ record { side = White; kind = Knight }
    ∷ record { side = White; kind = Pawn }
    ∷ record { side = Black; kind = King }
    ∷ record { side = Black; kind = Queen }
    ∷ record { side = Black; kind = Rook }
    ∷ record { side = Black; kind = Bishop }
    ∷ record { side = Black; kind = Knight }
    ∷ record { side = Black; kind = Pawn }
    ∷ []

pub letter_in : (men : List Man) (b : ℕ) → has_byte b (map man_letter men) ≡ true
    → (man : Man) × (man_letter man ≡ b)
letter_in [] b has = absurd (cc)
letter_in (man ∷ more) b has =
    elim (man_letter man == b) as (λ t. (man_letter man == b) ≡ t
    → (t || has_byte b (map man_letter more)) ≡ true → (own : Man) × (man_letter own ≡ b)) [
      | true ↦ λ same here. (man, eqb-true (man_letter man) b same)
      | false ↦ λ differs there. letter_in more b there
    ] refl has

some_man : (letters : List ℕ) → AreMen letters
    → (man : Man) × IsTrue (has_byte (man_letter man) letters)
some_man [] are = absurd (are.0 refl)
some_man (b ∷ letters) are =
    let parts = and_parts (is_letter b) (list_all is_letter letters) are.1 in
    let man = letter_in all_men b parts.0 in (
      man.0,
      or_left (b == man_letter man.0) (has_byte (man_letter man.0) letters)
          (eq-eqb b (man_letter man.0) (sym man.1)),
    )

-- a stretch of a set is of one of the two forms
abbrev pub IsOne : List ℕ → List (Option Man) → Type 0
IsOne inside own = (man : Man) × AreMen inside × (own ≡ Some man ∷ [])
    × IsTrue (has_byte (man_letter man) inside)

abbrev pub IsNone : List ℕ → List (Option Man) → Type 0
IsNone inside own =
    (letters : List ℕ) × (square : Option Man) × (inside ≡ 94 ∷ letters) × AreMen letters
    × (own ≡ square ∷ [])
    × ((man : Man) → square ≡ Some man → has_byte (man_letter man) letters ≡ false)

set_form : (item : List ℕ) (own : List (Option Man)) → IsStretch item own → (inside : List ℕ)
    → item ≡ 91 ∷ (inside ++ 93 ∷ []) → IsOne inside own ⊎ IsNone inside own
set_form _ _ (spelled b own s) inside e = absurd (short inside 91 b e)
set_form _ _ (any square) inside e = absurd (short inside 91 63 e)
set_form _ _ (occupied man) inside e = absurd (short inside 91 33 e)
set_form _ _ (white man side) inside e = absurd (short inside 91 65 e)
set_form _ _ (black man side) inside e = absurd (short inside 91 97 e)
set_form _ _ (many own) inside e = absurd (short inside 91 42 e)
set_form _ _ (among letters man are has) inside e =
    let same = same_letters letters inside e in
    inl (
      man,
      subst AreMen same are,
      refl,
      subst (λ x. IsTrue (has_byte (man_letter man) x)) same has,
    )
set_form _ _ (other letters square are none) inside e =
    inr (letters, square, sym (same_letters (94 ∷ letters) inside e), are, refl, none)

among_fits : (letters : List ℕ) (own : List (Option Man)) → AreMen letters
    → Fits (Run (Among (men_in letters)) 1) own → IsStretch (91 ∷ (letters ++ 93 ∷ [])) own
among_fits letters [] are fits = absurd (omega (arith, fits.0))
among_fits letters (square ∷ next ∷ more) are fits = absurd (omega (arith, fits.0))
among_fits letters (square ∷ []) are fits =
    let one = fits.1.0 in
    rw one.1 (among letters one.0 are (subst IsTrue (named letters one.0) one.2))

pub among_read : (letters : List ℕ) → AreMen letters
    → Reads (91 ∷ (letters ++ 93 ∷ [])) (Run (Among (men_in letters)) 1)
among_read letters are =
    let man = some_man letters are in (
      (Some man.0 ∷ [], among letters man.0 are man.1),
      λ own. (
        λ stretch. elim (set_form (91 ∷ (letters ++ 93 ∷ [])) own stretch letters refl) [
          | inl one ↦
              subst (Fits (Run (Among (men_in letters)) 1)) (sym one.2) (
                refl,
                ((one.0, refl, subst IsTrue (sym (named letters one.0)) one.3), tt),
              )
          | inr none ↦ absurd (no_mark none.0 (subst AreMen none.2 are))
        ],
        λ fits. among_fits letters own are fits,
      ),
    )

not_there : (letters : List ℕ) (man : Man) (square : Option Man)
    → ((own : Man) → square ≡ Some own → has_byte (man_letter own) letters ≡ false)
    → IsTrue (has_man (men_in letters) man) → square ≡ Some man → ⊥
not_there letters man square none has is = let clash : false ≡ true =
    sym (none man is) ∙ sym (named letters man) ∙ has in cc

other_fits : (letters : List ℕ) (own : List (Option Man)) → AreMen letters
    → Fits (Run (Other (men_in letters)) 1) own → IsStretch (91 ∷ 94 ∷ (letters ++ 93 ∷ [])) own
other_fits letters [] are fits = absurd (omega (arith, fits.0))
other_fits letters (square ∷ next ∷ more) are fits = absurd (omega (arith, fits.0))
other_fits letters (square ∷ []) are fits =
    other letters square are (λ man is.
    elim (has_byte (man_letter man) letters) as (λ t. has_byte (man_letter man) letters ≡ t
    → t ≡ false) [
      | true ↦ λ has. absurd (fits.1.0 man (named letters man ∙ has) is)
      | false ↦ λ has. refl
    ] refl)

pub other_read : (letters : List ℕ) → AreMen letters
    → Reads (91 ∷ 94 ∷ (letters ++ 93 ∷ [])) (Run (Other (men_in letters)) 1)
other_read letters are = (
  (None ∷ [], other letters None are (λ man is. cc)),
  λ own. (
    λ stretch. elim (set_form (91 ∷ 94 ∷ (letters ++ 93 ∷ [])) own stretch (94 ∷ letters) refl) [
      | inl one ↦ absurd (no_mark letters one.1)
      | inr none ↦
          let same : none.0 ≡ letters = cc (none.2) in
          subst (Fits (Run (Other (men_in letters)) 1)) (sym none.4) (
            refl,
            (
              (λ man has is.
                  not_there letters man none.1
                  (rw (← same) none.5) has is),
              tt,
            ),
          )
    ],
    λ fits. other_fits letters own are fits,
  ),
)

-- anything else between brackets is no item
pub no_set : (inside : List ℕ) → (AreMen inside → ⊥)
    → ((letters : List ℕ) → inside ≡ 94 ∷ letters → AreMen letters → ⊥)
    → IsItem (91 ∷ (inside ++ 93 ∷ [])) → ⊥
no_set inside no_men no_others item =
    elim (set_form (91 ∷ (inside ++ 93 ∷ [])) item.0 item.1 inside refl) [
      | inl one ↦ no_men one.1
      | inr none ↦ no_others none.0 none.2 none.3
    ]

pub same_after : (a b x : List ℕ) → x ≡ 94 ∷ a → x ≡ 94 ∷ b → a ≡ b
same_after a b x is has = ap rest_of (sym is ∙ has)

-- ---- the first item of a rank

-- a bracket without its end is no item
no_bracket : (b : ℕ) (own : List (Option Man)) → IsSquares b own → b ≡ 91 → ⊥
no_bracket b own s e =
    no_stretch 91 refl own (subst (λ n. IsStretch (n ∷ []) own) e (spelled b own s))

open_stretch : (item : List ℕ) (own : List (Option Man)) → IsStretch item own → (x : List ℕ)
    → item ≡ 91 ∷ x → after_run 93 x ≡ [] → ⊥
open_stretch _ _ (spelled b own s) x e unclosed = no_bracket b own s (ap first_of e)
open_stretch _ _ (among letters man are has) x e unclosed =
    let same : letters ++ 93 ∷ [] ≡ x = ap rest_of e in
    no_end letters (ap (after_run 93) same ∙ unclosed)
open_stretch _ _ (other letters square are none) x e unclosed =
    let same : (94 ∷ letters) ++ 93 ∷ [] ≡ x = ap rest_of e in
    no_end (94 ∷ letters) (ap (after_run 93) same ∙ unclosed)
open_stretch _ _ _ x e unclosed = let clash : false ≡ true = ap (λ y. first_of y == 91) e in cc

pub open_fails : (x : List ℕ) → after_run 93 x ≡ [] → HasNoItem (91 ∷ x)
open_fails x unclosed text more cut item =
    let same = same_first (91 ∷ x) text [] more (sym (set_open 91 x unclosed) ∙ cut) in
    open_stretch text item.0 item.1 x (sym same) unclosed

pub set_next : (x after : List ℕ) (c : ℕ) (class : SquareTest) → after_run 93 x ≡ c ∷ after
    → Reads (91 ∷ (run_of 93 x ++ 93 ∷ [])) (Run class 1) → IsNextItem (91 ∷ x) (Run class 1) after
set_next x after c class cut reads =
    record {
      text = 91 ∷ (run_of 93 x ++ 93 ∷ []);
      cut = ap (before_first 91) (set_cut x after c cut);
      reads = reads;
    }

pub set_fails : (x after : List ℕ) (c : ℕ) → after_run 93 x ≡ c ∷ after
    → (IsItem (91 ∷ (run_of 93 x ++ 93 ∷ [])) → ⊥) → HasNoItem (91 ∷ x)
set_fails x after c end no_item text more cut item =
    let same = same_first (91 ∷ (run_of 93 x ++ 93 ∷ [])) text (items_of after) more
    (sym (ap (before_first 91) (set_cut x after c end)) ∙ cut) in
    no_item (subst IsItem (sym same) item)

-- a byte that begins no set
byte_cut : (b : ℕ) (x : List ℕ) → (b == 91) ≡ false → items_of (b ∷ x) ≡ (b ∷ []) ∷ items_of x
byte_cut b x differs =
    ap (λ t. if t then before_first b (items_where true x) else (b ∷ []) ∷ items_of x) differs

differs_by : (b : ℕ) → b ≢ 91 → (b == 91) ≡ false
differs_by b apart =
    elim (b == 91) as (λ t. (b == 91) ≡ t → t
    ≡ false) [ true ↦ λ same. absurd (apart (eqb-true b 91 same)) | false ↦ λ differs. refl ] refl

pub byte_next : (b : ℕ) (x : List ℕ) (item : Item) → b ≢ 91 → item_of b ≡ Some item
    → IsNextItem (b ∷ x) item x
byte_next b x item differs is =
    record {
      text = b ∷ [];
      cut = byte_cut b x (differs_by b differs);
      reads = (some_stretch b item is, item_exact b item is);
    }

pub byte_fails : (b : ℕ) (x : List ℕ) → b ≢ 91 → item_of b ≡ None → HasNoItem (b ∷ x)
byte_fails b x differs none text more cut item =
    let same =
    same_first (b ∷ []) text (items_of x) more (sym (byte_cut b x (differs_by b differs)) ∙ cut)
    in
    no_stretch b none item.0 (subst (λ t. IsStretch t item.0) (sym same) item.1)

-- a rank that is not empty has a first item
pub some_items : (b : ℕ) (x : List ℕ) → (text : List ℕ) × (more : List (List ℕ))
    × (items_of (b ∷ x) ≡ text ∷ more)
some_items b x =
    elim (b == 91) as (λ t. (text : List ℕ) × (more : List (List ℕ))
    × ((if t then before_first b (items_where true x) else (b ∷ []) ∷ items_of x) ≡ text ∷ more)) [
      | true ↦ front b (items_where true x)
      | false ↦ (b ∷ [], items_of x, refl)
    ]
  where
    front : (b : ℕ) (items : List (List ℕ))
        → (text : List ℕ) × (more : List (List ℕ)) × (before_first b items ≡ text ∷ more)
    front b [] = (b ∷ [], [], refl)
    front b (first ∷ more) = (b ∷ first, more, refl)

-- what is left after the set is shorter
pub after_shorter : (x found : List ℕ) → found ≡ after_run 93 x → 1 ≤ length found
    → length (take (length found - 1) (drop 1 found)) < length x
after_shorter x found is some =
    let within = rest_within x (run_of 93 x) (after_run 93 x) found (run_whole 93 x) is in
    let whole : length found ≡ suc (length (take (length found - 1) (drop 1 found))) =
    ap length (first_and_rest found some) in
    omega arith

-- a rank is of items where its first is one and those after it are
pub items_next : (rest after : List ℕ) (item : Item) (Whole : Type 0) → IsNextItem rest item after
    → (AreItems (items_of rest) ↔ Whole) → AreItems (items_of after) ↔ Whole
items_next rest after item Whole is kept = (
  λ are. kept.0 (subst AreItems (sym is.cut) (is.reads.0, are)),
  λ whole. (subst AreItems is.cut (kept.1 whole)).1,
)

pub items_fail : (rest : List ℕ) (Whole : Type 0) → rest ≢ [] → HasNoItem rest
    → (AreItems (items_of rest) ↔ Whole) → IsTrue false ↔ Whole
items_fail [] Whole some none kept = absurd (some refl)
items_fail (b ∷ x) Whole some none kept =
    let first = some_items b x in (
      λ t. absurd (cc),
      λ whole. absurd (none first.0 first.1 first.2 (subst AreItems first.2 (kept.1 whole)).0),
    )

pub items_end : (rest : List ℕ) (r : Bool) (Whole : Type 0) → IsTrue r → rest ≡ []
    → (AreItems (items_of rest) ↔ Whole) → IsTrue r ↔ Whole
items_end rest r Whole t none kept =
    (λ so. kept.0 (subst (λ x. AreItems (items_of x)) (sym none) tt), λ whole. t)

-- items are such where they take some squares together
pub are_split : (items : List (List ℕ))
    → AreItems items ↔ ((squares : List (Option Man)) × CanBeSplit items squares)
are_split [] = (λ are. ([], refl), λ split. tt)
are_split (item ∷ more) =
    let there = are_split more in (
      (λ are. let rest = there.0 are.1 in
          (are.0.0 ++ rest.0, (are.0.0, rest.0, refl, are.0.1, rest.1))),
      (λ split. ((split.1.0, split.1.3), there.1 (split.1.1, split.1.4))),
    )

pub reports_split : (items : List (List ℕ)) (r : Bool) → (IsTrue r ↔ AreItems items)
    → IsTrue r ↔ ((squares : List (Option Man)) × CanBeSplit items squares)
reports_split items r reports = let same = are_split items in
    (λ t. same.0 (reports.0 t), λ split. reports.1 (same.1 split))
