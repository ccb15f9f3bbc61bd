-- The text of a mirrored pattern is fitted by what its mirror fits the pattern.
use Rattle.std.specs.Prelude.{map}
use Rattle.pgn_criteria.proofs.Common.{◌≡◌, ◌≢◌, ◌↔◌, ◌≤◌, ◌+◌, ◌-◌, ℕ, zero, suc, Bool, true}
use Rattle.pgn_criteria.proofs.Common.{false, List, [], ◌∷◌, ◌++◌, Option, Some, None, IsTrue, refl}
use Rattle.pgn_criteria.proofs.Common.{sym, ap, ◌∙◌, subst, append_assoc, arith, replicate, ◌==◌}
use Rattle.pgn_criteria.proofs.Common.{◌||◌, if◌then◌else◌, list_all, eqb-true, eq-eqb, and_parts}
use Rattle.pgn_criteria.proofs.Common.{and_from, nat_tests, map-append, Placement, opposite}
use Rattle.pgn_criteria.proofs.Common.{man_letter, IsSquares, letter, step, parted_at, before_first}
use Rattle.pgn_criteria.proofs.Common.{has_byte, row, Man, Side, White, Black, Kind, King}
use Rattle.pgn_criteria.proofs.Common.{parted_by_run, AreMen, IsStretch, CanBeSplit, FitRanks}
use Rattle.pgn_criteria.proofs.Common.{FitsPattern, AreRanks, IsPattern, items_where, is_letter}
use Rattle.pgn_criteria.proofs.Common.{items_of, other_man, mirrored_men, other_letter, turned}
use Rattle.pgn_criteria.specs.Public.Patterns.{spelled, any, occupied, white, black, many, among}
use Rattle.pgn_criteria.specs.Public.Patterns.{other}
use Rattle.pgn_criteria.specs.Private.Turning.{turned_ranks}
use Rattle.pgn_criteria.proofs.CountFacts.{true_both}
use Rattle.pgn_criteria.proofs.SetFacts.{all_men, letter_in}
use Rattle.pgn_criteria.proofs.MirrorFacts.{exchanged, man_twice, squares_twice, row_mirrored}

-- ---- letters

letter_twice : (b : ℕ) → other_letter (other_letter b) ≡ b
letter_twice b = grind (arith, nat_tests)

letters_twice : (x : List ℕ) → map other_letter (map other_letter x) ≡ x
letters_twice [] = refl
letters_twice (b ∷ x) = λ i. letter_twice b i ∷ letters_twice x i

same_test : (b c : ℕ) → (other_letter b == c) ≡ (b == other_letter c)
same_test b c = true_both _ _
    (λ t. eq-eqb b (other_letter c) (sym (letter_twice b)
    ∙ ap other_letter (eqb-true (other_letter b) c t)))
    (λ t. eq-eqb (other_letter b) c (ap other_letter (eqb-true b (other_letter c) t)
    ∙ letter_twice c))

letter_of : (side : Side) (kind : Kind)
    → other_letter (man_letter (record { side = side; kind = kind }))
    ≡ man_letter (record { side = opposite side; kind = kind })
letter_of White King = refl
letter_of Black King = refl
letter_of _ _ = refl

letter_is : (man : Man) → other_letter (man_letter man) ≡ man_letter (other_man man)
letter_is man = letter_of man.side man.kind

is_letter_of : (side : Side) (kind : Kind)
    → is_letter (man_letter (record { side = side; kind = kind })) ≡ true
is_letter_of White King = refl
is_letter_of Black King = refl
is_letter_of _ _ = refl

one_letter : (b : ℕ) → is_letter b ≡ true → is_letter (other_letter b) ≡ true
one_letter b is =
    let man = letter_in all_men b is in
    ap (λ n. is_letter (other_letter n)) (sym man.1) ∙ ap is_letter (letter_is man.0)
    ∙ is_letter_of (opposite man.0.side) man.0.kind

all_letters : (x : List ℕ) → IsTrue (list_all is_letter x)
    → IsTrue (list_all is_letter (map other_letter x))
all_letters [] are = refl
all_letters (b ∷ x) are =
    let parts = and_parts (is_letter b) (list_all is_letter x) are in
    and_from (is_letter (other_letter b)) (list_all is_letter (map other_letter x))
    (one_letter b parts.0) (all_letters x parts.1)

some_letters : (x : List ℕ) → x ≢ [] → map other_letter x ≢ []
some_letters [] some = absurd (some refl)
some_letters (b ∷ x) some = λ e. cc

men_other : (letters : List ℕ) → AreMen letters → AreMen (map other_letter letters)
men_other letters are = (some_letters letters are.0, all_letters letters are.1)

has_other : (letters : List ℕ) (man : Man) → has_byte (man_letter man) (map other_letter letters)
    ≡ has_byte (man_letter (other_man man)) letters
has_other [] man = refl
has_other (a ∷ x) man =
    let here : (other_letter a == man_letter man) ≡ (a == man_letter (other_man man)) =
    same_test a (man_letter man) ∙ ap (λ c. a == c) (letter_is man) in
    λ i. here i || has_other x man i

-- ---- items

front_other : (b : ℕ) (items : List (List ℕ))
    → before_first (other_letter b) (map (map other_letter) items)
    ≡ map (map other_letter) (before_first b items)
front_other b [] = refl
front_other b (item ∷ items) = refl

items_other : (in_set : Bool) (x : List ℕ)
    → items_where in_set (map other_letter x) ≡ map (map other_letter) (items_where in_set x)
items_other in_set [] = refl
items_other true (b ∷ x) =
    ap (λ t. if t then (other_letter b ∷ []) ∷ items_where false (map other_letter x)
    else before_first (other_letter b) (items_where true (map other_letter x))) (same_test b 93)
    ∙ elim (b == 93) as (λ t.
    (if t then (other_letter b ∷ []) ∷ items_where false (map other_letter x)
    else before_first (other_letter b) (items_where true (map other_letter x)))
    ≡ map (map other_letter) (if t then (b ∷ []) ∷ items_where false x
    else before_first b (items_where true x))) [
      | true ↦ ap (λ items. (other_letter b ∷ []) ∷ items) (items_other false x)
      | false ↦ ap (before_first (other_letter b)) (items_other true x)
          ∙ front_other b (items_where true x)
    ]
items_other false (b ∷ x) =
    ap (λ t. if t then before_first (other_letter b) (items_where true (map other_letter x))
    else (other_letter b ∷ []) ∷ items_where false (map other_letter x)) (same_test b 91)
    ∙ elim (b == 91) as (λ t.
    (if t then before_first (other_letter b) (items_where true (map other_letter x))
    else (other_letter b ∷ []) ∷ items_where false (map other_letter x))
    ≡ map (map other_letter) (if t then before_first b (items_where true x)
    else (b ∷ []) ∷ items_where false x)) [
      | true ↦ ap (before_first (other_letter b)) (items_other true x)
          ∙ front_other b (items_where true x)
      | false ↦ ap (λ items. (other_letter b ∷ []) ∷ items) (items_other false x)
    ]

-- ---- what an item takes

no_men_kept : (n : ℕ) → map exchanged (replicate n None) ≡ replicate n None
no_men_kept zero = refl
no_men_kept (suc n) = ap (λ squares. None ∷ squares) (no_men_kept n)

digit_kept : (n : ℕ) → n ≤ 8 → other_letter (48 + n) ≡ 48 + n
digit_kept n high = grind (arith, nat_tests)

squares_other : (b : ℕ) (own : List (Option Man)) → IsSquares b own
    → IsStretch (other_letter b ∷ []) (map exchanged own)
squares_other _ _ (letter man) =
    subst (λ n. IsStretch (n ∷ []) (Some (other_man man) ∷ [])) (sym (letter_is man))
    (spelled (man_letter (other_man man)) (Some (other_man man) ∷ []) (letter (other_man man)))
squares_other _ _ (step n low high) =
    rw (digit_kept n high) (subst (IsStretch ((48 + n) ∷ [])) (sym (no_men_kept n)) (spelled (48 +
    n) (replicate n None) (step n low high)))

side_other : (man : Man) (side : Side) → man.side ≡ side → (other_man man).side ≡ opposite side
side_other man side is = ap opposite is

none_other : (letters : List ℕ) (square : Option Man)
    → ((man : Man) → square ≡ Some man → has_byte (man_letter man) letters ≡ false)
    → (man : Man) → exchanged square ≡ Some man
    → has_byte (man_letter man) (map other_letter letters) ≡ false
none_other letters None none man is = absurd (cc)
none_other letters (Some own) none man is =
    let same : own ≡ other_man man = sym (man_twice own) ∙ ap other_man (cc (is)) in
    has_other letters man ∙ ap (λ (m : Man). has_byte (man_letter m) letters) (sym same)
    ∙ none own refl

stretch_other : (item : List ℕ) (own : List (Option Man)) → IsStretch item own
    → IsStretch (map other_letter item) (map exchanged own)
stretch_other _ _ (spelled b own squares) = squares_other b own squares
stretch_other _ _ (any square) = any (exchanged square)
stretch_other _ _ (occupied man) = occupied (other_man man)
stretch_other _ _ (white man of) = black (other_man man) (side_other man White of)
stretch_other _ _ (black man of) = white (other_man man) (side_other man Black of)
stretch_other _ _ (many own) = many (map exchanged own)
stretch_other _ _ (among letters man are has) =
    let own = other_man man in
    let found : has_byte (man_letter own) (map other_letter letters) ≡ true =
    has_other letters own ∙ ap (λ (m : Man). has_byte (man_letter m) letters) (man_twice man)
    ∙ has in
    rw (map-append other_letter letters (93 ∷ [])) (among (map other_letter letters) own (men_other
    letters are) found)
stretch_other _ _ (other letters square are none) =
    rw (map-append other_letter letters (93 ∷ [])) (other (map other_letter letters) (exchanged
    square) (men_other letters are) (none_other letters square none))

split_other : (items : List (List ℕ)) (squares : List (Option Man)) → CanBeSplit items squares
    → CanBeSplit (map (map other_letter) items) (map exchanged squares)
split_other [] squares e = ap (map exchanged) e
split_other (item ∷ items) squares (own, more, is, stretch, rest) = (
  map exchanged own,
  map exchanged more,
  ap (map exchanged) is ∙ map-append exchanged own more,
  stretch_other item own stretch,
  split_other items more rest,
)

rank_other : (rank : List ℕ) (squares : List (Option Man)) → CanBeSplit (items_of rank) squares
    → CanBeSplit (items_of (map other_letter rank)) (map exchanged squares)
rank_other rank squares split =
    rw (items_other false rank) (split_other (items_of rank) squares split)

-- ---- eight ranks

-- on each rank of the one stands what is exchanged of the rank across of the other
abbrev pub AreTurned : Placement → Placement → Type 0
AreTurned men across = (r : ℕ) → 1 ≤ r → r ≤ 8 → row across (9 - r) ≡ map exchanged (row men r)

ranks_turned : (men across : Placement) → AreTurned men across → (ranks : List (List ℕ))
    → FitRanks men 8 ranks → FitRanks across 8 (turned_ranks ranks)
ranks_turned men across are [] fit = absurd (omega (arith, fit))
ranks_turned men across are (a ∷ []) fit = absurd (omega (arith, fit.2))
ranks_turned men across are (a ∷ b ∷ []) fit = absurd (omega (arith, fit.2.2))
ranks_turned men across are (a ∷ b ∷ c ∷ []) fit = absurd (omega (arith, fit.2.2.2))
ranks_turned men across are (a ∷ b ∷ c ∷ d ∷ []) fit = absurd (omega (arith, fit.2.2.2.2))
ranks_turned men across are (a ∷ b ∷ c ∷ d ∷ e ∷ []) fit = absurd (omega (arith, fit.2.2.2.2.2))
ranks_turned men across are (a ∷ b ∷ c ∷ d ∷ e ∷ f ∷ []) fit =
    absurd (omega (arith, fit.2.2.2.2.2.2))
ranks_turned men across are (a ∷ b ∷ c ∷ d ∷ e ∷ f ∷ g ∷ []) fit =
    absurd (omega (arith, fit.2.2.2.2.2.2.2))
ranks_turned men across are (a ∷ b ∷ c ∷ d ∷ e ∷ f ∷ g ∷ h ∷ i ∷ more) fit =
    absurd (omega (arith, fit.2.2.2.2.2.2.2.2.0))
ranks_turned men across are (a ∷ b ∷ c ∷ d ∷ e ∷ f ∷ g ∷ h ∷ []) fit = (
  omega arith,
  rank h 1 (omega arith) (omega arith) fit.2.2.2.2.2.2.2.1,
  (
    omega arith,
    rank g 2 (omega arith) (omega arith) fit.2.2.2.2.2.2.1,
    (
      omega arith,
      rank f 3 (omega arith) (omega arith) fit.2.2.2.2.2.1,
      (
        omega arith,
        rank e 4 (omega arith) (omega arith) fit.2.2.2.2.1,
        (
          omega arith,
          rank d 5 (omega arith) (omega arith) fit.2.2.2.1,
          (
            omega arith,
            rank c 6 (omega arith) (omega arith) fit.2.2.1,
            (
              omega arith,
              rank b 7 (omega arith) (omega arith) fit.2.1,
              (omega arith, rank a 8 (omega arith) (omega arith) fit.1, refl),
            ),
          ),
        ),
      ),
    ),
  ),
)
  where
    rank : (text : List ℕ) (r : ℕ) → 1 ≤ r → r ≤ 8 → CanBeSplit (items_of text) (row men r)
        → CanBeSplit (items_of (map other_letter text)) (row across (9 - r))
    rank text r low high split =
        subst (CanBeSplit (items_of (map other_letter text))) (sym (are r low high))
        (rank_other text (row men r) split)

abbrev IsRank : List ℕ → Type 0
IsRank rank = (rank ≢ []) × (squares : List (Option Man)) × CanBeSplit (items_of rank) squares

is_rank_other : (rank : List ℕ) → IsRank rank → IsRank (map other_letter rank)
is_rank_other rank is = (some_letters rank is.0, map exchanged is.1, rank_other rank is.1 is.2)

are_ranks_turned : (ranks : List (List ℕ)) → AreRanks 8 ranks → AreRanks 8 (turned_ranks ranks)
are_ranks_turned [] are = absurd (omega (arith, are))
are_ranks_turned (a ∷ []) are = absurd (omega (arith, are.2))
are_ranks_turned (a ∷ b ∷ []) are = absurd (omega (arith, are.2.2))
are_ranks_turned (a ∷ b ∷ c ∷ []) are = absurd (omega (arith, are.2.2.2))
are_ranks_turned (a ∷ b ∷ c ∷ d ∷ []) are = absurd (omega (arith, are.2.2.2.2))
are_ranks_turned (a ∷ b ∷ c ∷ d ∷ e ∷ []) are = absurd (omega (arith, are.2.2.2.2.2))
are_ranks_turned (a ∷ b ∷ c ∷ d ∷ e ∷ f ∷ []) are = absurd (omega (arith, are.2.2.2.2.2.2))
are_ranks_turned (a ∷ b ∷ c ∷ d ∷ e ∷ f ∷ g ∷ []) are = absurd (omega (arith, are.2.2.2.2.2.2.2))
are_ranks_turned (a ∷ b ∷ c ∷ d ∷ e ∷ f ∷ g ∷ h ∷ i ∷ more) are =
    absurd (omega (arith, are.2.2.2.2.2.2.2.2.0))
are_ranks_turned (a ∷ b ∷ c ∷ d ∷ e ∷ f ∷ g ∷ h ∷ []) are = (
  omega arith,
  is_rank_other h are.2.2.2.2.2.2.2.1,
  (
    omega arith,
    is_rank_other g are.2.2.2.2.2.2.1,
    (
      omega arith,
      is_rank_other f are.2.2.2.2.2.1,
      (
        omega arith,
        is_rank_other e are.2.2.2.2.1,
        (
          omega arith,
          is_rank_other d are.2.2.2.1,
          (
            omega arith,
            is_rank_other c are.2.2.1,
            (omega arith, is_rank_other b are.2.1, (omega arith, is_rank_other a are.1, refl)),
          ),
        ),
      ),
    ),
  ),
)

turned_more : (ranks : List (List ℕ)) (rank : List ℕ)
    → turned_ranks (ranks ++ (rank ∷ [])) ≡ map other_letter rank ∷ turned_ranks ranks
turned_more [] rank = refl
turned_more (first ∷ ranks) rank =
    ap (λ more. more ++ (map other_letter first ∷ [])) (turned_more ranks rank)

turned_twice : (ranks : List (List ℕ)) → turned_ranks (turned_ranks ranks) ≡ ranks
turned_twice [] = refl
turned_twice (rank ∷ ranks) = turned_more (turned_ranks ranks) (map other_letter rank)
    ∙ (λ i. letters_twice rank i ∷ turned_twice ranks i)

-- ---- the text

abbrev IsWhole : List ℕ → Type 0
IsWhole rank = parted_at 47 (map other_letter rank) ≡ map other_letter rank ∷ []

abbrev AllWhole : List (List ℕ) → Type 0
AllWhole [] = Unit {0}
AllWhole (rank ∷ more) = IsWhole rank × AllWhole more

whole_more : (b : ℕ) (x : List ℕ) → (b == 47) ≡ false → IsWhole x → IsWhole (b ∷ x)
whole_more b x differs is =
    ap (λ t. if t then [] ∷ parted_at 47 (map other_letter x)
    else before_first (other_letter b) (parted_at 47 (map other_letter x))) (same_test b 47
    ∙ differs) ∙ ap (before_first (other_letter b)) is

front_whole : (b : ℕ) (ranks : List (List ℕ)) → (b == 47) ≡ false → AllWhole ranks
    → AllWhole (before_first b ranks)
front_whole b [] differs each = (whole_more b [] differs refl, tt)
front_whole b (rank ∷ more) differs each = (whole_more b rank differs each.0, each.1)

all_whole : (x : List ℕ) → AllWhole (parted_at 47 x)
all_whole [] = (refl, tt)
all_whole (b ∷ x) =
    elim (b == 47) as (λ t. (b == 47) ≡ t
    → AllWhole (if t then [] ∷ parted_at 47 x else before_first b (parted_at 47 x))) [
      | true ↦ λ same. (refl, all_whole x)
      | false ↦ λ differs. front_whole b (parted_at 47 x) differs (all_whole x)
    ] refl

front_joined : (b : ℕ) (parts rest : List (List ℕ)) (first : List ℕ) (more : List (List ℕ))
    → parts ≡ first ∷ more → before_first b (parts ++ rest) ≡ before_first b parts ++ rest
front_joined b parts rest first more e =
    ap (λ p. before_first b (p ++ rest)) e ∙ ap (λ p. before_first b p ++ rest) (sym e)

parted_joined : (x y : List ℕ) → parted_at 47 (x ++ (47 ∷ y)) ≡ parted_at 47 x ++ parted_at 47 y
parted_joined [] y = refl
parted_joined (b ∷ x) y =
    elim (b == 47) as (λ t.
    (if t then [] ∷ parted_at 47 (x ++ (47 ∷ y))
    else before_first b (parted_at 47 (x ++ (47 ∷ y))))
    ≡ (if t then [] ∷ parted_at 47 x else before_first b (parted_at 47 x)) ++ parted_at 47 y) [
      | true ↦ ap (λ parts. [] ∷ parts) (parted_joined x y)
      | false ↦ ap (before_first b) (parted_joined x y)
          ∙ front_joined b (parted_at 47 x) (parted_at 47 y) _ _ (parted_by_run 47 x)
    ]

parted_turned : (rank : List ℕ) (more : List (List ℕ)) → AllWhole (rank ∷ more)
    → parted_at 47 (turned (rank ∷ more)) ≡ turned_ranks (rank ∷ more)
parted_turned rank [] each = each.0
parted_turned rank (next ∷ more) each =
    let before = parted_turned next more each.1 in
    let last = each.0 in parted_joined (turned (next ∷ more)) (map other_letter rank)
    ∙ (λ i. before i ++ last i)

turned_parts : (text : List ℕ) → parted_at 47 (turned (parted_at 47 text))
    ≡ turned_ranks (parted_at 47 text)
turned_parts text =
    subst (λ parts. AllWhole parts → parted_at 47 (turned parts)
    ≡ turned_ranks parts) (sym (parted_by_run 47 text)) (λ each. parted_turned _ _ each)
    (all_whole text)

to_mirror : (men : Placement) → AreTurned men (mirrored_men men)
to_mirror men r low high =
    let back : 9 - (9 - r) ≡ r = omega arith in
    row_mirrored men (9 - r) (omega arith) (omega arith) ∙ ap (λ n. map exchanged (row men n)) back

from_mirror : (men : Placement) → AreTurned (mirrored_men men) men
from_mirror men r low high =
    sym (ap (map exchanged) (row_mirrored men r low high) ∙ squares_twice (row men (9 - r)))

-- the text is fitted by the men whose mirror fits the pattern
pub pattern_mirrored : (men : Placement) (pattern own : List ℕ)
    → own ≡ turned (parted_at 47 pattern) → FitsPattern men own
    ↔ FitsPattern (mirrored_men men) pattern
pattern_mirrored men pattern own is =
    let parts : parted_at 47 own ≡ turned_ranks (parted_at 47 pattern) =
    ap (parted_at 47) is ∙ turned_parts pattern in (
      λ fits. subst (FitRanks (mirrored_men men) 8) (turned_twice (parted_at 47 pattern))
          (ranks_turned men (mirrored_men men) (to_mirror men) (turned_ranks (parted_at 47 pattern))
          (subst (FitRanks men 8) parts fits)),
      λ fits. subst (FitRanks men 8) (sym parts)
          (ranks_turned (mirrored_men men) men (from_mirror men) (parted_at 47 pattern) fits),
    )

-- and is one
pub pattern_again : (pattern own : List ℕ) → own ≡ turned (parted_at 47 pattern) → IsPattern pattern
    → IsPattern own
pattern_again pattern own is good =
    let parts : parted_at 47 own ≡ turned_ranks (parted_at 47 pattern) =
    ap (parted_at 47) is ∙ turned_parts pattern in
    subst (AreRanks 8) (sym parts) (are_ranks_turned (parted_at 47 pattern) good)

-- the last rank of a text after the others
turned_after : (text rank rest : List ℕ) → parted_at 47 text ≡ rank ∷ parted_at 47 rest
    → turned (parted_at 47 text) ≡ turned (parted_at 47 rest) ++ (47 ∷ map other_letter rank)
turned_after text rank rest parts =
    let more : parted_at 47 rest ≡ _ = parted_by_run 47 rest in
    ap turned parts ∙ ap (λ p. turned (rank ∷ p)) more
    ∙ ap (λ p. turned p ++ (47 ∷ map other_letter rank)) (sym more)

pub ranks_added : (old last pushed text rank rest : List ℕ)
    → parted_at 47 text ≡ rank ∷ parted_at 47 rest → last ≡ old ++ turned (parted_at 47 rest)
    → pushed ≡ last ++ (47 ∷ [])
    → pushed ++ map other_letter rank ≡ old ++ turned (parted_at 47 text)
ranks_added old last pushed text rank rest parts last_is pushed_is =
    ap (λ x. x ++ map other_letter rank) (pushed_is ∙ ap (λ x. x ++ (47 ∷ [])) last_is)
    ∙ append_assoc (old ++ turned (parted_at 47 rest)) (47 ∷ []) (map other_letter rank)
    ∙ append_assoc old (turned (parted_at 47 rest)) (47 ∷ map other_letter rank)
    ∙ ap (λ x. old ++ x) (sym (turned_after text rank rest parts))
