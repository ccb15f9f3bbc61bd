-- Sets of marks, and the criteria that they stand for.
use Rattle.std.proofs.Common.{◌≡◌, ◌↔◌, ◌⊎◌, ◌<◌, ◌≤◌, inl, inr, ℕ, zero, suc, Bool, true, false}
use Rattle.std.proofs.Common.{List, [], ◌∷◌, length, drop, get_or, min, max, bit_or, Option, Some}
use Rattle.std.proofs.Common.{None, IsTrue, refl, sym, ap, ◌∙◌, subst, arith}
use Rattle.std.specs.Prelude.{◌==◌, ◌/◌, ◌%◌, nat_le, IfSome}
use Rattle.std.specs.Int.RustNames.{bit_and}
use Rattle.std.proofs.lemmas.Nat.Bits.{bit_at_and}
use Rattle.pgn_criteria.proofs.Common.{bit_at, false≢true, nat_tests, bit_at_or, bit_at-lt}
use Rattle.pgn_criteria.proofs.Common.{bit_at-zero, AllByRecursion, Placement, opposite, State}
use Rattle.pgn_criteria.proofs.Common.{Side, White, Black, opposite-opposite, PlyCode, AreMarks}
use Rattle.pgn_criteria.proofs.Common.{Replay, place_of_marks, has_marks, NoneMeets, IsNextMet}
use Rattle.pgn_criteria.proofs.Common.{AreMarksOf, LacksMarks, Needs, Conditions, Heading, SomeHold}
use Rattle.pgn_criteria.proofs.Common.{codes_in, OfSeen, AllSaid, AllOfSeen, AllOfHeading, AreFixed}
use Rattle.pgn_criteria.proofs.Common.{AreFreeOfMoves, IsSeenOf, PositionCondition}
use Rattle.pgn_game.specs.Public.PlyCodes.{bit, marks_number}
use Rattle.pgn_criteria.proofs.EitherFacts.{met_plain, met_fixed}
use Rattle.pgn_criteria.proofs.MarkFacts.{eight_on}
use Rattle.pgn_criteria.proofs.StageFacts.{all_of_heading, not_of_heading, all_free_within}
use Rattle.pgn_criteria.proofs.StageFacts.{kept_one, dropped_one, reports_seen}
use Rattle.pgn_criteria.proofs.StandFacts.{three, below}

-- ---- bits

one_of_least : (x y : ℕ) → x < 2 → y < 2
    → IsTrue (min x y == 1) ↔ (IsTrue (x == 1) × IsTrue (y == 1))
one_of_least zero zero low high = (λ t. absurd (false≢true t), λ both. absurd (false≢true both.0))
one_of_least zero (suc zero) low high =
    (λ t. absurd (false≢true t), λ both. absurd (false≢true both.0))
one_of_least (suc zero) zero low high =
    (λ t. absurd (false≢true t), λ both. absurd (false≢true both.1))
one_of_least (suc zero) (suc zero) low high = (λ t. (refl, refl), λ both. refl)
one_of_least zero (suc (suc y)) low high = absurd (omega (arith, high))
one_of_least (suc zero) (suc (suc y)) low high = absurd (omega (arith, high))
one_of_least (suc (suc x)) y low high = absurd (omega (arith, low))

one_of_most : (x y : ℕ) → x < 2 → y < 2
    → IsTrue (max x y == 1) ↔ (IsTrue (x == 1) ⊎ IsTrue (y == 1))
one_of_most zero zero low high = (
  λ t. absurd (false≢true t),
  λ one.
      elim one [ inl t ↦ absurd (false≢true t) | inr t ↦ absurd (false≢true t) ],
)
one_of_most zero (suc zero) low high = (λ t. inr refl, λ one. refl)
one_of_most (suc zero) zero low high = (λ t. inl refl, λ one. refl)
one_of_most (suc zero) (suc zero) low high = (λ t. inl refl, λ one. refl)
one_of_most zero (suc (suc y)) low high = absurd (omega (arith, high))
one_of_most (suc zero) (suc (suc y)) low high = absurd (omega (arith, high))
one_of_most (suc (suc x)) y low high = absurd (omega (arith, low))

-- the marks that both sets have, and those that one of them has
pub has_both : (a b : ℕ) (turn : Side) (check stuck : Bool)
    → IsTrue (has_marks (bit_and a b) turn check stuck)
    ↔ (IsTrue (has_marks a turn check stuck) × IsTrue (has_marks b turn check stuck))
has_both a b turn check stuck =
    let i = place_of_marks turn check stuck in
    rw (bit_at_and a b i) (one_of_least (bit_at a i) (bit_at b i) (bit_at-lt a i) (bit_at-lt b i))

pub has_one : (a b : ℕ) (turn : Side) (check stuck : Bool)
    → IsTrue (has_marks (bit_or a b) turn check stuck)
    ↔ (IsTrue (has_marks a turn check stuck) ⊎ IsTrue (has_marks b turn check stuck))
has_one a b turn check stuck =
    let i = place_of_marks turn check stuck in
    rw (bit_at_or a b i) (one_of_most (bit_at a i) (bit_at b i) (bit_at-lt a i) (bit_at-lt b i))

pub has_all : (turn : Side) (check stuck : Bool) → IsTrue (has_marks 255 turn check stuck)
has_all White false false = refl
has_all White true false = refl
has_all Black false false = refl
has_all Black true false = refl
has_all _ _ _ = refl

pub has_none : (turn : Side) (check stuck : Bool) → has_marks 0 turn check stuck ≡ false
has_none White false false = refl
has_none White true false = refl
has_none Black false false = refl
has_none Black true false = refl
has_none _ _ _ = refl

bit_of : (x : ℕ) → x < 2 → bit (x == 1) ≡ x
bit_of zero low = refl
bit_of (suc zero) low = refl
bit_of (suc (suc x)) low = absurd (omega (arith, low))

-- the two marks in the first byte of a ply
pub told_number : (a : ℕ) → a < 256 → marks_number (a / 64 % 2 == 1) (a / 128 == 1) ≡ a / 64
told_number a low =
    let first = bit_of (a / 64 % 2) (omega arith) in
    let second = bit_of (a / 128) (omega (arith, low)) in
    omega (arith, first, second, low)

-- ---- conditions

module _ (turn : Side) (check stuck : Bool) (men : Placement) where
  abbrev All : List (PositionCondition (List ℕ)) → Type 0
  All conditions = AllSaid men turn (IsTrue check) (IsTrue stuck) conditions

  -- one more condition, with the marks with which it holds
  pub said_on : (set own : ℕ) (left more whole : List (PositionCondition (List ℕ)))
      (condition : PositionCondition (List ℕ)) → left ≡ condition ∷ more
      → (IsTrue (has_marks own turn check stuck)
      ↔ OfSeen men turn (IsTrue check) (IsTrue stuck) condition)
      → ((IsTrue (has_marks set turn check stuck) × All left) ↔ All whole)
      → (IsTrue (has_marks (bit_and set own) turn check stuck) × All more) ↔ All whole
  said_on set own left more whole condition front here so_far =
      let both = has_both set own turn check stuck in (
        λ all. let marks = both.0 all.0 in
            so_far.0 (marks.0, subst All (sym front) (here.0 marks.1, all.1)),
        λ all. let parts = so_far.1 all in let rest : All (condition ∷ more) =
            subst All front parts.1 in (both.1 (parts.0, here.1 rest.0), rest.1),
      )

-- what is said without `either`
pub fixed_said : (conditions : List (PositionCondition (List ℕ))) → AreFixed conditions
    → (men : Placement) (turn : Side) (Checked Stuck : Type 0) (r : Bool)
    → (IsTrue r ↔ AllSaid men turn Checked Stuck conditions)
    → IsTrue r ↔ AllOfSeen men turn Checked Stuck conditions
fixed_said conditions fixed men turn Checked Stuck true reports =
    met_plain men turn Checked Stuck conditions true reports refl
fixed_said conditions fixed men turn Checked Stuck false reports =
    met_fixed men turn Checked Stuck conditions false reports refl fixed

pub fixed_marks : (found : Option ℕ) (conditions : List (PositionCondition (List ℕ)))
    → AreFixed conditions
    → IfSome found (λ set. (men : Placement)
    → AreMarksOf set (λ turn check stuck.
    AllSaid men turn (IsTrue check) (IsTrue stuck) conditions))
    → IfSome found (λ set. (men : Placement)
    → AreMarksOf set (λ turn check stuck.
    AllOfSeen men turn (IsTrue check) (IsTrue stuck) conditions))
fixed_marks None conditions fixed tells = tt
fixed_marks (Some set) conditions fixed tells =
    λ men turn check stuck. fixed_said conditions fixed men turn (IsTrue check) (IsTrue stuck)
    (has_marks set turn check stuck) (tells men turn check stuck)

-- ---- alternatives

module _ (heading : Heading) (replay : Replay) (ply : ℕ) (P : State) (check stuck : Bool)
    (marks : AreMarks P check stuck) where
  abbrev Has : ℕ → Type 0
  Has set = IsTrue (has_marks set P.turn check stuck)

  abbrev Hold : List Conditions → Type 0
  Hold criteria = SomeHold heading replay ply P criteria

  module _ (set own : ℕ) (left more whole : List Conditions) (conditions : Conditions) (front : left
      ≡ conditions ∷ more)
      (so_far : (Has set ⊎ Hold left) ↔ Hold whole) where
    -- one more alternative, of which what it says of the heading is so
    pub held_on : AllOfHeading heading conditions.games → AreFreeOfMoves conditions
        → (IsTrue (has_marks own P.turn check stuck)
        ↔ AllOfSeen P.men P.turn (IsTrue check) (IsTrue stuck) conditions.positions)
        → (Has (bit_or set own) ⊎ Hold more) ↔ Hold whole
    held_on of_heading free here =
        let one = has_one set own P.turn check stuck in
        let seen : IsSeenOf P P.men P.turn (IsTrue check) (IsTrue stuck) =
        record { men = refl; turn = refl; check = marks.check; stuck = marks.stuck } in
        let met =
        reports_seen heading replay ply P conditions (has_marks own P.turn check stuck) P.men
        P.turn (IsTrue check) (IsTrue stuck) seen here in
        let kept = kept_one heading replay ply P [] more conditions 0
        (all_of_heading heading replay conditions free of_heading)
        (all_free_within conditions free) in (
          λ has. elim has [
            | inl either ↦ elim (one.0 either) [
              | inl old ↦ so_far.0 (inl old)
              | inr new ↦ so_far.0 (inr (subst Hold (sym front) (kept.0 (inl (met.0 new)))))
            ]
            | inr rest ↦ so_far.0 (inr (subst Hold (sym front) (inr rest)))
          ],
          λ hold. elim (so_far.1 hold) [
            | inl old ↦ inl (one.1 (inl old))
            | inr some ↦ elim (kept.1 (subst Hold front some)) [
              | inl first ↦ inl (one.1 (inr (met.1 first)))
              | inr rest ↦ inr rest
            ]
          ],
        )

    -- and one of which it is not
    pub held_without : (r : Bool) → r ≡ false → (IsTrue r ↔ AllOfHeading heading conditions.games)
        → (Has set ⊎ Hold more) ↔ Hold whole
    held_without r fails reports =
        let dropped = dropped_one heading replay ply P [] more conditions r fails
        (not_of_heading heading replay conditions r fails reports) in (
          λ has. elim has [
            | inl old ↦ so_far.0 (inl old)
            | inr rest ↦ so_far.0
                (inr (subst Hold (sym front) (dropped.0 rest)))
          ],
          λ hold. elim (so_far.1 hold)
              [ inl old ↦ inl old | inr some ↦ inr (dropped.1 (subst Hold front some)) ],
        )

  -- no alternative is left
  pub held_end : (set : ℕ) (left whole : List Conditions) → left ≡ []
      → ((Has set ⊎ Hold left) ↔ Hold whole) → Has set ↔ Hold whole
  held_end set left whole none so_far = (
    λ has. so_far.0 (inl has),
    λ hold. elim (so_far.1 hold) [ inl has ↦ has | inr some ↦ absurd (subst Hold none some) ],
  )

-- ---- plies

-- a set has no marks of plies that lack one that all its marks have
lacks_none : (check stuck : Bool) (set : ℕ) (turn : Side) (in_check no_move : Bool)
    → Needs check stuck set → ¬ ((check ≡ true → in_check ≡ true) × (stuck ≡ true → no_move ≡ true))
    → has_marks set turn in_check no_move ≡ false
lacks_none true stuck set turn false no_move needs lacks = needs.0 refl turn no_move
lacks_none true true set turn true false needs lacks = needs.1 refl turn true
lacks_none true true set turn true true needs lacks = absurd (lacks ((λ t. refl), (λ t. refl)))
lacks_none true false set turn true no_move needs lacks =
    absurd (lacks ((λ t. refl), (λ t. absurd (false≢true t))))
lacks_none false true set turn in_check false needs lacks = needs.1 refl turn in_check
lacks_none false true set turn in_check true needs lacks =
    absurd (lacks ((λ t. absurd (false≢true t)), (λ t. refl)))
lacks_none false false set turn in_check no_move needs lacks =
    absurd (lacks ((λ t. absurd (false≢true t)), (λ t. absurd (false≢true t))))

-- the side to move so many plies before
abbrev before : ℕ → Side → Side
before zero turn = turn
before (suc n) turn = opposite (before n turn)

eight_before : (turn : Side) → before 8 turn ≡ turn
eight_before White = refl
eight_before Black = refl

module _ (check stuck : Bool) (set : ℕ) (needs : Needs check stuck set) (turn : Side) where
  pub lacks_on : (j : ℕ) (code : PlyCode) (codes : List PlyCode) → LacksMarks check stuck code
      → NoneMeets set (before j turn) codes → NoneMeets set (before (suc j) turn) (code ∷ codes)
  lacks_on j code codes lacks none = (
    lacks_none check stuck set (opposite (before (suc j) turn)) code.check code.stuck needs lacks,
    subst (λ side. NoneMeets set side codes) (sym (opposite-opposite (before j turn))) none,
  )

  pub lacks_next : (side : Side) (left : List PlyCode) (j : ℕ) (code : PlyCode)
      (codes : List PlyCode) → LacksMarks check stuck code
      → IsNextMet set (before j turn) codes side left
      → IsNextMet set (before (suc j) turn) (code ∷ codes) side left
  lacks_next side left j code codes lacks next =
      inr (
        lacks_none check stuck set (opposite (before (suc j) turn)) code.check code.stuck needs
            lacks,
        rw (opposite-opposite (before j turn)) next,
      )

module _ (check stuck : Bool) (bytes rest : List ℕ) (long : 24 ≤ length bytes) (same : rest
    ≡ drop 24 bytes) where
  abbrev any : ℕ
  any =
      let at : ℕ → ℕ = λ i. get_or bytes i 0 in
      bit_or (bit_or (bit_or (at 0) (at 3)) (bit_or (at 6) (at 9)))
      (bit_or (bit_or (at 12) (at 15)) (bit_or (at 18) (at 21)))

  module _ (lacks : ¬ ((check ≡ true → (any / 64 % 2 == 1) ≡ true)
      × (stuck ≡ true → nat_le 128 any ≡ true))) where
    -- eight plies at once
    pub eight_lack : AllByRecursion (LacksMarks check stuck) (codes_in rest)
        → AllByRecursion (LacksMarks check stuck) (codes_in bytes)
    eight_lack later =
        eight_on check stuck bytes (λ j codes.
        AllByRecursion (LacksMarks check stuck) codes) (λ j code codes one all. (one, all)) rest
        long same lacks later

    pub eight_met : (set : ℕ) → Needs check stuck set → (turn : Side)
        → (NoneMeets set turn (codes_in rest) → NoneMeets set turn (codes_in bytes))
        × ((side : Side) (left : List PlyCode) → IsNextMet set turn (codes_in rest) side left
        → IsNextMet set turn (codes_in bytes) side left)
    eight_met set needs turn = (
      λ none. rw (← (eight_before turn)) (eight_on check stuck bytes (λ j codes. NoneMeets set
          (before j turn) codes) (lacks_on check stuck set needs turn) rest long same lacks none),
      λ side left next. rw (← (eight_before turn)) (eight_on check stuck bytes (λ j codes. IsNextMet
          set (before j turn) codes side left) (lacks_next check stuck set needs turn side left)
          rest long same lacks next),
    )

-- the empty set has none
pub none_of_none : (turn : Side) (codes : List PlyCode) → NoneMeets 0 turn codes
none_of_none turn [] = tt
none_of_none turn (c ∷ codes) =
    (has_none (opposite turn) c.check c.stuck, none_of_none (opposite turn) codes)

-- where it shares no bit with a mask, it has none of its marks
one_masked : (x y z : ℕ) → z ≡ 0 → z ≡ min x y → y ≡ 1 → x < 2 → (x == 1) ≡ false
one_masked zero y z none is one low = refl
one_masked (suc zero) y z none is one low = let least : min 1 y ≡ 1 = ap (λ n. min 1 n) one in
    absurd (omega (arith, none, is, least))
one_masked (suc (suc x)) y z none is one low = absurd (omega (arith, low))

masked : (set mask i : ℕ) → bit_and set mask ≡ 0 → bit_at mask i ≡ 1 → (bit_at set i == 1) ≡ false
masked set mask i none one =
    one_masked (bit_at set i) (bit_at mask i) (bit_at (bit_and set mask) i)
    (ap (λ n. bit_at n i) none ∙ bit_at-zero i) (bit_at_and set mask i) one (bit_at-lt set i)

pub masks_need : (set : ℕ) → (bit_and set 85 == 0) ≡ true → (turn : Side) (stuck : Bool)
    → has_marks set turn false stuck ≡ false
masks_need set none White false = masked set 85 0 (grind (arith, nat_tests)) refl
masks_need set none White true = masked set 85 2 (grind (arith, nat_tests)) refl
masks_need set none Black false = masked set 85 4 (grind (arith, nat_tests)) refl
masks_need set none Black true = masked set 85 6 (grind (arith, nat_tests)) refl

pub masks_stuck : (set : ℕ) → (bit_and set 51 == 0) ≡ true → (turn : Side) (check : Bool)
    → has_marks set turn check false ≡ false
masks_stuck set none White false = masked set 51 0 (grind (arith, nat_tests)) refl
masks_stuck set none White true = masked set 51 1 (grind (arith, nat_tests)) refl
masks_stuck set none Black false = masked set 51 4 (grind (arith, nat_tests)) refl
masks_stuck set none Black true = masked set 51 5 (grind (arith, nat_tests)) refl

module _ (set : ℕ) (turn : Side) (rest after : List ℕ) (long : 3 ≤ length rest) (same : after
    ≡ drop 3 rest) (other : Side) (is : other ≡ opposite turn) where
  abbrev told : Side → Bool
  told side = has_marks set side (get_or rest 0 0 / 64 % 2 == 1) (get_or rest 0 0 / 128 == 1)

  pub none_on : told other ≡ false → NoneMeets set other (codes_in after)
      → NoneMeets set turn (codes_in rest)
  none_on fails later =
      subst (NoneMeets set turn) (sym (three rest long)) (
        subst (λ side. told side ≡ false) is fails,
        rw (← is) (subst (λ (left : List ℕ). NoneMeets set other (codes_in left)) same later),
      )

  pub next_on : told other ≡ false → (side : Side) (left : List PlyCode)
      → IsNextMet set other (codes_in after) side left
      → IsNextMet set turn (codes_in rest) side left
  next_on fails side left later =
      rw (three rest long) (inr (
        subst (λ side. told side ≡ false) is fails,
        subst (λ own. IsNextMet set own (codes_in (drop 3 rest)) side left) is
            (subst (λ (bytes : List ℕ). IsNextMet set other (codes_in bytes) side left) same later),
      ))

  pub next_here : told other ≡ true → IsNextMet set turn (codes_in rest) other (codes_in after)
  next_here has =
      rw (three rest long) (inl (subst (λ side. told side ≡ true) is has, is, ap codes_in same))

pub none_end : (set : ℕ) (turn : Side) (rest : List ℕ) → length rest < 3
    → NoneMeets set turn (codes_in rest)
none_end set turn rest short = subst (NoneMeets set turn) (sym (below rest short)) tt
