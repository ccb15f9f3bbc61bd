-- Where no ply shows the marks that conditions need, the conditions hold nowhere.
use Rattle.std.proofs.Common.{if◌then◌else◌}
use Rattle.std.specs.Prelude.{IsTrue, ◌/◌, ◌%◌}
use Rattle.std.proofs.Math.Nat.{max-le, le-max_left, le-max_right}
use Rattle.std.proofs.lemmas.Nat.{le_or_l, le_or_r}
use Rattle.pgn_criteria.proofs.Common.{◌≡◌, ◌⊎◌, inl, inr, ℕ, zero, suc, Bool, true, false, List}
use Rattle.pgn_criteria.proofs.Common.{[], ◌∷◌, ◌+◌, ◌<◌, ◌≤◌, length, map, drop, get_or, max}
use Rattle.pgn_criteria.proofs.Common.{bit_or, refl, sym, ap, ◌∙◌, subst, arith, length-drop, ◌==◌}
use Rattle.pgn_criteria.proofs.Common.{nat_le, bit_at, nat_tests, and_parts, and_right, bit_at_or}
use Rattle.pgn_criteria.proofs.Common.{bit_at-lt, get_or-drop, drop-drop, AllByRecursion, Placement}
use Rattle.pgn_criteria.proofs.Common.{opposite, State, IsCheck, HasMove, Conditions, Side, PlyCode}
use Rattle.pgn_criteria.proofs.Common.{code_of, moved, same_first, MeetsSeen, NowhereSeen, codes_in}
use Rattle.pgn_criteria.proofs.Common.{FitsSeen, LacksMarks, SaysOfNumbers, is_turned, Holds}
use Rattle.pgn_criteria.proofs.Common.{EachHold, PositionsHold, mirror, can_be_mirrored, SaysOfSeen}
use Rattle.pgn_criteria.proofs.Common.{on_positions, FitsPlaced, Nowhere, PositionCondition}
use Rattle.pgn_criteria.proofs.Common.{PositionClaim, Material, Check, Mate, Stalemate}
use Rattle.pgn_game.proofs.Cells.{no_cell}
use Rattle.pgn_criteria.specs.Private.Marks.{IsMarked, NeedMark, asks_mark}
use Rattle.pgn_criteria.specs.declared.marks.Mark.{Mark}
use Rattle.pgn_criteria.proofs.MirrorFacts.{material_mirrored}
use Rattle.pgn_criteria.proofs.StageFacts.{positions_met}
use Rattle.pgn_criteria.proofs.StandFacts.{three, below}
use Rattle.pgn_criteria.specs.declared.marks.Mark.TheVariants as mark

-- ---- what conditions need

-- what a claim says of a position, or denied
abbrev SaysOfPosition : State → Bool → PositionClaim (List ℕ) → Type 0
SaysOfPosition P denied claim =
    SaysOfSeen P.men P.turn (IsCheck P.men P.turn) (¬ HasMove P) denied claim

-- a claim that asks for a mark is not one of the mirror, and is so only where the mark is
asked : (which : Mark) (claim : PositionClaim (List ℕ)) → asks_mark which claim ≡ true
    → (can_be_mirrored claim ≡ false)
    × ((P : State) → SaysOfPosition P false claim → IsMarked which P)
asked mark.Check Check asks = (refl, λ P says. says)
asked mark.Check Mate asks = (refl, λ P says. says.0)
asked mark.Stuck Mate asks = (refl, λ P says. says.1)
asked mark.Stuck Stalemate asks = (refl, λ P says. says.1)
asked _ _ asks = absurd (cc)

-- what a line `material` says of the men, as it stands and of the mirror
plain_numbers : (P : State) (either : Bool) (claim : PositionClaim (List ℕ))
    → SaysOfPosition P false claim → SaysOfNumbers either claim P.men
plain_numbers P either (Material white black) says = inl says
plain_numbers P either _ says = tt

turned_numbers : (P : State) (either : Bool) (claim : PositionClaim (List ℕ)) → either ≡ true
    → SaysOfPosition (mirror P) false claim → SaysOfNumbers either claim P.men
turned_numbers P either (Material white black) is says =
    inr (is, (material_mirrored P.men white black).0 says)
turned_numbers P either _ is says = tt

numbers_of : (P other : State) (condition : PositionCondition (List ℕ))
    → condition.is_denied ≡ false
    → (condition.is_either ≡ true → SaysOfPosition other false condition.claim
    → SaysOfNumbers condition.is_either condition.claim P.men)
    → Holds (if is_turned condition then other else P) condition
    → SaysOfNumbers condition.is_either condition.claim P.men
numbers_of P other condition plain turned says =
    elim (is_turned condition) as (λ t. is_turned condition ≡ t
    → Holds (if t then other else P) condition
    → SaysOfNumbers condition.is_either condition.claim P.men) [
      | true ↦ λ is there. turned
          (and_parts condition.is_either (can_be_mirrored condition.claim) is).0
          (subst (λ denied. SaysOfPosition other denied condition.claim) plain there)
      | false ↦ λ is here. plain_numbers P condition.is_either condition.claim
          (subst (λ denied. SaysOfPosition P denied condition.claim) plain here)
    ] refl says

module _ {V : Type 0} (view : V → PositionCondition (List ℕ)) where
  -- where each condition holds, one of them does
  one_of_each : (P other : State) (all : List V) (i : ℕ) (own : V) (rest : List V)
      → drop i all ≡ own ∷ rest → EachHold P other (map view all)
      → Holds (if is_turned (view own) then other else P) (view own)
  one_of_each P other [] zero own rest at each = absurd (no_cell own rest at)
  one_of_each P other [] (suc i) own rest at each = absurd (no_cell own rest at)
  one_of_each P other (first ∷ more) zero own rest at each =
      rw (same_first first own more rest at) at each.0
  one_of_each P other (first ∷ more) (suc i) own rest at each =
      one_of_each P other more i own rest at each.1

  -- one condition that is not denied and asks for a mark is enough for all to need it
  pub one_needs : (which : Mark) (all : List V) (i : ℕ) (own : V) (rest : List V)
      → drop i all ≡ own ∷ rest → (view own).is_denied ≡ false
      → asks_mark which (view own).claim ≡ true → NeedMark which (map view all)
  one_needs which all i own rest at plain asks P hold =
      elim hold [
        | inl each ↦ here P each
        | inr each ↦ here (mirror P) each
      ]
    where
      here : (other : State) → EachHold P other (map view all) → IsMarked which P
      here other each =
          let condition = view own in
          let facts = asked which condition.claim asks in
          facts.1 P (rw plain at (rw (and_right condition.is_either (can_be_mirrored
          condition.claim) facts.0) at (one_of_each P other all i own rest at each)))

  -- what a line `material` without `not` says is so where all conditions hold
  pub one_material : (all : List V) (i : ℕ) (own : V) (rest : List V) → drop i all ≡ own ∷ rest
      → (view own).is_denied ≡ false → (P : State) → PositionsHold P (map view all)
      → SaysOfNumbers (view own).is_either (view own).claim P.men
  one_material all i own rest at plain P hold =
      let condition = view own in
      elim hold [
        | inl each ↦ numbers_of P P condition plain (λ is says.
            plain_numbers P condition.is_either condition.claim says)
            (one_of_each P P all i own rest at each)
        | inr each ↦ numbers_of P (mirror P) condition plain (λ is says.
            turned_numbers P condition.is_either condition.claim is says)
            (one_of_each P (mirror P) all i own rest at each)
      ]

-- ---- nowhere

module _ (conditions : List (PositionCondition (List ℕ))) (check stuck : Bool)
    (in_check : IsTrue check → NeedMark mark.Check conditions) (no_move : IsTrue stuck
    → NeedMark mark.Stuck conditions) where
  not_here : (men : Placement) (turn : Side) (Checked Stuck : Type 0)
      → ¬ ((check ≡ true → Checked) × (stuck ≡ true → Stuck))
      → ¬ FitsSeen conditions men turn Checked Stuck
  not_here men turn Checked Stuck lacks =
      λ fits. lacks (
        (λ t. fits.1.check.1 (in_check t fits.0 fits.2)),
        (λ t. fits.1.stuck.1 (no_move t fits.0 fits.2)),
      )

  -- the marks that are needed are shown neither before the codes nor after one of them
  pub shown_nowhere : (men : Placement) (turn : Side) (Checked Stuck : Type 0)
      (codes : List PlyCode) → ¬ ((check ≡ true → Checked) × (stuck ≡ true → Stuck))
      → AllByRecursion (LacksMarks check stuck) codes
      → NowhereSeen (FitsSeen conditions) men turn Checked Stuck codes
  shown_nowhere men turn Checked Stuck [] lacks all = not_here men turn Checked Stuck lacks
  shown_nowhere men turn Checked Stuck (code ∷ codes) lacks all = (
    not_here men turn Checked Stuck lacks,
    shown_nowhere (moved men code) (opposite turn) (IsTrue code.check) (IsTrue code.stuck) codes
        all.0 all.1,
  )

-- what is so of plies, from the last on
pub plies_end : (fact : PlyCode → Type 0) (rest : List ℕ) → length rest < 3
    → AllByRecursion fact (codes_in rest)
plies_end fact rest short = subst (AllByRecursion fact) (sym (below rest short)) tt

pub plies_on : (fact : PlyCode → Type 0) (rest rest' : List ℕ) → 3 ≤ length rest
    → rest' ≡ drop 3 rest → fact (code_of (get_or rest 0 0) (get_or rest 1 0) (get_or rest 2 0))
    → AllByRecursion fact (codes_in rest') → AllByRecursion fact (codes_in rest)
plies_on fact rest rest' long same here later =
    subst (AllByRecursion fact) (sym (three rest long)) (here, rw (← same) later)

-- ---- several plies at once

-- each mark that the byte tells is told by the other one too
abbrev pub IsCovered : ℕ → ℕ → Type 0
IsCovered a any = (a / 64 % 2 ≡ 1 → any / 64 % 2 ≡ 1) × (a ≤ any)

covers_more : (a b d : ℕ) → IsCovered a b → IsCovered b d → IsCovered a d
covers_more a b d first next = (λ one. next.0 (first.0 one), omega (arith, first.1, next.1))

larger : (x y z : ℕ) → z ≡ max x y → x < 2 → y < 2 → (x ≡ 1 → z ≡ 1) × (y ≡ 1 → z ≡ 1)
larger x y z is low_x low_y =
    let top : max x y ≤ 1 = max-le (omega (arith, low_x)) (omega (arith, low_y)) in
    let above_x : x ≤ max x y = le-max_left x y in
    let above_y : y ≤ max x y = le-max_right x y in
    ((λ one. omega (arith, is, top, above_x, one)), (λ one. omega (arith, is, top, above_y, one)))

-- two bytes are covered by their bits together
pub cover_two : (a b : ℕ) → IsCovered a (bit_or a b) × IsCovered b (bit_or a b)
cover_two a b =
    let sixth =
    larger (bit_at a 6) (bit_at b 6) (bit_at (bit_or a b) 6) (bit_at_or a b 6) (bit_at-lt a 6)
    (bit_at-lt b 6) in
    ((sixth.0, le_or_l a b), (sixth.1, le_or_r a b))

-- and four, and eight
pub cover_four : (a b d e : ℕ) → let any = bit_or (bit_or a b) (bit_or d e) in
    IsCovered a any × IsCovered b any × IsCovered d any × IsCovered e any
cover_four a b d e =
    let any = bit_or (bit_or a b) (bit_or d e) in
    let pairs = cover_two (bit_or a b) (bit_or d e) in (
      covers_more a (bit_or a b) any (cover_two a b).0 pairs.0,
      covers_more b (bit_or a b) any (cover_two a b).1 pairs.0,
      covers_more d (bit_or d e) any (cover_two d e).0 pairs.1,
      covers_more e (bit_or d e) any (cover_two d e).1 pairs.1,
    )

checked_too : (a any : ℕ) → IsCovered a any → (a / 64 % 2 == 1) ≡ true → (any / 64 % 2 == 1) ≡ true
checked_too a any covered is = let one : a / 64 % 2 ≡ 1 = grind (arith, nat_tests) in
    ap (λ n. n == 1) (covered.0 one)

stuck_too : (a any : ℕ) → IsCovered a any → (a / 128 == 1) ≡ true → nat_le 128 any ≡ true
stuck_too a any covered is =
    let one : a / 128 ≡ 1 = grind (arith, nat_tests) in
    let far : 128 ≤ any = omega (arith, one, covered.1) in
    grind (arith, nat_tests)

-- what is so of plies from the last on, if they lack a mark that is needed
module _ (check stuck : Bool) (bytes : List ℕ) (so : ℕ → List PlyCode → Type 0)
    (one_more : (j : ℕ) (code : PlyCode) (codes : List PlyCode) → LacksMarks check stuck code
    → so j codes → so (suc j) (code ∷ codes)) where
  -- where a byte that covers the first one of the ply at some place lacks a mark that is needed,
  -- the ply does
  one_covered : (any i j : ℕ)
      → ¬ ((check ≡ true → (any / 64 % 2 == 1) ≡ true) × (stuck ≡ true → nat_le 128 any ≡ true))
      → i + 3 ≤ length bytes
      → IsCovered (get_or bytes i 0) any → so j (codes_in (drop (i + 3) bytes))
      → so (suc j) (codes_in (drop i bytes))
  one_covered any i j lacks long covered later =
      let first : get_or bytes i 0 ≡ get_or (drop i bytes) 0 0 =
      sym (get_or-drop i bytes 0 0 ∙ ap (λ k. get_or bytes k 0) (omega arith)) in
      let its : IsCovered (get_or (drop i bytes) 0 0) any =
      subst (λ a. IsCovered a any) first covered in
      let front = three (drop i bytes) (omega (arith, length-drop i bytes, long)) in
      subst (so (suc j)) (sym front)
      (one_more j _ (codes_in (drop 3 (drop i bytes)))
      (λ both. lacks (
        (λ t. checked_too (get_or (drop i bytes) 0 0) any its (both.0 t)),
        (λ t. stuck_too (get_or (drop i bytes) 0 0) any its (both.1 t)),
      ))
      (subst (λ (left : List ℕ). so j (codes_in left)) (sym (drop-drop 3 i bytes)) later))

  -- eight plies, of which the first bytes together lack a mark that is needed
  pub eight_on : let at : ℕ → ℕ = λ i. get_or bytes i 0 in
      let any = bit_or (bit_or (bit_or (at 0) (at 3)) (bit_or (at 6) (at 9)))
      (bit_or (bit_or (at 12) (at 15)) (bit_or (at 18) (at 21))) in
      (rest : List ℕ) → 24 ≤ length bytes → rest ≡ drop 24 bytes
      → ¬ ((check ≡ true → (any / 64 % 2 == 1) ≡ true) × (stuck ≡ true → nat_le 128 any ≡ true))
      → so 0 (codes_in rest) → so 8 (codes_in bytes)
  eight_on rest long same lacks later =
      let at : ℕ → ℕ = λ i. get_or bytes i 0 in
      let low = bit_or (bit_or (at 0) (at 3)) (bit_or (at 6) (at 9)) in
      let high = bit_or (bit_or (at 12) (at 15)) (bit_or (at 18) (at 21)) in
      let any = bit_or low high in
      let halves = cover_two low high in
      let lows = cover_four (at 0) (at 3) (at 6) (at 9) in
      let highs = cover_four (at 12) (at 15) (at 18) (at 21) in
      one_covered any 0 7 lacks (omega (arith, long)) (covers_more (at 0) low any lows.0 halves.0)
      (one_covered any 3 6 lacks (omega (arith, long)) (covers_more (at 3) low any lows.1 halves.0)
      (one_covered any 6 5 lacks (omega (arith, long)) (covers_more (at 6) low any lows.2 halves.0)
      (one_covered any 9 4 lacks (omega (arith, long)) (covers_more (at 9) low any lows.3 halves.0)
      (one_covered any 12 3 lacks (omega (arith, long))
      (covers_more (at 12) high any highs.0 halves.1)
      (one_covered any 15 2 lacks (omega (arith, long))
      (covers_more (at 15) high any highs.1 halves.1)
      (one_covered any 18 1 lacks (omega (arith, long))
      (covers_more (at 18) high any highs.2 halves.1)
      (one_covered any 21 0 lacks (omega (arith, long))
      (covers_more (at 21) high any highs.3 halves.1)
      (subst (λ (left : List ℕ). so 0 (codes_in left)) same later))))))))

-- what follows from one of two facts is nowhere where both are
seen_either : (first second other : Placement → Side → Type 0 → Type 0
    → Type 0) (men : Placement) (turn : Side) (Checked Stuck : Type 0) (codes : List PlyCode)
    → ((p : Placement) (t : Side) (A B : Type 0) → other p t A B → first p t A B ⊎ second p t A B)
    → NowhereSeen first men turn Checked Stuck codes
    → NowhereSeen second men turn Checked Stuck codes
    → NowhereSeen other men turn Checked Stuck codes
seen_either first second other men turn Checked Stuck [] parts one two =
    λ has. elim (parts men turn Checked Stuck has) [ inl h ↦ one h | inr h ↦ two h ]
seen_either first second other men turn Checked Stuck (code ∷ codes) parts one two = (
  λ has. elim (parts men turn Checked Stuck has) [ inl h ↦ one.0 h | inr h ↦ two.0 h ],
  seen_either first second other (moved men code) (opposite turn) (IsTrue code.check)
      (IsTrue code.stuck) codes parts one.1 two.1,
)

-- where the conditions hold only with a fact of the men, they hold nowhere where it is nowhere
pub placed_of : (fact : Placement → Type 0) (conditions : List (PositionCondition (List ℕ)))
    → ((P : State) → PositionsHold P conditions → fact P.men) → (men : Placement) (turn : Side)
    (Checked Stuck : Type 0) (codes : List PlyCode) → Nowhere fact men codes
    → NowhereSeen (FitsSeen conditions) men turn Checked Stuck codes
placed_of fact conditions only men turn Checked Stuck [] none =
    λ fits. none (subst fact (sym fits.1.men) (only fits.0 fits.2))
placed_of fact conditions only men turn Checked Stuck (code ∷ codes) none = (
  λ fits. none.0 (subst fact (sym fits.1.men) (only fits.0 fits.2)),
  placed_of fact conditions only (moved men code) (opposite turn) (IsTrue code.check)
      (IsTrue code.stuck) codes none.1,
)

pub placed_seen : (conditions : List (PositionCondition (List ℕ))) (men : Placement) (turn : Side)
    (Checked Stuck : Type 0) (codes : List PlyCode) → Nowhere (FitsPlaced conditions) men codes
    → NowhereSeen (FitsSeen conditions) men turn Checked Stuck codes
placed_seen conditions = placed_of (FitsPlaced conditions) conditions (λ P all. (P, refl, all))

-- where no alternative is left, nothing meets them
pub none_seen : (men : Placement) (turn : Side) (Checked Stuck : Type 0) (codes : List PlyCode)
    → NowhereSeen (MeetsSeen []) men turn Checked Stuck codes
none_seen men turn Checked Stuck [] = λ meets. meets.5
none_seen men turn Checked Stuck (code ∷ codes) = (
  (λ meets. meets.5),
  none_seen (moved men code) (opposite turn) (IsTrue code.check) (IsTrue code.stuck) codes,
)

-- one alternative that holds nowhere is passed over
pub one_nowhere : (left more : List Conditions) (own : Conditions) → left ≡ on_positions own ∷ more
    → (men : Placement) (turn : Side)
    (Checked Stuck : Type 0) (codes : List PlyCode)
    → NowhereSeen (FitsSeen own.positions) men turn Checked Stuck codes
    → NowhereSeen (MeetsSeen more) men turn Checked Stuck codes
    → NowhereSeen (MeetsSeen left) men turn Checked Stuck codes
one_nowhere left more own is men turn Checked Stuck codes here there =
    seen_either (FitsSeen own.positions) (MeetsSeen more) (MeetsSeen left) men turn Checked Stuck
    codes
    (λ p t A B meets. parted p t A B (subst (λ criteria. MeetsSeen criteria p t A B) is meets)) here
    there
  where
    parted : (p : Placement) (t : Side) (A B : Type 0) → MeetsSeen (on_positions own ∷ more) p t A B
        → FitsSeen own.positions p t A B ⊎ MeetsSeen more p t A B
    parted p t A B (P, seen, heading, replay, ply, hold) = elim hold [
      | inl first ↦ inl (P, seen, (positions_met heading replay ply P own).0 first)
      | inr rest ↦ inr (P, seen, heading, replay, ply, rest)
    ]
