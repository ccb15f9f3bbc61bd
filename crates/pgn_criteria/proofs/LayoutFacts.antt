-- What patterns ask of squares, as it is laid out.
use Rattle.std.proofs.Math.ListN.{get_or-append}
use Rattle.std.proofs.lemmas.List.{get_or-drop, take-append-drop, drop-drop, length-take}
use Rattle.pgn_criteria.proofs.Common.{◌≡◌, ◌↔◌, ◌≤◌, ◌<◌, ◌+◌, ◌-◌, ℕ, zero, suc, Bool, true, List}
use Rattle.pgn_criteria.proofs.Common.{[], ◌∷◌, ◌++◌, length, take, drop, get_or, Option, Some}
use Rattle.pgn_criteria.proofs.Common.{None, IsTrue, refl, sym, ap, ◌∙◌, subst, arith, inl, inr}
use Rattle.pgn_criteria.proofs.Common.{length-drop, cases_lt, row, Place, Placement, man_at, Man}
use Rattle.pgn_criteria.proofs.Common.{CanBeSplit, items_of, IsOf, EachOf, Reads, IsNextItem}
use Rattle.pgn_criteria.proofs.Common.{has_man, Kind, King, Queen, Rook, Bishop, Knight, Pawn}
use Rattle.pgn_criteria.proofs.Common.{White, Black, Other, Asked, Layout, SquareTest, Run, Many}
use Rattle.pgn_criteria.specs.Private.Layouts.{AllStand, AreEmpty, EachFrom, Extends, Lays, NoneOf}
use Rattle.pgn_criteria.specs.declared.rank.Men.{Men}
use Rattle.pgn_criteria.proofs.NeedFacts.{after_own, left_then, left_at_end}

-- nothing is laid out yet
pub lays_start : {T : Type 0} {Sound : T → Type 0} {Stands : Placement → T
    → Type 0} (whole : Placement → Type 0) (old : T) → Extends Sound Stands whole whole old old true
lays_start whole old =
    record {
      sound = λ s. s;
      needed = λ p laid all. (laid, all);
      enough = λ so p laid all. (laid, all);
    }

-- one fact more
pub lays_step : {T : Type 0} {Sound : T → Type 0} {Stands : Placement → T
    → Type 0} (whole rest fact more : Placement → Type 0) (a b c : T) (r s t : Bool)
    → Extends Sound Stands whole rest a b r → Extends Sound Stands fact (λ p. Unit {0}) b c s
    → ((p : Placement) → rest p ↔ (fact p × more p)) → (IsTrue t → IsTrue r × IsTrue s)
    → Extends Sound Stands whole more a c t
lays_step whole rest fact more a b c r s t first next parts both = record {
  sound = λ is. next.sound (first.sound is);
  needed = λ p laid all.
      let one = first.needed p laid all in
      let two = (parts p).0 one.1 in
      ((next.needed p one.0 two.0).0, two.1);
  enough = λ so p laid left.
      let two = next.enough (both so).1 p laid tt in
      first.enough (both so).0 p two.0 ((parts p).1 (two.1, left));
}

-- what is left says the same
pub lays_same : (whole rest more : Placement → Type 0) (a b : Layout) (r : Bool)
    → Lays whole rest a b r → ((p : Placement) → rest p ↔ more p) → Lays whole more a b r
lays_same whole rest more a b r first same = record {
  sound = first.sound;
  needed = λ p laid all. let one = first.needed p laid all in (one.0, (same p).0 one.1);
  enough = λ so p laid left. first.enough so p laid ((same p).1 left);
}

-- nothing is left, or it is not all
pub lays_end : {T : Type 0} {Sound : T → Type 0} {Stands : Placement → T
    → Type 0} (whole rest : Placement → Type 0) (a b : T) (r s : Bool)
    → Extends Sound Stands whole rest a b r → (IsTrue s → IsTrue r × ((p : Placement) → rest p))
    → Extends Sound Stands whole (λ p. Unit {0}) a b s
lays_end whole rest a b r s first ends = record {
  sound = first.sound;
  needed = λ p laid all. ((first.needed p laid all).0, tt);
  enough = λ so p laid left. first.enough (ends so).0 p laid ((ends so).1 p);
}

-- a square more on which something must stand
pub stand_more : (men : Placement) (all : List Asked) (one : Asked)
    → AllStand men (all ++ one ∷ []) ↔ (AllStand men all × IsOf one.class (man_at men one.square))
stand_more men [] one = (λ stand. (tt, stand.0), λ both. (both.1, tt))
stand_more men (first ∷ more) one =
    let there = stand_more men more one in (
      λ stand. ((stand.0, (there.0 stand.1).0), (there.0 stand.1).1),
      λ both. (both.0.0, there.1 (both.0.1, both.1)),
    )

pub lays_asked : (old new : Layout) (class : SquareTest) (square : Place) (one : Asked)
    → one.class ≡ class → one.square ≡ square → new.asked.items ≡ old.asked.items ++ one ∷ []
    → new.barred.items ≡ old.barred.items → new.empty ≡ old.empty
    → Lays (λ p. IsOf class (man_at p square)) (λ p. Unit {0}) old new true
lays_asked old new class square one is at items barred empty = record {
  sound = λ s. tt;
  needed = λ p laid here. (
    (
      subst (AllStand p) (sym items)
          ((stand_more p old.asked.items one).1
          (laid.0, rw is (subst (λ s. IsOf class (man_at p s)) (sym at) here))),
      subst (AllStand p) (sym barred) laid.1,
      subst (AreEmpty p) (sym empty) laid.2,
    ),
    tt,
  );
  enough = λ so p laid left.
      let both = (stand_more p old.asked.items one).0 (subst (AllStand p) items laid.0) in (
        (both.0, subst (AllStand p) barred laid.1, subst (AreEmpty p) empty laid.2),
        rw (← at) (subst (λ c. IsOf c (man_at p one.square)) is both.1),
      );
}

-- a square more on which a man must not stand, if that is so
pub lays_barred : (old new : Layout) (class : SquareTest) (square : Place) (one : Asked)
    → one.class ≡ class → one.square ≡ square → new.barred.items ≡ old.barred.items ++ one ∷ []
    → new.asked.items ≡ old.asked.items → new.empty ≡ old.empty
    → Lays (λ p. IsTrue true → IsOf class (man_at p square)) (λ p. Unit {0}) old new true
lays_barred old new class square one is at items asked empty = record {
  sound = λ s. tt;
  needed = λ p laid here. (
    (
      subst (AllStand p) (sym asked) laid.0,
      subst (AllStand p) (sym items)
          ((stand_more p old.barred.items one).1 (
            laid.1,
            rw is (subst (λ s. IsOf class (man_at p s)) (sym at) (here refl)),
          )),
      subst (AreEmpty p) (sym empty) laid.2,
    ),
    tt,
  );
  enough = λ so p laid left.
      let both = (stand_more p old.barred.items one).0 (subst (AllStand p) items laid.1) in (
        (subst (AllStand p) asked laid.0, both.0, subst (AreEmpty p) empty laid.2),
        λ t. rw (← at) (subst (λ c. IsOf c (man_at p one.square)) is both.1),
      );
}

-- two facts, one after the other, and the same fact in other words
pub lays_both : {T : Type 0} {Sound : T → Type 0} {Stands : Placement → T
    → Type 0} (first second : Placement → Type 0) (a b c : T)
    → Extends Sound Stands first (λ p. Unit {0}) a b true
    → Extends Sound Stands second (λ p. Unit {0}) b c true
    → Extends Sound Stands (λ p. first p × second p) (λ p. Unit {0}) a c true
lays_both first second a b c one two = record {
  sound = λ s. two.sound (one.sound s);
  needed = λ p laid both. two.needed p (one.needed p laid both.0).0 both.1;
  enough = λ so p laid left. let back = two.enough refl p laid tt in let front =
      one.enough refl p back.0 tt in (front.0, (front.1, back.1));
}

pub lays_like : {T : Type 0} {Sound : T → Type 0} {Stands : Placement → T
    → Type 0} (whole other : Placement → Type 0) (a b : T) → ((p : Placement) → whole p ↔ other p)
    → Extends Sound Stands whole (λ p. Unit {0}) a b true
    → Extends Sound Stands other (λ p. Unit {0}) a b true
lays_like whole other a b same first = record {
  sound = first.sound;
  needed = λ p laid all. first.needed p laid ((same p).1 all);
  enough = λ so p laid left. let back = first.enough so p laid left in (back.0, (same p).0 back.1);
}

-- a fact of each kind
pub each_kind : (F : Kind → Type 0)
    → (((((F Pawn × F Knight) × F Bishop) × F Rook) × F Queen) × F King) ↔ ((kind : Kind) → F kind)
each_kind F = (
  λ all kind. elim kind as (λ k.
      F k) [
        | Pawn ↦ all.0.0.0.0.0
        | Knight ↦ all.0.0.0.0.1
        | Bishop ↦ all.0.0.0.1
        | Rook ↦ all.0.0.1
        | Queen ↦ all.0.1
        | King ↦ all.1
      ],
  λ each. (((((each Pawn, each Knight), each Bishop), each Rook), each Queen), each King),
)

-- no man of either side
pub both_sides : (men : Men) (square : Option Man)
    → (NoneOf White men.white square × NoneOf Black men.black square) ↔ IsOf (Other men) square
both_sides men square = (
  λ both man. elim man.side as (λ side.
      IsTrue (has_man men (record { side = side; kind = man.kind }))
      → square ≡ Some (record { side = side; kind = man.kind }) → ⊥) [
        | White ↦ both.0 man.kind
        | Black ↦ both.1 man.kind
      ],
  λ none. (
    λ kind has is. none (record { side = White; kind = kind }) has is,
    λ kind has is. none (record { side = Black; kind = kind }) has is,
  ),
)

-- one square of a run, and those after it
pub each_step : (men : Placement) (class : SquareTest) (rank before step count : ℕ) → step < count
    → EachFrom men class rank before step count
    ↔ (IsOf class (man_at men (record { file = before + step + 1; rank = rank }))
    × EachFrom men class rank before (step + 1) count)
each_step men class rank before step count less = (
  λ each. (each step (omega arith) less, λ k low high. each k (omega arith) high),
  λ both k low high. elim (cases_lt step k) [
    | inl after ↦ both.1 k (omega arith) high
    | inr here ↦ let same : step ≡ k = omega arith in
        rw (← same) both.0
  ],
)

-- squares of a rank
get_row : (men : Placement) (rank n : ℕ) → n ≤ 7
    → get_or (row men rank) n None ≡ man_at men (record { file = n + 1; rank = rank })
get_row men rank zero low = refl
get_row men rank (suc zero) low = refl
get_row men rank (suc (suc zero)) low = refl
get_row men rank (suc (suc (suc zero))) low = refl
get_row men rank (suc (suc (suc (suc zero)))) low = refl
get_row men rank (suc (suc (suc (suc (suc zero))))) low = refl
get_row men rank (suc (suc (suc (suc (suc (suc zero)))))) low = refl
get_row men rank (suc (suc (suc (suc (suc (suc (suc zero))))))) low = refl
get_row men rank (suc (suc (suc (suc (suc (suc (suc (suc n)))))))) low = absurd (omega arith)

each_at : (class : SquareTest) (own : List (Option Man)) (k : ℕ) → k < length own → EachOf class own
    → IsOf class (get_or own k None)
each_at class [] k less each = absurd (omega arith)
each_at class (square ∷ more) zero less each = each.0
each_at class (square ∷ more) (suc k) less each = each_at class more k (omega arith) each.1

each_of : (class : SquareTest) (squares : List (Option Man)) (n : ℕ) → n ≤ length squares
    → ((k : ℕ) → k < n → IsOf class (get_or squares k None)) → EachOf class (take n squares)
each_of class squares zero low each = tt
each_of class [] (suc n) low each = absurd (omega arith)
each_of class (square ∷ more) (suc n) low each = (
  each 0 (omega arith),
  each_of class more n (omega arith) (λ k less. each (suc k) (omega arith)),
)

-- an item of a fixed size takes squares that are known
pub run_split : (men : Placement) (rank taken count : ℕ) (b : List ℕ) (class : SquareTest)
    (after : List (List ℕ)) → Reads b (Run class count) → taken + count ≤ 8
    → CanBeSplit (b ∷ after) (drop taken (row men rank))
    ↔ (EachFrom men class rank taken 0 count
    × CanBeSplit after (drop (taken + count) (row men rank)))
run_split men rank taken count b class after is room = (
  λ split.
      let fits = (is.1 split.0).0 split.3 in (
        λ k low less.
            let at = ap (λ x. get_or x k None) split.2
            ∙ get_or-append split.0 split.1 None k (omega (arith, fits.0)) in
            subst (IsOf class) (sym at ∙ get_or-drop taken (row men rank) k None
            ∙ get_row men rank (taken + k) (omega arith))
            (each_at class split.0 k (omega (arith, fits.0)) fits.1),
        subst (CanBeSplit after)
            (sym (after_own (row men rank) taken count split.0 split.1 split.2 fits.0)) split.4,
      ),
  λ both.
      let squares = drop taken (row men rank) in
      let size : count ≤ length squares = omega (arith, length-drop taken (row men rank)) in (
        take count squares,
        drop (taken + count) (row men rank),
        sym (take-append-drop count squares)
            ∙ ap (λ x. take count squares ++ x) (drop-drop count taken (row men rank)),
        (is.1 (take count squares)).1 (
          omega (arith, length-take count squares),
          each_of class squares count size
              (λ k less.
              subst (IsOf class) (sym (get_or-drop taken (row men rank) k None
              ∙ get_row men rank (taken + k) (omega arith))) (both.0 k (omega arith) less)),
        ),
        both.1,
      ),
)

-- the last * leaves what the items after it take
pub many_split : (men : Placement) (rank taken size : ℕ) (b : List ℕ) (after : List (List ℕ))
    → Reads b Many → size ≤ 8 → taken ≤ 8 - size
    → ((own : List (Option Man)) → CanBeSplit after own → length own ≡ size)
    → CanBeSplit (b ∷ after) (drop taken (row men rank))
    ↔ CanBeSplit after (drop (8 - size) (row men rank))
many_split men rank taken size b after is small low sized = (
  λ split. left_at_end (row men rank) after size refl small sized
      (left_then (row men rank) b after (taken, omega arith, split)),
  λ split.
      let squares = drop taken (row men rank) in
      let n = 8 - size - taken in
      let at : taken + n ≡ 8 - size = omega arith in (
        take n squares,
        drop (8 - size) (row men rank),
        sym (take-append-drop n squares)
            ∙ ap (λ x. take n squares ++ x) (drop-drop n taken (row men rank)
            ∙ ap (λ k. drop k (row men rank)) at),
        (is.1 (take n squares)).1 tt,
        split,
      ),
)

-- the same of the first of some items
pub next_run : (men : Placement) (rank taken count : ℕ) (items after : List ℕ) (class : SquareTest)
    → IsNextItem items (Run class count) after → taken + count ≤ 8
    → CanBeSplit (items_of items) (drop taken (row men rank))
    ↔ (EachFrom men class rank taken 0 count
    × CanBeSplit (items_of after) (drop (taken + count) (row men rank)))
next_run men rank taken count items after class next room =
    rw next.cut (run_split men rank taken count next.text class (items_of after) next.reads room)

pub next_many : (men : Placement) (rank taken size : ℕ) (items after : List ℕ)
    → IsNextItem items Many after → size ≤ 8 → taken ≤ 8 - size
    → ((own : List (Option Man)) → CanBeSplit (items_of after) own → length own ≡ size)
    → CanBeSplit (items_of items) (drop taken (row men rank))
    ↔ CanBeSplit (items_of after) (drop (8 - size) (row men rank))
next_many men rank taken size items after next small low sized =
    rw next.cut (many_split men rank taken size next.text (items_of after) next.reads small low
    sized)
