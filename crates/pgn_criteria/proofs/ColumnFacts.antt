-- The plies at which several alternatives fit, told by the bits of numbers.
use mir.Syntax.{w64}
use Rattle.std.proofs.Common.{take-add}
use Rattle.std.proofs.lemmas.Nat.Bits.{bit_at-zero, bit_at_set_same, bit_at_set_other}
use Rattle.pgn_criteria.proofs.Common.{◌≡◌, ◌↔◌, ◌==◌, ◌+◌, ◌*◌, ◌%◌, ◌^◌, ◌<◌, ◌≤◌, ◌++◌, ℕ}
use Rattle.pgn_criteria.proofs.Common.{bit_at, bit_or, inl, inr, false, List, [], ◌∷◌, length}
use Rattle.pgn_criteria.proofs.Common.{Some, IsTrue, sym, ap, ◌∙◌, subst, arith, cases_eq}
use Rattle.pgn_criteria.proofs.Common.{map-append, slice_get, State, Replay, Conditions, FitsAt}
use Rattle.pgn_criteria.proofs.Common.{◌⊎◌, ◌-◌, Bool, drop, length-drop, take_all}
use Rattle.pgn_criteria.proofs.Common.{take-append-drop, get_or, map, take, append_assoc, Heading}
use Rattle.pgn_criteria.proofs.Common.{AreMet, Meets, FitsAbout}
use Rattle.chess.specs.Public.Sets.{has_bit}
use Rattle.chess.specs.declared.moves.Move.{Move as OneMove}
use Rattle.pgn_criteria.proofs.TurnAbout.{told_end, told_on}
use Rattle.pgn_criteria.proofs.MeetFacts.{alternatives_to}
use Rattle.pgn_criteria.proofs.StageFacts.{met_added}
use Rattle.pgn_criteria.specs.Private.Stages.{AllOfGame, EachIs}
use Rattle.pgn_criteria.specs.Private.Told.{AreBits, AreTold, AreToldOf, EachColumn, IsTold}
use Rattle.pgn_criteria.specs.Private.Told.{StartsWith, column}

-- ---- the bits of one number

-- so many first bits are right
abbrev pub FirstBits : {A : Type 0} → List A → (A → Type 0) → ℕ → ℕ → Type 0
FirstBits {A} asked Such place own = (i : ℕ) (one : A) → i < place → slice_get asked i ≡ Some one
    → IsTrue (has_bit own i) ↔ Such one

pub no_bit : (i : ℕ) → has_bit 0 i ≡ false
no_bit i = ap (λ n. n == 1) (bit_at-zero i)

module _ {A : Type 0} (asked : List A) (Such : A → Type 0) (one : A) (place own : ℕ)
    (here : slice_get asked place ≡ Some one) (first : FirstBits asked Such place own) where
  -- one more that is set
  pub bit_put : place < 64 → Such one
      → FirstBits asked Such (place + 1) (bit_or own (1 * 2 ^ place % 2 ^ 64))
  bit_put within such i other less at = elim (cases_eq i place) [
    | inl same ↦
        let is : one ≡ other = cc (here, subst (λ n. slice_get asked n ≡ Some other) same at) in (
          λ t. subst Such is such,
          λ so. ap (λ n. bit_at (bit_or own (1 * 2 ^ place % 2 ^ 64)) n == 1) same
              ∙ ap (λ n. n == 1) (bit_at_set_same w64 own place within),
        )
    | inr differs ↦
        let same = ap (λ n. n == 1) (bit_at_set_other w64 own place within i differs) in
        let old = first i other (omega (arith, less, differs)) at in
        (λ t. old.0 (sym same ∙ t), λ so. same ∙ old.1 so)
  ]

  -- one that is not
  pub bit_left : has_bit own place ≡ false → (Such one → ⊥)
      → FirstBits asked Such (place + 1) own
  bit_left none fails i other less at = elim (cases_eq i place) [
    | inl same ↦
        let is : one ≡ other = cc (here, subst (λ n. slice_get asked n ≡ Some other) same at) in
        let bit : has_bit own i ≡ false = ap (has_bit own) same ∙ none in (
          λ t. absurd (cc (t, bit)),
          λ so. absurd (fails (subst Such (sym is) so)),
        )
    | inr differs ↦ first i other (omega (arith, less, differs)) at
  ]

-- those above stay away
pub none_above : (place own : ℕ) → place < 64 → ((i : ℕ) → place ≤ i → has_bit own i ≡ false)
    → (i : ℕ) → place + 1 ≤ i → has_bit (bit_or own (1 * 2 ^ place % 2 ^ 64)) i ≡ false
none_above place own within none i above =
    ap (λ n. n == 1) (bit_at_set_other w64 own place within i (λ e. omega (arith, e, above)))
    ∙ none i (omega (arith, above))

-- ---- the bits of several numbers

pub column_more : (place : ℕ) (fits new : List ℕ) (own : ℕ) → new ≡ fits ++ own ∷ []
    → column place new ≡ column place fits ++ has_bit own place ∷ []
column_more place fits new own is =
    ap (column place) is ∙ map-append (λ n. has_bit n place) fits (own ∷ [])

module _ {A : Type 0} (view : A → Conditions) (asked : List A) (before : List State)
    (played : List OneMove) (P : State) (even : length played ≡ length before)
    (fits new : List ℕ) (own : ℕ)
    (so_far : EachColumn asked
    (λ a told. AreToldOf (view a) (length before) (StartsWith before played) told) fits)
    (items : new ≡ fits ++ own ∷ []) where
  -- one more ply
  pub columns_on : (m : OneMove)
      → ((replay : Replay) → StartsWith (before ++ P ∷ []) (played ++ m ∷ []) replay
      → AreBits asked (λ a. FitsAt replay (view a) (length before)) own)
      → EachColumn asked (λ a told. AreToldOf (view a) (length (before ++ P ∷ []))
      (StartsWith (before ++ P ∷ []) (played ++ m ∷ [])) told) new
  columns_on m here i one at =
      told_on before played P even (view one) (column i fits) (column i new) (has_bit own i)
      (so_far i one at) (column_more i fits new own items) m
      (λ replay starts. here replay starts i one at)

  -- the last
  pub columns_end : (replay : Replay) → replay.positions ≡ before ++ P ∷ []
      → replay.played ≡ played → AreBits asked (λ a. FitsAt replay (view a) (length before)) own
      → EachColumn asked (λ a told. AreTold (FitsAt replay (view a)) told) new
  columns_end replay positions moves here i one at =
      (told_end before played P even (view one) (column i fits) (column i new) (has_bit own i)
      (so_far i one at) (column_more i fits new own items) replay positions moves
      (here i one at)).1

-- ---- what each of the alternatives is

pub each_more : (Such : Conditions → Type 0) (asked : List Conditions) (own : Conditions)
    → EachIs Such asked → Such own → EachIs Such (asked ++ own ∷ [])
each_more Such [] own all such = (such, tt)
each_more Such (first ∷ more) own all such = (all.0, each_more Such more own all.1 such)

pub each_parted : (Such : Conditions → Type 0) (asked others : List Conditions)
    → EachIs Such (asked ++ others) → EachIs Such asked × EachIs Such others
each_parted Such [] others all = (tt, all)
each_parted Such (first ∷ more) others all =
    let rest = each_parted Such more others all.1 in ((all.0, rest.0), rest.1)

pub one_list : {A : Type 0} (xs : List A) (x : A) → x ≡ get_or xs 0 x → 1 ≤ length xs
    → length xs < 2 → xs ≡ x ∷ []
one_list [] x is some few = absurd (omega (arith, some))
one_list (first ∷ []) x is some few = ap (λ a. a ∷ []) (sym is)
one_list (first ∷ second ∷ more) x is some few = absurd (omega (arith, few))

-- ---- the plies that some of the alternatives meet

-- the answers for more of them
pub met_more : {A : Type 0} (view : A → Conditions) (heading : Heading) (replay : Replay)
    (before : List Conditions) (all : List A) (i : ℕ) (own : A) (told old new : List Bool)
    → i < length all → own ≡ get_or all i own → AllOfGame heading replay (view own)
    → AreTold (FitsAbout replay (view own)) told → length new ≡ length old
    → ((ply : ℕ) → ply < length old → IsTrue (get_or new ply false)
    ↔ (IsTrue (get_or old ply false) ⊎ IsTold told ply))
    → AreMet heading replay (before ++ map view (take i all)) old
    → AreMet heading replay (before ++ map view (take (i + 1) all)) new
met_more view heading replay before all i own told old new within is of_game are size reports met =
    let front = map view (take i all) in
    let more : map view (take (i + 1) all) ≡ front ++ view own ∷ [] =
    ap (map view) (alternatives_to all i own within is) ∙ map-append view (take i all) (own ∷ []) in
    let whole : (before ++ front) ++ view own ∷ [] ≡ before ++ map view (take (i + 1) all) =
    append_assoc before front (view own ∷ []) ∙ ap (λ xs. before ++ xs) (sym more) in
    subst (λ xs. AreMet heading replay xs new) whole
    (met_added heading replay (before ++ front) (view own) old new of_game size
    (λ ply less. (
      λ t. elim ((reports ply less).0 t) [ inl so ↦ inl so | inr now ↦ inr ((are ply).0 now) ],
      λ so. (reports ply less).1
          (elim so [ inl old_so ↦ inl old_so | inr fits ↦ inr ((are ply).1 fits) ]),
    )) met)

-- they are those of other alternatives that the same plies meet
pub met_as : (heading : Heading) (replay : Replay) (asked whole : List Conditions) (met : List Bool)
    → ((ply : ℕ) → Meets heading replay ply asked ↔ Meets heading replay ply whole)
    → AreMet heading replay asked met → AreMet heading replay whole met
met_as heading replay asked whole met same are = record {
  each = are.each;
  reports = λ ply is here. (
    λ t. (same ply).0 ((are.reports ply is here).0 t),
    λ meets. (are.reports ply is here).1 ((same ply).1 meets),
  );
}

-- the first ones, and those that follow
pub taken_to : {A : Type 0} (view : A → Conditions) (all : List A) (at end : ℕ) → at ≤ end
    → map view (take end all) ≡ map view (take at all) ++ map view (take (end - at) (drop at all))
taken_to view all at end up =
    let whole : end ≡ at + (end - at) = omega (arith, up) in
    ap (λ n. map view (take n all)) whole ∙ ap (map view) (take-add at (end - at) all)
    ∙ map-append view (take at all) (take (end - at) (drop at all))

pub taken_rest : {A : Type 0} (view : A → Conditions) (all : List A) (at : ℕ)
    → map view all
    ≡ map view (take at all) ++ map view (take (length all - at) (drop at all))
taken_rest view all at =
    ap (map view) (sym (take-append-drop at all))
    ∙ map-append view (take at all) (drop at all)
    ∙ ap (λ xs. map view (take at all) ++ map view xs)
    (sym (take_all (length all - at) (drop at all)
    (let size = length-drop at all in omega (arith, size))))

-- what is added by one replay is added by each
pub added_met : (replay other : Replay) → other ≡ replay → (heading : Heading)
    (before asked : List Conditions) (old new : List Bool)
    → ((heading : Heading) (before : List Conditions) → EachIs (AllOfGame heading other) asked
    → AreMet heading other before old → AreMet heading other (before ++ asked) new)
    → EachIs (AllOfGame heading replay) asked → AreMet heading replay before old
    → AreMet heading replay (before ++ asked) new
added_met replay other same heading before asked old new adds =
    subst (λ r. EachIs (AllOfGame heading r) asked → AreMet heading r before old
    → AreMet heading r (before ++ asked) new) same (adds heading before)
