-- Which games can meet criteria by their headings.
use Rattle.std.proofs.lemmas.List.Elements.{Contains-append_right}
use Rattle.std.specs.List.{Contains}
use Rattle.pgn_criteria.proofs.Common.{◌≡◌, ◌↔◌, ◌⊎◌, ℕ, zero, suc, Bool, true, false, List}
use Rattle.pgn_criteria.proofs.Common.{[], ◌∷◌, IsTrue, refl, sym, subst, inl, inr, arith}
use Rattle.pgn_criteria.proofs.Common.{parted_at, State, Settled, settled_like, settled_both}
use Rattle.pgn_criteria.proofs.Common.{settled_either, cases_bytes, Replay, Heading, Conditions}
use Rattle.pgn_criteria.proofs.Common.{Taken, AllTaken, IsSoOfGame, SomeHold, Meets, AllOfHeading}
use Rattle.pgn_criteria.proofs.Common.{Stated, GameClaim, Tag, Moves, Plies, Result}
use Rattle.pgn_criteria.specs.Private.Stages.{SaysOfHeading}
use Rattle.pgn_criteria.specs.Public.Headings.{FitsHeading, MayMeet, is_on_heading}
use Rattle.pgn_criteria.proofs.MeetSettled.{settled_one_of, settled_taken}

none_in : {A : Type 0} (x : A) → Contains [] x → ⊥
none_in x (k, less, is) = omega arith

in_front : {A : Type 0} (first : A) (more : List A) (x : A) → Contains (first ∷ more) x
    → (first ≡ x) ⊎ Contains more x
in_front first more x (zero, less, is) = inl is
in_front first more x (suc k, less, is) = inr (k, omega arith, is)

one_after : {A : Type 0} (first : A) (more : List A) (x : A) → Contains more x
    → Contains (first ∷ more) x
one_after first more x has = Contains-append_right (first ∷ []) more x has

-- ---- one alternative

-- a game of which no move is known
nowhere : Replay
nowhere = record { positions = []; played = []; turns = [] }

-- what a claim on the heading says is the same of all moves
said : (heading : Heading) (denied : Bool) (claim : GameClaim (List ℕ)) (replay : Replay)
    → is_on_heading claim ≡ true → SaysOfHeading heading denied claim
    → Taken denied (IsSoOfGame heading replay claim)
said heading denied (Tag names value) replay on says = says
said heading denied (Moves words) replay on says = absurd (cc)
said heading denied (Plies comparison count) replay on says = absurd (cc)
said heading denied (Result result) replay on says = says

says : (heading : Heading) (denied : Bool) (claim : GameClaim (List ℕ))
    → (is_on_heading claim ≡ true → (replay : Replay)
    → Taken denied (IsSoOfGame heading replay claim)) → SaysOfHeading heading denied claim
says heading denied (Tag names value) fits = fits refl nowhere
says heading denied (Moves words) fits = tt
says heading denied (Plies comparison count) fits = tt
says heading denied (Result result) fits = fits refl nowhere

-- the conditions on the heading hold, one by one
abbrev EachFits : Heading → List (Stated (GameClaim (List ℕ))) → Type 0
EachFits heading games =
    (one : Stated (GameClaim (List ℕ))) → Contains games one → is_on_heading one.claim ≡ true
    → (replay : Replay) → Taken one.is_denied (IsSoOfGame heading replay one.claim)

each_fits : (heading : Heading) (games : List (Stated (GameClaim (List ℕ))))
    → AllOfHeading heading games → EachFits heading games
each_fits heading [] all one has on replay = absurd (none_in one has)
each_fits heading (first ∷ more) all one has on replay = elim (in_front first more one has) [
  | inl is ↦ said heading one.is_denied one.claim replay on
      (subst (λ (o : Stated (GameClaim (List ℕ))). SaysOfHeading heading o.is_denied o.claim) is
      all.0)
  | inr later ↦ each_fits heading more all.1 one later on replay
]

all_fit : (heading : Heading) (games : List (Stated (GameClaim (List ℕ))))
    → EachFits heading games → AllOfHeading heading games
all_fit heading [] fits = tt
all_fit heading (first ∷ more) fits = (
  says heading first.is_denied first.claim (fits first (0, omega arith, refl)),
  all_fit heading more (λ one has. fits one (one_after first more one has)),
)

pub fits_all : (heading : Heading) (asked : Conditions)
    → AllOfHeading heading asked.games ↔ FitsHeading heading asked
fits_all heading asked = (each_fits heading asked.games, all_fit heading asked.games)

-- where they are so of a game, they are so of each with its heading
moved : (heading : Heading) (denied : Bool) (claim : GameClaim (List ℕ)) (replay other : Replay)
    → is_on_heading claim ≡ true → Taken denied (IsSoOfGame heading replay claim)
    → Taken denied (IsSoOfGame heading other claim)
moved heading denied (Tag names value) replay other on taken = taken
moved heading denied (Moves words) replay other on taken = absurd (cc)
moved heading denied (Plies comparison count) replay other on taken = absurd (cc)
moved heading denied (Result result) replay other on taken = taken

taken_fits : (heading : Heading) (replay : Replay) (games : List (Stated (GameClaim (List ℕ))))
    → AllTaken (IsSoOfGame heading replay) games → EachFits heading games
taken_fits heading replay [] all one has on other = absurd (none_in one has)
taken_fits heading replay (first ∷ more) all one has on other =
    elim (in_front first more one has) [
      | inl is ↦ moved heading one.is_denied one.claim replay other on
          (subst (λ (o : Stated (GameClaim (List ℕ))).
          Taken o.is_denied (IsSoOfGame heading replay o.claim)) is all.0)
      | inr later ↦ taken_fits heading replay more all.1 one later on other
    ]

-- ---- alternatives

one_may : (heading : Heading) (first : Conditions) (more : List Conditions)
    → FitsHeading heading first ⊎ MayMeet heading more → MayMeet heading (first ∷ more)
one_may heading first more (inl fits) = (first, (0, omega arith, refl), fits)
one_may heading first more (inr (asked, has, fits)) = (asked, one_after first more asked has, fits)

first_or_more : (heading : Heading) (first : Conditions) (more : List Conditions)
    → MayMeet heading (first ∷ more) → FitsHeading heading first ⊎ MayMeet heading more
first_or_more heading first more (asked, has, fits) = elim (in_front first more asked has) [
  | inl is ↦ inl (subst (FitsHeading heading) (sym is) fits)
  | inr later ↦ inr (asked, later, fits)
]

-- of no alternatives none may
pub no_chance : (heading : Heading) → MayMeet heading [] → ⊥
no_chance heading (asked, has, fits) = none_in asked has

-- one that fits is enough
pub may_found : (heading : Heading) (left after : List Conditions) (a : Conditions) (r : Bool)
    (whole : List Conditions) → left ≡ a ∷ after → r ≡ true
    → (IsTrue r ↔ AllOfHeading heading a.games) → (MayMeet heading left ↔ MayMeet heading whole)
    → IsTrue true ↔ MayMeet heading whole
may_found heading left after a r whole front fits reports kept = (
  λ t. kept.0 (subst (MayMeet heading) (sym front)
      (one_may heading a after (inl ((fits_all heading a).0 (reports.0 fits))))),
  λ may. refl,
)

-- one that does not leaves the others
pub may_left : (heading : Heading) (left after : List Conditions) (a : Conditions) (r : Bool)
    (whole : List Conditions) → left ≡ a ∷ after → r ≡ false
    → (IsTrue r ↔ AllOfHeading heading a.games) → (MayMeet heading left ↔ MayMeet heading whole)
    → MayMeet heading after ↔ MayMeet heading whole
may_left heading left after a r whole front fails reports kept = (
  λ may. kept.0 (subst (MayMeet heading) (sym front) (one_may heading a after (inr may))),
  λ may. elim (first_or_more heading a after (subst (MayMeet heading) front (kept.1 may))) [
    | inl fits ↦ let so = reports.1 ((fits_all heading a).1 fits) in absurd (cc)
    | inr later ↦ later
  ],
)

-- ---- criteria

-- a game of which a position meets criteria is one that may
some_may : (heading : Heading) (replay : Replay) (ply : ℕ) (P : State)
    (alternatives : List Conditions) → SomeHold heading replay ply P alternatives
    → MayMeet heading alternatives
some_may heading replay ply P [] none = absurd none
some_may heading replay ply P (first ∷ more) (inl met) =
    one_may heading first more (inl (taken_fits heading replay first.games met.0.0))
some_may heading replay ply P (first ∷ more) (inr later) =
    one_may heading first more (inr (some_may heading replay ply P more later))

pub may_where_met : (heading : Heading) (replay : Replay) (ply : ℕ) (criteria : List Conditions)
    → Meets heading replay ply criteria → MayMeet heading criteria
may_where_met heading replay ply criteria met =
    some_may heading replay ply met.position criteria met.hold

-- and each game may or may not
settled_says : (heading : Heading) (denied : Bool) (claim : GameClaim (List ℕ))
    → Settled (SaysOfHeading heading denied claim)
settled_says heading denied (Tag names value) =
    settled_taken denied (settled_one_of heading value (parted_at 124 names))
settled_says heading denied (Moves words) = inl tt
settled_says heading denied (Plies comparison count) = inl tt
settled_says heading denied (Result result) =
    settled_taken denied (cases_bytes heading.result result)

settled_heading : (heading : Heading) (games : List (Stated (GameClaim (List ℕ))))
    → Settled (AllOfHeading heading games)
settled_heading heading [] = inl tt
settled_heading heading (first ∷ more) =
    settled_both (settled_says heading first.is_denied first.claim) (settled_heading heading more)

pub may_or_not : (heading : Heading) (alternatives : List Conditions)
    → Settled (MayMeet heading alternatives)
may_or_not heading [] = inr (no_chance heading)
may_or_not heading (first ∷ more) =
    settled_like (one_may heading first more) (first_or_more heading first more)
    (settled_either
    (settled_like (fits_all heading first).0 (fits_all heading first).1
    (settled_heading heading first.games))
    (may_or_not heading more))
