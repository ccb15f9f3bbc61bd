-- Conditions on a game are what they say of the game alone and what they say of a position.
use Rattle.std.proofs.lemmas.Option.{slice_get-get_or, get_or_from_slice_get}
use Rattle.std.specs.Prelude.{◌⊎◌}
use Rattle.pgn_criteria.proofs.Common.{◌≡◌, ◌↔◌, ◌+◌, ◌++◌, ◌<◌, ℕ, Bool, true, false, List, []}
use Rattle.pgn_criteria.proofs.Common.{◌∷◌, length, get_or, Option, Some, None, IsTrue, refl, sym}
use Rattle.pgn_criteria.proofs.Common.{◌∙◌, subst, inl, inr, arith, slice_get_within, unwrap_or}
use Rattle.pgn_criteria.proofs.Common.{slice_get, HasMove, Placement, State, IsCheck, Side, Replay}
use Rattle.pgn_criteria.proofs.Common.{Conditions, Heading, Taken, AllTaken, IsSoOfGame}
use Rattle.pgn_criteria.proofs.Common.{PositionsHold, AllHold, HoldsThere, SpansHold}
use Rattle.pgn_criteria.proofs.Common.{IsMetBy, SomeHold, Meets, AreMet, IsFirst, AllClaims}
use Rattle.pgn_criteria.proofs.Common.{AllOfHeading, IsFreeOfMoves, AreFreeOfMoves, AsksWithin}
use Rattle.pgn_criteria.proofs.Common.{AllAskWithin, AllOfSeen, on_plies, on_positions, FitsAt}
use Rattle.pgn_criteria.proofs.Common.{FitsAbout}
use Rattle.pgn_criteria.proofs.Common.{IsFirstBefore, IsSeenOf, Stated, GameClaim, Moves, Plies}
use Rattle.pgn_criteria.specs.Private.Stages.{AllOfGame, SaysOfHeading, AllOfPly}
use Rattle.pgn_game.proofs.Cells.{no_cell}
use Rattle.pgn_criteria.proofs.Common.{zero, suc, drop, map, same_first}
use Rattle.pgn_criteria.proofs.SeenFacts.{all_position}
use Rattle.pgn_criteria.proofs.WalkFacts.{seen_said}
use Rattle.pgn_criteria.proofs.SpanFacts.{spans_same, no_spans_hold}

-- what is said of the game is what is said of its tags, where nothing is said of its moves
one_of_heading : (heading : Heading) (replay : Replay) (denied : Bool) (claim : GameClaim (List ℕ))
    → IsFreeOfMoves claim → SaysOfHeading heading denied claim
    → Taken denied (IsSoOfGame heading replay claim)
one_of_heading heading replay denied (Moves words) free reports = absurd free
one_of_heading heading replay denied (Plies comparison count) free reports = absurd free
one_of_heading heading replay denied claim free reports = reports

games_of_heading : (heading : Heading) (replay : Replay)
    (games : List (Stated (GameClaim (List ℕ)))) → AllClaims IsFreeOfMoves games
    → AllOfHeading heading games → AllTaken (IsSoOfGame heading replay) games
games_of_heading heading replay [] free reports = tt
games_of_heading heading replay (one ∷ more) free reports = (
  one_of_heading heading replay one.is_denied one.claim free.0 reports.0,
  games_of_heading heading replay more free.1 reports.1,
)

pub all_of_heading : (heading : Heading) (replay : Replay) (conditions : Conditions)
    → AreFreeOfMoves conditions → AllOfHeading heading conditions.games
    → AllOfGame heading replay conditions
all_of_heading heading replay conditions free reports =
    games_of_heading heading replay conditions.games free.0 reports

heading_of_one : (heading : Heading) (replay : Replay) (denied : Bool) (claim : GameClaim (List ℕ))
    → Taken denied (IsSoOfGame heading replay claim) → SaysOfHeading heading denied claim
heading_of_one heading replay denied (Moves words) reports = tt
heading_of_one heading replay denied (Plies comparison count) reports = tt
heading_of_one heading replay denied claim reports = reports

heading_of_all : (heading : Heading) (replay : Replay) (games : List (Stated (GameClaim (List ℕ))))
    → AllTaken (IsSoOfGame heading replay) games → AllOfHeading heading games
heading_of_all heading replay [] reports = tt
heading_of_all heading replay (one ∷ more) reports = (
  heading_of_one heading replay one.is_denied one.claim reports.0,
  heading_of_all heading replay more reports.1,
)

-- so it is not said of the game where it is not of its tags
pub not_of_heading : (heading : Heading) (replay : Replay) (conditions : Conditions) (r : Bool)
    → r ≡ false → (IsTrue r ↔ AllOfHeading heading conditions.games)
    → IsTrue r ↔ AllOfGame heading replay conditions
not_of_heading heading replay conditions r fails reports =
    (λ t. absurd (cc), λ all. reports.1 (heading_of_all heading replay conditions.games all))

-- conditions are all that they say
all_parted : (heading : Heading) (replay : Replay) (ply : ℕ) (P : State) (conditions : Conditions)
    → AllHold heading replay ply P conditions
    ↔ (AllOfGame heading replay conditions × PositionsHold P conditions.positions
    × AllOfPly replay ply conditions)
all_parted heading replay ply P conditions =
    (λ hold. (hold.0, hold.2, hold.1), λ all. (all.0, all.2, all.1))

free_within : (claim : GameClaim (List ℕ)) → IsFreeOfMoves claim → AsksWithin 0 claim
free_within (Moves words) free = absurd free
free_within (Plies comparison count) free = absurd free
free_within claim free = tt

games_free_within : (games : List (Stated (GameClaim (List ℕ)))) → AllClaims IsFreeOfMoves games
    → AllClaims (AsksWithin 0) games
games_free_within [] free = tt
games_free_within (one ∷ more) free = (free_within one.claim free.0, games_free_within more free.1)

pub all_free_within : (conditions : Conditions) → AreFreeOfMoves conditions
    → AllAskWithin 0 conditions
all_free_within conditions free = (games_free_within conditions.games free.0, free.1, free.2)

-- what is said of the position, and then of the moves about it
pub fits_both : (replay : Replay) (ply : ℕ) (conditions : Conditions) (P : State) (first r : Bool)
    → slice_get replay.positions ply ≡ Some P
    → (IsTrue first
    ↔ AllOfSeen P.men P.turn (IsCheck P.men P.turn) (¬ HasMove P) conditions.positions)
    → IsTrue first → (IsTrue r ↔ AllOfPly replay ply conditions)
    → IsTrue r ↔ FitsAt replay conditions ply
fits_both replay ply conditions P first r here of_position holds of_ply = (
  λ t. (P, here, (all_position P conditions.positions).0 (of_position.0 holds), of_ply.0 t),
  λ fits. of_ply.1 fits.3,
)

pub fits_none : (replay : Replay) (ply : ℕ) (conditions : Conditions) (P : State) (r : Bool)
    → slice_get replay.positions ply ≡ Some P
    → (IsTrue r ↔ AllOfSeen P.men P.turn (IsCheck P.men P.turn) (¬ HasMove P) conditions.positions)
    → r ≡ false → IsTrue r ↔ FitsAt replay conditions ply
fits_none replay ply conditions P r here of_position fails = (
  λ t. absurd (cc (t, fails)),
  λ fits.
      let same : fits.0 ≡ P = cc (fits.1, here) in
      of_position.1
      ((all_position P conditions.positions).1
      (subst (λ Q. PositionsHold Q conditions.positions) same fits.2)),
)

-- of a game of which what conditions say is so, they hold at the plies that fit
there_fits : (heading : Heading) (replay : Replay) (conditions : Conditions)
    → AllOfGame heading replay conditions
    → (ply : ℕ) → FitsAt replay conditions ply ↔ HoldsThere heading replay conditions ply
there_fits heading replay conditions of_game ply = (
  λ fits. (
    fits.0,
    fits.1,
    (all_parted heading replay ply fits.0 conditions).1 (of_game, fits.2, fits.3),
  ),
  λ there. let said = (all_parted heading replay ply there.0 conditions).0 there.2 in
      (there.0, there.1, said.1, said.2),
)

spans_there : (heading : Heading) (replay : Replay) (conditions : Conditions)
    → AllOfGame heading replay conditions
    → (ply : ℕ) → SpansHold (FitsAt replay conditions) ply conditions.spans
    ↔ SpansHold (HoldsThere heading replay conditions) ply conditions.spans
spans_there heading replay conditions of_game ply =
    let same = there_fits heading replay conditions of_game in (
      λ hold. spans_same (FitsAt replay conditions) (HoldsThere heading replay conditions) same ply
          conditions.spans hold,
      λ hold. spans_same (HoldsThere heading replay conditions) (FitsAt replay conditions) (λ n.
          ((same n).1, (same n).0)) ply conditions.spans hold,
    )

-- an alternative is met where all that it says is so
met_parted : (heading : Heading) (replay : Replay) (ply : ℕ) (P : State) (conditions : Conditions)
    → IsMetBy heading replay ply P conditions
    ↔ (AllOfGame heading replay conditions × PositionsHold P conditions.positions
    × AllOfPly replay ply conditions × SpansHold (FitsAt replay conditions) ply conditions.spans)
met_parted heading replay ply P conditions =
    let parts = all_parted heading replay ply P conditions in (
      λ met. let said = parts.0 met.0 in
          (said.0, said.1, said.2, (spans_there heading replay conditions said.0 ply).1 met.1),
      λ all. (
        parts.1 (all.0, all.1, all.2),
        (spans_there heading replay conditions all.0 ply).0 all.3,
      ),
    )

-- one alternative at one place of the main line
pub one_meets : (heading : Heading) (replay : Replay) (plies : ℕ) (conditions : Conditions)
    → AllOfGame heading replay conditions → FitsAbout replay conditions plies
    → Meets heading replay plies (conditions ∷ [])
one_meets heading replay plies conditions of_game (fits, spans) =
    record {
      position = fits.0;
      here = fits.1;
      hold =
          inl ((met_parted heading replay plies fits.0 conditions).1
          (of_game, fits.2, fits.3, spans));
    }

one_holds : (heading : Heading) (replay : Replay) (ply : ℕ) (P : State) (conditions : Conditions)
    → SomeHold heading replay ply P (conditions ∷ []) → IsMetBy heading replay ply P conditions
one_holds heading replay ply P conditions hold =
    elim hold [ inl all ↦ all | inr none ↦ absurd none ]

pub game_of : (heading : Heading) (replay : Replay) (plies : ℕ) (conditions : Conditions)
    → Meets heading replay plies (conditions ∷ []) → AllOfGame heading replay conditions
game_of heading replay plies conditions met =
    ((met_parted heading replay plies met.position conditions).0
    (one_holds heading replay plies met.position conditions met.hold)).0

pub fits_of : (heading : Heading) (replay : Replay) (plies : ℕ) (conditions : Conditions)
    → Meets heading replay plies (conditions ∷ []) → FitsAbout replay conditions plies
fits_of heading replay plies conditions met =
    let all = (met_parted heading replay plies met.position conditions).0
    (one_holds heading replay plies met.position conditions met.hold) in
    ((met.position, met.here, all.1, all.2), all.3)

pub both_parts : (heading : Heading) (replay : Replay) (plies : ℕ) (conditions : Conditions)
    (first r : Bool) → IsTrue first → (IsTrue first ↔ AllOfGame heading replay conditions)
    → (IsTrue r ↔ FitsAbout replay conditions plies)
    → IsTrue r ↔ Meets heading replay plies (conditions ∷ [])
both_parts heading replay plies conditions first r holds of_game of_ply = (
  λ t. one_meets heading replay plies conditions (of_game.0 holds) (of_ply.0 t),
  λ met. of_ply.1 (fits_of heading replay plies conditions met),
)

pub first_part_fails : (heading : Heading) (replay : Replay) (plies : ℕ) (conditions : Conditions)
    (first : Bool) → first ≡ false → (IsTrue first ↔ AllOfGame heading replay conditions)
    → IsTrue first ↔ Meets heading replay plies (conditions ∷ [])
first_part_fails heading replay plies conditions first fails of_game =
    (λ t. absurd (cc), λ met. of_game.1 (game_of heading replay plies conditions met))

-- one alternative more
one_more : (heading : Heading) (replay : Replay) (plies : ℕ) (a : Conditions)
    (more : List Conditions) → Meets heading replay plies (a ∷ more)
    → Meets heading replay plies (a ∷ []) ⊎ Meets heading replay plies more
one_more heading replay plies a more met = elim met.hold [
  | inl all ↦ inl (record { position = met.position; here = met.here; hold = inl all })
  | inr some ↦ inr (record { position = met.position; here = met.here; hold = some })
]

pub meets_found : (heading : Heading) (replay : Replay) (plies : ℕ) (left after : List Conditions)
    (a : Conditions) (r : Bool)
    (whole : List Conditions) → left ≡ a ∷ after → r ≡ true
    → (IsTrue r ↔ Meets heading replay plies (a ∷ []))
    → (Meets heading replay plies left ↔ Meets heading replay plies whole)
    → IsTrue true ↔ Meets heading replay plies whole
meets_found heading replay plies left after a r whole front holds reports kept = (
  λ t. let met = reports.0 holds in
      kept.0 (subst (Meets heading replay plies) (sym front) (record {
        position = met.position;
        here = met.here;
        hold = inl (one_holds heading replay plies met.position a met.hold);
      })),
  λ met. refl,
)

pub meets_left : (heading : Heading) (replay : Replay) (plies : ℕ) (left after : List Conditions)
    (a : Conditions) (r : Bool)
    (whole : List Conditions) → left ≡ a ∷ after → r ≡ false
    → (IsTrue r ↔ Meets heading replay plies (a ∷ []))
    → (Meets heading replay plies left ↔ Meets heading replay plies whole)
    → Meets heading replay plies after ↔ Meets heading replay plies whole
meets_left heading replay plies left after a r whole front fails reports kept = (
  λ met. kept.0
      (subst (Meets heading replay plies) (sym front)
      (record { position = met.position; here = met.here; hold = inr met.hold })),
  λ met. elim
      (one_more heading replay plies a after
      (subst (Meets heading replay plies) front (kept.1 met))) [
        | inl own ↦ let t : IsTrue r = reports.1 own in absurd (cc)
        | inr more ↦ more
      ],
)

-- an alternative that is not met is passed over
pub meets_after : (heading : Heading) (replay : Replay) (plies : ℕ) (left after : List Conditions)
    (a : Conditions) → left ≡ a ∷ after → (Meets heading replay plies (a ∷ []) → ⊥)
    → Meets heading replay plies left → Meets heading replay plies after
meets_after heading replay plies left after a front never met = elim
    (one_more heading replay plies a after (subst (Meets heading replay plies) front met)) [
      | inl own ↦ absurd (never own)
      | inr more ↦ more
    ]

-- where all claims are so, one that is not denied is
pub one_taken : {C D : Type 0} (So : D → Type 0) (view : C → Stated D) (all : List C) (i : ℕ)
    (own : C) (rest : List C) → drop i all ≡ own ∷ rest → (view own).is_denied ≡ false
    → AllTaken So (map view all) → So (view own).claim
one_taken So view [] zero own rest at plain taken = absurd (no_cell own rest at)
one_taken So view [] (suc i) own rest at plain taken = absurd (no_cell own rest at)
one_taken So view (first ∷ more) zero own rest at plain taken =
    rw plain at (rw (same_first first own more rest at) at taken.0)
one_taken So view (first ∷ more) (suc i) own rest at plain taken =
    one_taken So view more i own rest at plain taken.1

-- what is looked for before a ply, where what the conditions say of the game is so
pub fits_first : (heading : Heading) (replay : Replay) (conditions : Conditions) (from end : ℕ)
    (found : Option ℕ) → AllOfGame heading replay conditions
    → IsFirstBefore (FitsAbout replay conditions) from end found
    → IsFirstBefore (λ plies. Meets heading replay plies (conditions ∷ [])) from end found
fits_first heading replay conditions from end None of_game first =
    λ n low less met. first n low less (fits_of heading replay n conditions met)
fits_first heading replay conditions from end (Some n) of_game (low, less, fits, least) = (
  low,
  less,
  one_meets heading replay n conditions of_game fits,
  λ m above under met. least m above under (fits_of heading replay m conditions met),
)

-- where it is not so, there is none
pub no_first : (heading : Heading) (replay : Replay) (conditions : Conditions) (from end : ℕ)
    (r : Bool) → r ≡ false → (IsTrue r ↔ AllOfGame heading replay conditions)
    → IsFirstBefore (λ plies. Meets heading replay plies (conditions ∷ [])) from end None
no_first heading replay conditions from end r fails reports n low less met =
    let so : IsTrue r = reports.1 (game_of heading replay n conditions met) in absurd (cc)

-- the conditions that speak of positions hold where what all say of positions is so; none of them
-- is `for` or `count`
pub positions_met : (heading : Heading) (replay : Replay) (ply : ℕ) (P : State)
    (conditions : Conditions)
    → IsMetBy heading replay ply P (on_positions conditions) ↔ PositionsHold P conditions.positions
positions_met heading replay ply P conditions = (λ met. met.0.2, λ all. ((tt, tt, all), tt))

pub reports_seen : (heading : Heading) (replay : Replay) (ply : ℕ) (P : State)
    (conditions : Conditions) (r : Bool) (men : Placement) (turn : Side)
    (Checked Stuck : Type 0) → IsSeenOf P men turn Checked Stuck
    → (IsTrue r ↔ AllOfSeen men turn Checked Stuck conditions.positions)
    → IsTrue r ↔ IsMetBy heading replay ply P (on_positions conditions)
reports_seen heading replay ply P conditions r men turn Checked Stuck seen reports =
    let same = positions_met heading replay ply P conditions in
    let here = seen_said P men turn Checked Stuck conditions.positions seen in
    (λ t. same.1 (here.0 (reports.0 t)), λ hold. reports.1 (here.1 (same.0 hold)))

-- alternatives and one more
hold_before : (heading : Heading) (replay : Replay) (ply : ℕ) (P : State) (before : List Conditions)
    (more : List Conditions)
    → SomeHold heading replay ply P before → SomeHold heading replay ply P (before ++ more)
hold_before heading replay ply P [] more hold = absurd hold
hold_before heading replay ply P (first ∷ before) more hold =
    elim hold [
      | inl all ↦ inl all
      | inr some ↦ inr
          (hold_before heading replay ply P before more some)
    ]

hold_after : (heading : Heading) (replay : Replay) (ply : ℕ) (P : State) (before : List Conditions)
    (more : List Conditions)
    → SomeHold heading replay ply P more → SomeHold heading replay ply P (before ++ more)
hold_after heading replay ply P [] more hold = hold
hold_after heading replay ply P (first ∷ before) more hold =
    inr (hold_after heading replay ply P before more hold)

hold_either : (heading : Heading) (replay : Replay) (ply : ℕ) (P : State) (before : List Conditions)
    (more : List Conditions) → SomeHold heading replay ply P (before ++ more)
    → SomeHold heading replay ply P before ⊎ SomeHold heading replay ply P more
hold_either heading replay ply P [] more hold = inr hold
hold_either heading replay ply P (first ∷ before) more hold = elim hold [
  | inl all ↦ inl (inl all)
  | inr some ↦ elim (hold_either heading replay ply P before more some)
      [ inl here ↦ inl (inr here) | inr there ↦ inr there ]
]

-- a ply meets alternatives and more where it meets those or these
module _ (heading : Heading) (replay : Replay) (before more : List Conditions) where
  either_met : (ply : ℕ) → Meets heading replay ply (before ++ more)
      → Meets heading replay ply before ⊎ Meets heading replay ply more
  either_met ply met = elim (hold_either heading replay ply met.position before more met.hold) [
    | inl hold ↦ inl (record { position = met.position; here = met.here; hold = hold })
    | inr hold ↦ inr (record { position = met.position; here = met.here; hold = hold })
  ]

  met_before : (ply : ℕ) → Meets heading replay ply before
      → Meets heading replay ply (before ++ more)
  met_before ply met =
      record {
        position = met.position;
        here = met.here;
        hold = hold_before heading replay ply met.position before more met.hold;
      }

  met_after : (ply : ℕ) → Meets heading replay ply more → Meets heading replay ply (before ++ more)
  met_after ply met =
      record {
        position = met.position;
        here = met.here;
        hold = hold_after heading replay ply met.position before more met.hold;
      }

-- the least of the best so far and of the first ply of one more alternative
pub next_best : (heading : Heading) (replay : Replay) (before : List Conditions)
    (more : List Conditions) (min max : ℕ) (best found : Option ℕ)
    → IsFirst (λ plies. Meets heading replay plies before) min max best
    → IsFirstBefore (λ plies. Meets heading replay plies more) min (unwrap_or best (max + 1))
    found → IsFirst (λ plies. Meets heading replay plies (before ++ more)) min max
    (elim found [ None ↦ best | Some plies ↦ Some plies ])
next_best heading replay before more min max best found first here = go best found first here
  where
    either : (plies : ℕ) → Meets heading replay plies (before ++ more)
        → Meets heading replay plies before ⊎ Meets heading replay plies more
    either plies met = either_met heading replay before more plies met

    go : (best found : Option ℕ) → IsFirst (λ plies. Meets heading replay plies before) min max best
        → IsFirstBefore (λ plies. Meets heading replay plies more) min (unwrap_or best (max + 1))
        found → IsFirst (λ plies. Meets heading replay plies (before ++ more)) min max
        (elim found [ None ↦ best | Some plies ↦ Some plies ])
    go None None first here =
        λ n low high met. elim (either n met)
        [ inl old ↦ first n low high old | inr new ↦ here n low (omega arith) new ]
    go None (Some plies) first here = (
      here.0,
      (let less = here.1 in omega arith),
      (record {
        position = here.2.position;
        here = here.2.here;
        hold = hold_after heading replay plies here.2.position before more here.2.hold;
      }),
      λ m low less met.
          let past = here.1 in
          elim (either m met)
          [ inl old ↦ first m low (omega arith) old | inr new ↦ here.3 m low less new ],
    )
    go (Some best) None first here = (
      first.0,
      first.1,
      (record {
        position = first.2.position;
        here = first.2.here;
        hold = hold_before heading replay best first.2.position before more first.2.hold;
      }),
      λ m low less met. elim (either m met)
          [ inl old ↦ first.3 m low less old | inr new ↦ here m low less new ],
    )
    go (Some best) (Some plies) first here = (
      here.0,
      (let less = here.1 in let high = first.1 in omega arith),
      (record {
        position = here.2.position;
        here = here.2.here;
        hold = hold_after heading replay plies here.2.position before more here.2.hold;
      }),
      λ m low less met.
          let past = here.1 in
          elim (either m met)
          [ inl old ↦ first.3 m low (omega arith) old | inr new ↦ here.3 m low less new ],
    )

-- what the conditions say of single plies alone
met_on_plies : (heading : Heading) (replay : Replay) (ply : ℕ) (P : State)
    (conditions : Conditions) → IsMetBy heading replay ply P (on_plies conditions)
    ↔ (PositionsHold P conditions.positions × AllOfPly replay ply conditions)
met_on_plies heading replay ply P conditions =
    let parts = met_parted heading replay ply P (on_plies conditions) in (
      λ met. let all = parts.0 met in (all.1, all.2),
      λ both. parts.1 (tt, both.0, both.1, tt),
    )

-- is so where the ply fits
pub turn_met : (heading : Heading) (replay : Replay) (ply : ℕ) (P : State)
    (conditions : Conditions) (r : Bool) → slice_get replay.positions ply ≡ Some P
    → (IsTrue r ↔ FitsAt replay conditions ply)
    → IsTrue r ↔ IsMetBy heading replay ply P (on_plies conditions)
turn_met heading replay ply P conditions r here reports =
    let on = met_on_plies heading replay ply P conditions in (
      λ t.
          let fits = reports.0 t in
          let same : fits.0 ≡ P = cc (fits.1, here) in
          on.1 (subst (λ Q. PositionsHold Q conditions.positions) same fits.2, fits.3),
      λ met. let both = on.0 met in reports.1 (P, here, both.0, both.1),
    )

-- one more alternative of which what it says of the game is so is kept by what it says of single
-- plies
pub kept_turn : (heading : Heading) (replay : Replay) (ply : ℕ) (P : State)
    (before rest : List Conditions) (own : Conditions) → AllOfGame heading replay own
    → own.spans ≡ [] → SomeHold heading replay ply P ((before ++ on_plies own ∷ []) ++ rest)
    ↔ SomeHold heading replay ply P (before ++ own ∷ rest)
kept_turn heading replay ply P before rest own of_game free =
    let parts = met_parted heading replay ply P own in
    let on = met_on_plies heading replay ply P own in
    let spans = no_spans_hold (FitsAt replay own) ply own.spans free in (
      λ hold. elim (hold_either heading replay ply P (before ++ on_plies own ∷ []) rest hold) [
        | inl front ↦ elim (hold_either heading replay ply P before (on_plies own ∷ []) front) [
          | inl old ↦ hold_before heading replay ply P before (own ∷ rest) old
          | inr here ↦
              let both = on.0 (one_holds heading replay ply P (on_plies own) here) in
              hold_after heading replay ply P before (own ∷ rest)
              (inl (parts.1 (of_game, both.0, both.1, spans)))
        ]
        | inr there ↦ hold_after heading replay ply P before (own ∷ rest) (inr there)
      ],
      λ hold. elim (hold_either heading replay ply P before (own ∷ rest) hold) [
        | inl old ↦ hold_before heading replay ply P (before ++ on_plies own ∷ []) rest
            (hold_before heading replay ply P before (on_plies own ∷ []) old)
        | inr more ↦ elim more [
          | inl here ↦
              let all = parts.0 here in
              hold_before heading replay ply P (before ++ on_plies own ∷ []) rest
              (hold_after heading replay ply P before (on_plies own ∷ [])
              (inl (on.1 (all.1, all.2))))
          | inr there ↦ hold_after heading replay ply P (before ++ on_plies own ∷ []) rest there
        ]
      ],
    )

-- and by what it says of positions, where it says no more; one of which it is not so is dropped
pub kept_one : (heading : Heading) (replay : Replay) (ply : ℕ) (P : State)
    (before rest : List Conditions) (own : Conditions) (most : ℕ)
    → AllOfGame heading replay own → AllAskWithin most own
    → SomeHold heading replay ply P ((before ++ on_positions own ∷ []) ++ rest)
    ↔ SomeHold heading replay ply P (before ++ own ∷ rest)
kept_one heading replay ply P before rest own most of_game within =
    subst (λ (c : Conditions). SomeHold heading replay ply P ((before ++ c ∷ []) ++ rest)
    ↔ SomeHold heading replay ply P (before ++ own ∷ rest))
    (λ i. record { games = []; positions = own.positions; moves = within.1 i; spans = [] })
    (kept_turn heading replay ply P before rest own of_game within.2)

pub dropped_one : (heading : Heading) (replay : Replay) (ply : ℕ) (P : State)
    (before rest : List Conditions) (own : Conditions) (r : Bool) → r ≡ false
    → (IsTrue r ↔ AllOfGame heading replay own) → SomeHold heading replay ply P (before ++ rest)
    ↔ SomeHold heading replay ply P (before ++ own ∷ rest)
dropped_one heading replay ply P before rest own r fails reports = (
  λ hold. elim (hold_either heading replay ply P before rest hold) [
    | inl old ↦ hold_before heading replay ply P before (own ∷ rest) old
    | inr there ↦ hold_after heading replay ply P before (own ∷ rest) (inr there)
  ],
  λ hold. elim (hold_either heading replay ply P before (own ∷ rest) hold) [
    | inl old ↦ hold_before heading replay ply P before rest old
    | inr more ↦ elim more [
      | inl here ↦ let so : IsTrue r = reports.1 ((met_parted heading replay ply P own).0 here).0 in
          absurd (cc)
      | inr there ↦ hold_after heading replay ply P before rest there
    ]
  ],
)

-- the same plies meet alternatives that hold of the same positions
pub same_plies : (heading : Heading) (replay : Replay) (alternatives others : List Conditions)
    → ((ply : ℕ) (P : State) → SomeHold heading replay ply P alternatives
    ↔ SomeHold heading replay ply P others) → (ply : ℕ)
    → Meets heading replay ply alternatives ↔ Meets heading replay ply others
same_plies heading replay alternatives others same ply = (
  λ met. record {
    position = met.position;
    here = met.here;
    hold = (same ply met.position).0 met.hold;
  },
  λ met. record {
    position = met.position;
    here = met.here;
    hold = (same ply met.position).1 met.hold;
  },
)

-- the answers for each ply, with one more alternative
module _ (heading : Heading) (replay : Replay) (before : List Conditions) (own : Conditions) where
  pub met_added : (old new : List Bool) → AllOfGame heading replay own → length new ≡ length old
      → ((ply : ℕ) → ply < length old → IsTrue (get_or new ply false)
      ↔ (IsTrue (get_or old ply false) ⊎ FitsAbout replay own ply))
      → AreMet heading replay before old → AreMet heading replay (before ++ own ∷ []) new
  met_added old new of_game size reports met = record {
    each = size ∙ met.each;
    reports = λ ply is here.
        let within : ply < length old = let less = slice_get_within new ply is here in
        omega (arith, less, size) in
        let so_far = met.reports ply (get_or old ply false) (slice_get-get_or old ply false within)
        in
        let now = reports ply within in
        let same : get_or new ply false ≡ is = get_or_from_slice_get new ply is false here in (
          λ t. elim (now.0 (same ∙ t)) [
            | inl old ↦ met_before heading replay before (own ∷ []) ply (so_far.0 old)
            | inr fits ↦ met_after heading replay before (own
                ∷ []) ply (one_meets heading replay ply own of_game fits)
          ],
          λ all. sym same ∙ elim (either_met heading replay before (own ∷ []) ply all) [
            | inl old ↦ now.1 (inl (so_far.1 old))
            | inr one ↦ now.1 (inr (fits_of heading replay ply own one))
          ],
        );
  }

  pub met_dropped : (met : List Bool) (r : Bool) → r ≡ false
      → (IsTrue r ↔ AllOfGame heading replay own)
      → AreMet heading replay before met → AreMet heading replay (before ++ own ∷ []) met
  met_dropped answers r fails reports met = record {
    each = met.each;
    reports = λ ply is here. (
      λ t. met_before heading replay before (own ∷ []) ply ((met.reports ply is here).0 t),
      λ all. elim (either_met heading replay before (own ∷ []) ply all) [
        | inl old ↦ (met.reports ply is here).1 old
        | inr one ↦ let so : IsTrue r = reports.1 (game_of heading replay ply own one) in
            absurd (cc)
      ],
    );
  }
