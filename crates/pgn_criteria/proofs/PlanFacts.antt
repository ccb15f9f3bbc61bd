-- What is planned of patterns, in whichever way they are asked.
use Rattle.std.specs.Prelude.{◌⊎◌, Result}
use Rattle.pgn_criteria.proofs.Common.{◌≡◌, ◌↔◌, ℕ, Bool, true, List, [], ◌∷◌, ◌++◌, refl, sym}
use Rattle.pgn_criteria.proofs.Common.{subst, inl, inr, IfOk-weaker, IfOk, Placement, Laid, Lays}
use Rattle.pgn_criteria.proofs.Common.{AreSound, AreSoundWays, AllEither, NoneLaid, Plans}
use Rattle.pgn_criteria.proofs.Common.{flipped_men, FitsEitherWay, FitsPattern, White, SaysOfSeen}
use Rattle.pgn_criteria.proofs.Common.{stage_of, PositionClaim, Squares, Layout, Plan, Ways}
use Rattle.pgn_criteria.specs.Private.Planning.{IsSound}
use Rattle.pgn_criteria.specs.declared.layout.Look.{Look}

-- a layout that was begun with nothing has just what was laid out
pub laid_whole : (start layout : Layout) (pattern : List ℕ) → ((men : Placement) → Laid men start)
    → Lays (λ p. FitsPattern p pattern) (λ p. Unit {0}) start layout true
    → (p : Placement) → Laid p layout ↔ FitsPattern p pattern
laid_whole start layout pattern nothing lays p =
    (λ laid. (lays.enough refl p laid tt).1, λ fits. (lays.needed p (nothing p) fits).0)

-- the pattern, and the pattern of the men with their files turned
way_turned : (straight turned : Layout) (pattern : List ℕ)
    → ((p : Placement) → Laid p straight ↔ FitsPattern p pattern)
    → ((men : Placement) → Laid men turned ↔ Laid (flipped_men men) straight) → (p : Placement)
    → Laid p turned ↔ FitsPattern (flipped_men p) pattern
way_turned straight turned pattern fits same p =
    let there = fits (flipped_men p) in
    (λ laid. there.0 ((same p).0 laid), λ all. (same p).1 (there.1 all))

module _ (straight turned : Layout) (a b : Look) (pattern : List ℕ) (fits : (p : Placement)
    → Laid p straight ↔ FitsPattern p pattern)
    (same : (men : Placement) → Laid men turned
    ↔ Laid (flipped_men men) straight) (at_a : a.layout ≡ straight) (at_b : b.layout
    ≡ turned) (p : Placement) where
  straight_fits : Laid p a.layout ↔ FitsPattern p pattern
  straight_fits = subst (λ l. Laid p l ↔ FitsPattern p pattern) (sym at_a) (fits p)

  turned_fits : Laid p b.layout ↔ FitsPattern (flipped_men p) pattern
  turned_fits = rw at_b (way_turned straight turned pattern fits same p)

  pub either_way : (Laid p a.layout ⊎ Laid p b.layout) ↔ FitsEitherWay p pattern
  either_way = (
    λ laid. elim laid [
      | inl as_it_stands ↦ inl (straight_fits.0 as_it_stands)
      | inr other_way ↦ inr
          (turned_fits.0 other_way)
    ],
    λ all. elim all [
      | inl as_it_stands ↦ inl (straight_fits.1 as_it_stands)
      | inr other_way ↦ inr
          (turned_fits.1 other_way)
    ],
  )

  pub neither_way : ((Laid p a.layout → ⊥) × (Laid p b.layout → ⊥)) ↔ (FitsEitherWay p pattern → ⊥)
  neither_way = (
    λ none all. elim (either_way.1 all)
        [ inl as_it_stands ↦ none.0 as_it_stands | inr other_way ↦ none.1 other_way ],
    λ none. (λ laid. none (either_way.0 (inl laid)), λ laid. none (either_way.0 (inr laid))),
  )

-- one more of each kind
pub either_more : (men : Placement) (all : List Ways) (one : Ways) → AllEither men (all ++ one ∷ [])
    ↔ (AllEither men all × (Laid men one.straight.layout ⊎ Laid men one.turned.layout))
either_more men [] one = (λ stand. (tt, stand.0), λ both. (both.1, tt))
either_more men (first ∷ more) one =
    let there = either_more men more one in (
      λ stand. ((stand.0, (there.0 stand.1).0), (there.0 stand.1).1),
      λ both. (both.0.0, there.1 (both.0.1, both.1)),
    )

none_more : (men : Placement) (all : List Look) (one : Look)
    → NoneLaid men (all ++ one ∷ []) ↔ (NoneLaid men all × (Laid men one.layout → ⊥))
none_more men [] one = (λ none. (tt, none.0), λ both. (both.1, tt))
none_more men (first ∷ more) one =
    let there = none_more men more one in (
      λ none. ((none.0, (there.0 none.1).0), (there.0 none.1).1),
      λ both. (both.0.0, there.1 (both.0.1, both.1)),
    )

sound_more : (all : List Look) (one : Look) → AreSound all → IsSound one
    → AreSound (all ++ one ∷ [])
sound_more [] one are is = (is, tt)
sound_more (first ∷ more) one are is = (are.0, sound_more more one are.1 is)

sound_ways : (all : List Ways) (one : Ways) → AreSoundWays all
    → IsSound one.straight × IsSound one.turned → AreSoundWays (all ++ one ∷ [])
sound_ways [] one are is = (is, tt)
sound_ways (first ∷ more) one are is = (are.0, sound_ways more one are.1 is)

-- what is laid out is planned
pub plans_laid : (fact : Placement → Type 0) (old new : Plan) (all : Bool) → new.ways ≡ old.ways
    → new.denied ≡ old.denied
    → Lays fact (λ p. Unit {0}) old.layout new.layout all → Plans fact (λ p. Unit {0}) old new all
plans_laid fact old new all ways denied lays = record {
  sound = λ are. (
    subst (λ w. AreSoundWays w.items) (sym ways) are.0,
    subst (λ o. AreSound o.items) (sym denied) are.1,
  );
  needed = λ p planned holds.
      let laid = lays.needed p planned.0 holds in (
        (
          laid.0,
          subst (λ w. AllEither p w.items) (sym ways) planned.1,
          subst (λ o. NoneLaid p o.items) (sym denied) planned.2,
        ),
        tt,
      );
  enough = λ so p planned left.
      let laid = lays.enough so p planned.0 tt in (
        (
          laid.0,
          subst (λ w. AllEither p w.items) ways planned.1,
          subst (λ o. NoneLaid p o.items) denied planned.2,
        ),
        laid.1,
      );
}

-- one way or the other
pub plans_ways : (fact : Placement → Type 0) (old new : Plan) (one : Ways) → new.layout ≡ old.layout
    → new.denied ≡ old.denied → new.ways.items ≡ old.ways.items ++ one ∷ []
    → IsSound one.straight × IsSound one.turned
    → ((p : Placement) → (Laid p one.straight.layout ⊎ Laid p one.turned.layout) ↔ fact p)
    → Plans fact (λ p. Unit {0}) old new true
plans_ways fact old new one layout denied ways is same = record {
  sound = λ are. (
    subst AreSoundWays (sym ways) (sound_ways old.ways.items one are.0 is),
    subst (λ o. AreSound o.items) (sym denied) are.1,
  );
  needed = λ p planned holds. (
    (
      subst (Laid p) (sym layout) planned.0,
      subst (AllEither p) (sym ways)
          ((either_more p old.ways.items one).1 (planned.1, (same p).1 holds)),
      subst (λ o. NoneLaid p o.items) (sym denied) planned.2,
    ),
    tt,
  );
  enough = λ so p planned left.
      let both = (either_more p old.ways.items one).0 (subst (AllEither p) ways planned.1) in (
        (subst (Laid p) layout planned.0, both.0, subst (λ o. NoneLaid p o.items) denied planned.2),
        (same p).0 both.1,
      );
}

-- what is not to stand
pub plans_denied : (fact : Placement → Type 0) (old new : Plan) (one : Look)
    → new.layout ≡ old.layout → new.ways ≡ old.ways
    → new.denied.items ≡ old.denied.items ++ one ∷ []
    → IsSound one → ((p : Placement) → (Laid p one.layout → ⊥) ↔ fact p)
    → Plans fact (λ p. Unit {0}) old new true
plans_denied fact old new one layout ways denied is same = record {
  sound = λ are. (
    subst (λ w. AreSoundWays w.items) (sym ways) are.0,
    subst AreSound (sym denied) (sound_more old.denied.items one are.1 is),
  );
  needed = λ p planned holds. (
    (
      subst (Laid p) (sym layout) planned.0,
      subst (λ w. AllEither p w.items) (sym ways) planned.1,
      subst (NoneLaid p) (sym denied)
          ((none_more p old.denied.items one).1 (planned.2, (same p).1 holds)),
    ),
    tt,
  );
  enough = λ so p planned left.
      let both = (none_more p old.denied.items one).0 (subst (NoneLaid p) denied planned.2) in (
        (subst (Laid p) layout planned.0, subst (λ w. AllEither p w.items) ways planned.1, both.0),
        (same p).0 both.1,
      );
}

-- what is denied
pub denied : {A B : Type 0} → A ↔ B → (A → ⊥) ↔ (B → ⊥)
denied same = (λ no b. no (same.1 b), λ no a. no (same.0 a))

-- what a pattern says is planned, where that is asked at its stage
pub planned_claim : {E : Type 0} (r : Result Bool E) (old new : Plan) (denied d : Bool)
    (claim k : PositionClaim (List ℕ)) → denied ≡ d → claim ≡ k → stage_of k ≡ Squares
    → IfOk r (Plans (λ p. SaysOfSeen p White ⊥ ⊥ d k) (λ p. Unit {0}) old new)
    → IfOk r (Plans (λ p. stage_of claim ≡ Squares
    → SaysOfSeen p White ⊥ ⊥ denied claim) (λ p. Unit {0}) old new)
planned_claim r old new denied d claim k of_denied of_claim stage plans =
    subst (λ (e : Bool).
    IfOk r (Plans (λ p. stage_of claim ≡ Squares
    → SaysOfSeen p White ⊥ ⊥ e claim) (λ p. Unit {0}) old new)) (sym of_denied)
    (subst (λ (x : PositionClaim (List ℕ)).
    IfOk r (Plans (λ p. stage_of x ≡ Squares
    → SaysOfSeen p White ⊥ ⊥ d x) (λ p. Unit {0}) old new)) (sym of_claim)
    (IfOk-weaker r (Plans (λ p. SaysOfSeen p White ⊥ ⊥ d k) (λ p. Unit {0}) old new)
    (Plans (λ p. stage_of k ≡ Squares → SaysOfSeen p White ⊥ ⊥ d k) (λ p. Unit {0}) old new)
    (λ all own. record {
      sound = own.sound;
      needed = λ p planned holds. own.needed p planned (holds stage);
      enough = λ so p planned left. let both = own.enough so p planned tt in (both.0, λ at. both.1);
    }) plans))
