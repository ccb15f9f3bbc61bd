-- Conditions that are tried at the mirror of a position.
use Rattle.pgn_criteria.proofs.Common.{◌≡◌, ◌↔◌, ℕ, Bool, true, false, List, [], ◌∷◌, ◌++◌, IsTrue}
use Rattle.pgn_criteria.proofs.Common.{refl, sym, ap, subst, inl, inr, ◌&&◌, if◌then◌else◌}
use Rattle.pgn_criteria.proofs.Common.{Placement, opposite, Side, is_turned, mirrored_men}
use Rattle.pgn_criteria.proofs.Common.{flipped_men, can_be_mirrored, FitsPattern, SaysOfSeen}
use Rattle.pgn_criteria.proofs.Common.{OfSeen, AllSaid, EachOfSeen, AllOfSeen, AreFixed}
use Rattle.pgn_criteria.proofs.Common.{AreMirrored, PositionCondition, Flip, Material, Limits}
use Rattle.pgn_criteria.specs.Private.Stages.{IsMirrorOf, IsMirrored}
use Rattle.pgn_criteria.proofs.MirrorFacts.{flipped_mirrored, material_mirrored}
use Rattle.pgn_criteria.proofs.TakenFacts.{same_taken}
use Rattle.pgn_criteria.proofs.SeenFacts.{said_of_men, can_be_turned}

-- ---- claims

abbrev pub FitsMirror : List ℕ → List ℕ → Type 0
FitsMirror own pattern = (men : Placement)
    → FitsPattern men own ↔ FitsPattern (mirrored_men men) pattern

pub flip_mirror : (own pattern : List ℕ) → FitsMirror own pattern
    → IsMirrorOf (Flip own) (Flip pattern)
flip_mirror own pattern fits = record {
  can = refl;
  alike = λ men turn denied.
      let turned : FitsPattern (flipped_men men) own
      ↔ FitsPattern (flipped_men (mirrored_men men)) pattern =
      rw (flipped_mirrored men) (fits (flipped_men men)) in
      same_taken denied (
        λ either. elim either [ inl fit ↦ inl ((fits men).0 fit) | inr fit ↦ inr (turned.0 fit) ],
        λ either. elim either [ inl fit ↦ inl ((fits men).1 fit) | inr fit ↦ inr (turned.1 fit) ],
      );
}

pub material_mirror : (white black : Limits)
    → IsMirrorOf (Material black white) (Material white black)
material_mirror white black =
    record {
      can = refl;
      alike = λ men turn denied. let same = material_mirrored men white black in
          same_taken denied (same.1, same.0);
    }

-- ---- conditions

fixed_is : (condition : PositionCondition (List ℕ)) → condition.is_either ≡ false
    → is_turned condition ≡ false
fixed_is condition e = ap (λ b. b && can_be_mirrored condition.claim) e

-- a condition with `either` and its mirror, and a condition and the same one
module _ (men : Placement) (turn : Side) (Checked Stuck : Type 0) where
  turned_said : (own condition : PositionCondition (List ℕ)) → is_turned condition ≡ true
      → IsMirrored own condition → OfSeen men turn Checked Stuck own
      ↔ OfSeen (mirrored_men men) (opposite turn) Checked Stuck condition
  turned_said own condition turned mirrored =
      let of = mirrored.turned turned in
      let here = said_of_men men turn Checked ⊥ Stuck ⊥ own.is_denied own.claim of.can in
      let alike = of.alike men turn own.is_denied in
      let there = said_of_men (mirrored_men men) (opposite turn) Checked ⊥ Stuck ⊥ own.is_denied
      condition.claim (can_be_turned condition turned) in
      subst (λ d. OfSeen men turn Checked Stuck own
      ↔ SaysOfSeen (mirrored_men men) (opposite turn) Checked Stuck d condition.claim)
      mirrored.denied
      (λ says. there.1 (alike.0 (here.0 says)), λ says. here.1 (alike.1 (there.0 says)))

  fixed_said : (own condition : PositionCondition (List ℕ)) → is_turned condition ≡ false
      → IsMirrored own condition
      → OfSeen men turn Checked Stuck own ↔ OfSeen men turn Checked Stuck condition
  fixed_said own condition fixed mirrored =
      subst (λ d. OfSeen men turn Checked Stuck own
      ↔ SaysOfSeen men turn Checked Stuck d condition.claim) mirrored.denied
      (subst (λ k. OfSeen men turn Checked Stuck own
      ↔ SaysOfSeen men turn Checked Stuck own.is_denied k) (mirrored.fixed fixed)
      (λ says. says, λ says. says))

  one_mirrored : (own condition : PositionCondition (List ℕ)) → IsMirrored own condition
      → OfSeen men turn Checked Stuck own
      ↔ OfSeen (if is_turned condition then mirrored_men men else men) (if is_turned condition
      then opposite turn else turn) Checked Stuck condition
  one_mirrored own condition mirrored =
      elim (is_turned condition) as (λ t. is_turned condition ≡ t
      → OfSeen men turn Checked Stuck own
      ↔ OfSeen (if t then mirrored_men men else men) (if t then opposite turn
      else turn) Checked Stuck condition) [
        | true ↦ λ turned. turned_said own condition turned mirrored
        | false ↦ λ fixed. fixed_said own condition fixed mirrored
      ] refl

  pub mirrored_said : (own conditions : List (PositionCondition (List ℕ)))
      → AreMirrored own conditions → AllSaid men turn Checked Stuck own
      ↔ EachOfSeen men turn (mirrored_men men) (opposite turn) Checked Stuck conditions
  mirrored_said own [] none =
      (λ all. tt, λ each. subst (AllSaid men turn Checked Stuck) (sym none) tt)
  mirrored_said own (condition ∷ more) (one, rest, are, mirrored, others) =
      let here = one_mirrored one condition mirrored in
      let there = mirrored_said rest more others in (
        λ all. let both = subst (AllSaid men turn Checked Stuck) are all in
            (here.0 both.0, there.0 both.1),
        λ each. subst (AllSaid men turn Checked Stuck) (sym are) (here.1 each.0, there.1 each.1),
      )

  -- conditions of which none has `either` are tried as they stand
  pub fixed_each : (others : Placement) (other : Side)
      (conditions : List (PositionCondition (List ℕ))) → AreFixed conditions
      → EachOfSeen men turn others other Checked Stuck conditions
      → AllSaid men turn Checked Stuck conditions
  fixed_each others other [] fixed each = tt
  fixed_each others other (condition ∷ more) fixed each = (
    subst (λ t.
        OfSeen (if t then others else men) (if t then other else turn) Checked Stuck condition)
        (fixed_is condition fixed.0) each.0,
    fixed_each others other more fixed.1 each.1,
  )

  either_way : (condition : PositionCondition (List ℕ)) (t : Bool)
      → OfSeen (if t then men else men) (if t then turn else turn) Checked Stuck condition
      ↔ OfSeen men turn Checked Stuck condition
  either_way condition true = (λ says. says, λ says. says)
  either_way condition false = (λ says. says, λ says. says)

  pub each_plain : (conditions : List (PositionCondition (List ℕ)))
      → EachOfSeen men turn men turn Checked Stuck conditions
      ↔ AllSaid men turn Checked Stuck conditions
  each_plain [] = (λ each. tt, λ all. tt)
  each_plain (condition ∷ more) =
      let here = either_way condition (is_turned condition) in
      let there = each_plain more in
      (λ each. (here.0 each.0, there.0 each.1), λ all. (here.1 all.0, there.1 all.1))

  -- ---- alternatives

  pub met_plain : (conditions : List (PositionCondition (List ℕ))) (r : Bool)
      → (IsTrue r ↔ AllSaid men turn Checked Stuck conditions) → r ≡ true
      → IsTrue true ↔ AllOfSeen men turn Checked Stuck conditions
  met_plain conditions r reports met =
      (λ t. inl ((each_plain conditions).1 (reports.0 met)), λ all. refl)

  pub met_fixed : (conditions : List (PositionCondition (List ℕ))) (r : Bool)
      → (IsTrue r ↔ AllSaid men turn Checked Stuck conditions) → r ≡ false → AreFixed conditions
      → IsTrue false ↔ AllOfSeen men turn Checked Stuck conditions
  met_fixed conditions r reports fails fixed = (
    λ t. absurd (cc),
    λ all. elim all [
      | inl plain ↦ let t : IsTrue r = reports.1 ((each_plain conditions).0 plain) in absurd (cc)
      | inr turned ↦ let t : IsTrue r =
          reports.1 (fixed_each (mirrored_men men) (opposite turn) conditions fixed turned) in
          absurd (cc)
    ],
  )

  pub met_mirror : (conditions own : List (PositionCondition (List ℕ))) (r s : Bool)
      → (IsTrue r ↔ AllSaid men turn Checked Stuck conditions) → r ≡ false
      → AreMirrored own conditions → (IsTrue s ↔ AllSaid men turn Checked Stuck own)
      → IsTrue s ↔ AllOfSeen men turn Checked Stuck conditions
  met_mirror conditions own r s reports fails mirrored reports_mirror = (
    λ t. inr ((mirrored_said own conditions mirrored).0 (reports_mirror.0 t)),
    λ all. elim all [
      | inl plain ↦ let t : IsTrue r = reports.1 ((each_plain conditions).0 plain) in absurd (cc)
      | inr turned ↦ reports_mirror.1 ((mirrored_said own conditions mirrored).1 turned)
    ],
  )

-- one condition more
pub mirrored_more : (own conditions : List (PositionCondition (List ℕ)))
    (one condition : PositionCondition (List ℕ)) → AreMirrored own conditions
    → IsMirrored one condition → AreMirrored (own ++ (one ∷ [])) (conditions ++ (condition ∷ []))
mirrored_more own [] one condition none here = (one, [], ap (λ x. x ++ (one ∷ [])) none, here, refl)
mirrored_more own (first ∷ more) one condition (its, rest, are, mirrored, others) here = (
  its,
  rest ++ (one ∷ []),
  ap (λ x. x ++ (one ∷ [])) are,
  mirrored,
  mirrored_more rest more one condition others here,
)
