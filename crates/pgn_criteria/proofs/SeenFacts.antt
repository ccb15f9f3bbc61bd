-- What conditions say of one position, by what is seen of it.
use Rattle.std.proofs.Common.{if◌then◌else◌}
use Rattle.pgn_criteria.proofs.Common.{◌≡◌, ◌↔◌, ℕ, Bool, true, false, List, [], ◌∷◌, refl, sym}
use Rattle.pgn_criteria.proofs.Common.{◌∙◌, inl, inr, and_parts, HasMove, Placement, opposite}
use Rattle.pgn_criteria.proofs.Common.{State, IsCheck, Side, White, is_turned, Holds, EachHold}
use Rattle.pgn_criteria.proofs.Common.{PositionsHold, mirrored_men, mirror, can_be_mirrored}
use Rattle.pgn_criteria.proofs.Common.{SaysOfSeen, OfSeen, AllSaid, EachOfSeen, AllOfSeen}
use Rattle.pgn_criteria.proofs.Common.{AllOfStage, AllOfPatterns, ArePatterns, stage_of, Squares}
use Rattle.pgn_criteria.proofs.Common.{PositionCondition, PositionClaim, Fen, Flip, Material, Turn}
use Rattle.pgn_criteria.proofs.Common.{Check, Mate, Stalemate}
use Rattle.pgn_criteria.specs.Private.Stages.{AllOfRest}
use Rattle.pgn_criteria.specs.declared.meets.Stage.{Stage}
use Rattle.pgn_criteria.specs.declared.meets.Stage.TheVariants.{Men, Attacks, Replies}
use Rattle.pgn_criteria.proofs.TakenFacts.{same_taken}

-- ---- stages

module _ (men : Placement) (turn : Side) (Checked Stuck : Type 0) where
  abbrev Says : Bool → PositionClaim (List ℕ) → Type 0
  Says denied claim = SaysOfSeen men turn Checked Stuck denied claim

  abbrev SayAll : Stage → List (PositionCondition (List ℕ)) → Type 0
  SayAll stage conditions = AllOfStage stage men turn Checked Stuck conditions

  -- each condition on the position is tried at some stage
  one_stage : (denied : Bool) (claim : PositionClaim (List ℕ))
      → (stage_of claim ≡ Squares → Says denied claim) → (stage_of claim ≡ Men → Says denied claim)
      → (stage_of claim ≡ Attacks → Says denied claim)
      → (stage_of claim ≡ Replies → Says denied claim) → Says denied claim
  one_stage denied (Fen pattern) squares counts attacks replies = squares refl
  one_stage denied (Flip pattern) squares counts attacks replies = squares refl
  one_stage denied (Material white black) squares counts attacks replies = counts refl
  one_stage denied (Turn side) squares counts attacks replies = counts refl
  one_stage denied Check squares counts attacks replies = attacks refl
  one_stage denied Mate squares counts attacks replies = replies refl
  one_stage denied Stalemate squares counts attacks replies = replies refl

  all_stages : (conditions : List (PositionCondition (List ℕ))) → SayAll Squares conditions
      → SayAll Men conditions → SayAll Attacks conditions → SayAll Replies conditions
      → AllSaid men turn Checked Stuck conditions
  all_stages [] squares counts attacks replies = tt
  all_stages (condition ∷ more) squares counts attacks replies = (
    one_stage condition.is_denied condition.claim squares.0 counts.0 attacks.0 replies.0,
    all_stages more squares.1 counts.1 attacks.1 replies.1,
  )

  each_stage : (stage : Stage) (conditions : List (PositionCondition (List ℕ)))
      → AllSaid men turn Checked Stuck conditions → SayAll stage conditions
  each_stage stage [] all = tt
  each_stage stage (condition ∷ more) all = ((λ here. all.0), each_stage stage more all.1)

  -- what is said of a position is what patterns say, and what the others say
  pub stages_parted : (conditions : List (PositionCondition (List ℕ)))
      → AllSaid men turn Checked Stuck conditions
      ↔ (SayAll Squares conditions × AllOfRest men turn Checked Stuck conditions)
  stages_parted conditions = (
    λ all. (
      each_stage Squares conditions all,
      (
        each_stage Men conditions all,
        each_stage Attacks conditions all,
        each_stage Replies conditions all,
      ),
    ),
    λ both. all_stages conditions both.0 both.1.0 both.1.1 both.1.2,
  )

  -- where all are patterns, the others say nothing
  none_of_stage : (stage : Stage) (conditions : List (PositionCondition (List ℕ)))
      → (Squares ≡ stage → ⊥) → ArePatterns conditions → SayAll stage conditions
  none_of_stage stage [] no_squares patterns = tt
  none_of_stage stage (condition ∷ more) no_squares patterns = (
    (λ here. absurd (no_squares (sym patterns.0 ∙ here))),
    none_of_stage stage more no_squares patterns.1,
  )

  pub patterns_rest : (conditions : List (PositionCondition (List ℕ))) → ArePatterns conditions
      → AllOfRest men turn Checked Stuck conditions
  patterns_rest conditions patterns = (
    none_of_stage Men conditions (λ is. cc) patterns,
    none_of_stage Attacks conditions (λ is. cc) patterns,
    none_of_stage Replies conditions (λ is. cc) patterns,
  )

  -- what patterns say is said of the men alone
  one_pattern : (denied : Bool) (claim : PositionClaim (List ℕ))
      → (stage_of claim ≡ Squares → Says denied claim)
      ↔ (stage_of claim ≡ Squares → SaysOfSeen men White ⊥ ⊥ denied claim)
  one_pattern denied (Fen pattern) = (λ says. says, λ says. says)
  one_pattern denied (Flip pattern) = (λ says. says, λ says. says)
  one_pattern denied _ = (λ says is. absurd (cc), λ says is. absurd (cc))

  pub patterns_said : (conditions : List (PositionCondition (List ℕ)))
      → SayAll Squares conditions ↔ AllOfPatterns men conditions
  patterns_said [] = (λ all. tt, λ all. tt)
  patterns_said (condition ∷ more) =
      let here = one_pattern condition.is_denied condition.claim in
      let there = patterns_said more in
      (λ all. (here.0 all.0, there.0 all.1), λ all. (here.1 all.0, there.1 all.1))

-- ---- check, and whether there is a move, said otherwise

-- facts that say the same give the same answers
module _ (men : Placement) (turn : Side) (A B C D : Type 0) (check : A ↔ B) (stuck : C ↔ D) where
  one_said : (denied : Bool) (claim : PositionClaim (List ℕ))
      → SaysOfSeen men turn A C denied claim ↔ SaysOfSeen men turn B D denied claim
  one_said denied Check = same_taken denied check
  one_said denied Mate =
      same_taken denied
      (λ both. (check.0 both.0, stuck.0 both.1), λ both. (check.1 both.0, stuck.1 both.1))
  one_said denied Stalemate = same_taken denied (
    λ both. ((λ b. both.0 (check.1 b)), stuck.0 both.1),
    λ both. ((λ a. both.0 (check.0 a)), stuck.1 both.1),
  )
  one_said denied _ = (λ says. says, λ says. says)

  pub said : (condition : PositionCondition (List ℕ))
      → OfSeen men turn A C condition ↔ OfSeen men turn B D condition
  said condition = one_said condition.is_denied condition.claim

each_said : (men others : Placement) (turn other : Side) (A B C D : Type 0)
    (conditions : List (PositionCondition (List ℕ))) → (A ↔ B) → (C ↔ D)
    → EachOfSeen men turn others other A C conditions
    ↔ EachOfSeen men turn others other B D conditions
each_said men others turn other A B C D [] check stuck = (λ all. tt, λ all. tt)
each_said men others turn other A B C D (condition ∷ more) check stuck =
    let here = said (if is_turned condition then others else men) (if is_turned condition then other
    else turn) A B C D check stuck condition in
    let there = each_said men others turn other A B C D more check stuck in
    (λ all. (here.0 all.0, there.0 all.1), λ all. (here.1 all.0, there.1 all.1))

pub all_said : (men : Placement) (turn : Side) (A B C D : Type 0)
    (conditions : List (PositionCondition (List ℕ))) → (A ↔ B) → (C ↔ D)
    → AllOfSeen men turn A C conditions ↔ AllOfSeen men turn B D conditions
all_said men turn A B C D conditions check stuck =
    let plain = each_said men men turn turn A B C D conditions check stuck in
    let turned =
    each_said men (mirrored_men men) turn (opposite turn) A B C D conditions check stuck in (
      λ all. elim all [ inl h ↦ inl (plain.0 h) | inr h ↦ inr (turned.0 h) ],
      λ all. elim all [ inl h ↦ inl (plain.1 h) | inr h ↦ inr (turned.1 h) ],
    )

-- ---- the mirror

-- a claim that can be made of the mirror says nothing of check, nor of moves
pub said_of_men : (men : Placement) (turn : Side) (A B C D : Type 0) (denied : Bool)
    (claim : PositionClaim (List ℕ)) → can_be_mirrored claim ≡ true
    → SaysOfSeen men turn A C denied claim ↔ SaysOfSeen men turn B D denied claim
said_of_men men turn A B C D denied Check can = absurd (cc)
said_of_men men turn A B C D denied Mate can = absurd (cc)
said_of_men men turn A B C D denied Stalemate can = absurd (cc)
said_of_men men turn A B C D denied _ can = (λ says. says, λ says. says)

pub can_be_turned : (condition : PositionCondition (List ℕ)) → is_turned condition ≡ true
    → can_be_mirrored condition.claim ≡ true
can_be_turned condition turned =
    (and_parts condition.is_either (can_be_mirrored condition.claim) turned).1

-- what is said of what is seen of a position is said of the position
each_position : (P other : State) (conditions : List (PositionCondition (List ℕ)))
    → EachOfSeen P.men P.turn other.men other.turn (IsCheck P.men P.turn) (¬ HasMove P) conditions
    ↔ EachHold P other conditions
each_position P other [] = (λ all. tt, λ all. tt)
each_position P other (condition ∷ more) =
    let there = each_position P other more in
    let here = elim (is_turned condition) as (λ t. is_turned condition ≡ t
    → OfSeen (if t then other.men else P.men) (if t then other.turn
    else P.turn) (IsCheck P.men P.turn) (¬ HasMove P) condition
    ↔ Holds (if t then other else P) condition) [
      | true ↦ λ turned. said_of_men other.men other.turn (IsCheck P.men P.turn)
          (IsCheck other.men other.turn) (¬ HasMove P) (¬ HasMove other) condition.is_denied
          condition.claim (can_be_turned condition turned)
      | false ↦ λ fixed. (λ says. says, λ says. says)
    ] refl in
    (λ all. (here.0 all.0, there.0 all.1), λ all. (here.1 all.0, there.1 all.1))

pub all_position : (P : State) (conditions : List (PositionCondition (List ℕ)))
    → AllOfSeen P.men P.turn (IsCheck P.men P.turn) (¬ HasMove P) conditions
    ↔ PositionsHold P conditions
all_position P conditions =
    let plain = each_position P P conditions in
    let turned = each_position P (mirror P) conditions in (
      λ all. elim all [ inl h ↦ inl (plain.0 h) | inr h ↦ inr (turned.0 h) ],
      λ all. elim all [ inl h ↦ inl (plain.1 h) | inr h ↦ inr (turned.1 h) ],
    )
