use Rattle.std.specs.Prelude.{Option, Some, None}
use Rattle.pgn_criteria.proofs.Common.{◌≡◌, ◌≢◌, ℕ, Bool, true, false, List, IsTrue, sym, subst}
use Rattle.pgn_criteria.proofs.Common.{codes, MatchOption, SpellsPosition, SpellsTaken}
use Rattle.pgn_criteria.proofs.Common.{SpellsTurned, can_be_mirrored, run_of, after_word}
use Rattle.pgn_criteria.proofs.Common.{position_seen, PositionCondition, PositionClaim}
use Rattle.pgn_criteria.proofs.ClaimFacts.{positions_are, taken_either}
use Rattle.pgn_criteria.proofs.ConditionFacts.{either_read, either_spelled}
use Rattle.pgn_criteria.proofs.line.position_of.Goals as goal

-- what follows `either` is the condition, or there is none
turned : {T : Type 0} (bytes : T
    → List ℕ) (text own : List ℕ) (found : Option (PositionCondition T))
    → run_of text ≡ codes "either" → own ≡ after_word text
    → MatchOption found ((denied : Bool) (claim : PositionClaim (List ℕ))
    → IsTrue (can_be_mirrored claim) → SpellsTaken SpellsPosition own denied claim → ⊥)
    (λ f. (f.is_either ≡ true) × IsTrue (can_be_mirrored (position_seen bytes f.claim))
    × SpellsTaken SpellsPosition own f.is_denied (position_seen bytes f.claim))
    → MatchOption found ((own : PositionCondition (List ℕ))
    → SpellsTurned text own.is_either own.is_denied own.claim → ⊥)
    (λ f. SpellsTurned text f.is_either f.is_denied (position_seen bytes f.claim))
turned bytes text own (Some f) run is reports =
    let claim = position_seen bytes f.claim in
    rw reports.0 (either_spelled text own f.is_denied claim run is reports.1 reports.2)
turned bytes text own None run is none =
    λ condition. by condition.is_either condition.is_denied condition.claim
  where
    by : (either denied : Bool) (claim : PositionClaim (List ℕ))
        → SpellsTurned text either denied claim → ⊥
    by false denied claim spells =
        taken_either SpellsPosition positions_are text denied claim run spells
    by true denied claim spells =
        let read = either_read text denied claim spells in
        none denied claim read.1
        (subst (λ x. SpellsTaken SpellsPosition x denied claim) (sym is) read.2)

-- a text that does not begin with it is one without it
plain : {T : Type 0} (bytes : T → List ℕ) (text : List ℕ) (found : Option (PositionCondition T))
    → run_of text ≢ codes "either"
    → MatchOption found ((denied : Bool) (claim : PositionClaim (List ℕ))
    → SpellsTaken SpellsPosition text denied claim → ⊥)
    (λ f. (f.is_either ≡ false)
    × SpellsTaken SpellsPosition text f.is_denied (position_seen bytes f.claim))
    → MatchOption found ((own : PositionCondition (List ℕ))
    → SpellsTurned text own.is_either own.is_denied own.claim → ⊥)
    (λ f. SpellsTurned text f.is_either f.is_denied (position_seen bytes f.claim))
plain bytes text (Some f) other reports = rw reports.0 reports.1
plain bytes text None other none =
    λ condition. by condition.is_either condition.is_denied condition.claim
  where
    by : (either denied : Bool) (claim : PositionClaim (List ℕ))
        → SpellsTurned text either denied claim → ⊥
    by false denied claim spells = none denied claim spells
    by true denied claim spells = other (either_read text denied claim spells).0

pub returns-in-Some : goal.returns-in-Some
returns-in-Some c =
    turned (λ bytes. bytes.now) c.args.text.now c.in-Some.own.now c.either_of.result
    c.in-Some.ensures.0 c.in-Some.ensures.1 c.either_of.ensures

pub returns-in-None : goal.returns-in-None
returns-in-None c =
    plain (λ bytes. bytes.now) c.args.text.now c.plain_of.result c.in-None.ensures
    c.plain_of.ensures
