use Rattle.std.proofs.lemmas.Bool.{and_left}
use Rattle.pgn_criteria.proofs.Common.{◌≡◌, ℕ, true, false, List, Vec, Global, refl, sym, ap, ◌∙◌}
use Rattle.pgn_criteria.proofs.Common.{and_from, and_right, is_turned, can_be_mirrored, seen}
use Rattle.pgn_criteria.proofs.Common.{position_seen, PositionCondition}
use Rattle.pgn_criteria.proofs.ClaimFacts.{can_be_seen}
use Rattle.pgn_criteria.proofs.mirror.mirrored.Goals.{then-condition+then-can_be_mirrored+in_ok-claim}
use Rattle.pgn_criteria.proofs.mirror.mirrored.Goals.{else-condition+in_ok-claim-2}
use Rattle.pgn_criteria.proofs.mirror.mirrored.Goals.{else-condition-via-then-condition+else-can_be_mirrored}
use Rattle.pgn_criteria.proofs.mirror.mirrored.Goals.{else-condition-via-else-condition}
use Rattle.pgn_criteria.proofs.mirror.mirrored.Goals as goal

abbrev view : PositionCondition (Vec ℕ Global) → PositionCondition (List ℕ)
view condition = seen (λ text. text.items) condition

pub returns : goal.returns
returns c =
    let condition = c.args.condition.now in
    let claim = position_seen (λ text. text.items) condition.claim in
    elim c.if-condition.branch [
      | then-condition+then-can_be_mirrored+in_ok-claim w ↦
          let can : can_be_mirrored claim ≡ true =
          can_be_seen (λ text. text.items) condition.claim ∙ sym w.can_be_mirrored.ensures
          ∙ w.if-can_be_mirrored.true in
          let turned : is_turned (view condition) ≡ true =
          and_from condition.is_either (can_be_mirrored claim) w.if-condition.true can in
          record {
            denied = refl;
            turned = λ is. rw w.claim-is w.in_ok-claim.ensures;
            fixed = λ fixed. absurd (cc (turned, fixed));
          }
      | else-condition+in_ok-claim-2 w ↦
          let fixed : is_turned (view condition) ≡ false =
          elim w.else-condition.branch [
            | else-condition-via-then-condition+else-can_be_mirrored w' ↦
                and_right condition.is_either (can_be_mirrored claim)
                (can_be_seen (λ text. text.items) condition.claim ∙ sym w'.can_be_mirrored.ensures
                ∙ w'.if-can_be_mirrored.false)
            | else-condition-via-else-condition w' ↦ and_left condition.is_either
                (can_be_mirrored claim) w'.if-condition.false
          ] in
          record {
            denied = refl;
            turned = λ turned. absurd (cc (turned, fixed));
            fixed = λ is. ap (position_seen (λ text. text.items)) w.claim-is
                ∙ w.in_ok-claim-2.ensures;
          }
    ]
