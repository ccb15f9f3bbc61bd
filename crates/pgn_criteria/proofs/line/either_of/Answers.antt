use Rattle.pgn_criteria.proofs.Common.{◌≡◌, true, false, sym, ap, ◌∙◌, SpellsPosition}
use Rattle.pgn_criteria.proofs.Common.{position_seen}
use Rattle.pgn_criteria.proofs.ClaimFacts.{positions_are, same_key, can_by_key, can_read}
use Rattle.pgn_criteria.proofs.ClaimFacts.{can_be_seen}
use Rattle.pgn_criteria.proofs.line.either_of.Goals as goal

pub returns-then-not-can_be_mirrored : goal.returns-then-not-can_be_mirrored
unfolding positions_are
returns-then-not-can_be_mirrored c denied claim can spells =
    let condition = c.in_ok-condition.condition in
    let read = position_seen (λ bytes. bytes.now) condition.claim in
    let same =
    same_key SpellsPosition positions_are c.args.text.now denied condition.is_denied claim read
    spells c.in_ok-condition.ensures.1 in
    let clash : false ≡ true = sym c.if-not-can_be_mirrored.true ∙ c.can_be_mirrored.ensures
    ∙ sym (can_be_seen (λ bytes. bytes.now) condition.claim)
    ∙ can_read read ∙ ap can_by_key (sym same) ∙ sym (can_read claim) ∙ can in
    cc
