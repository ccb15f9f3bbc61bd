use Rattle.pgn_criteria.proofs.Common.{SpellsMove, move_seen}
use Rattle.pgn_criteria.proofs.ClaimFacts.{moves_are, taken_read, taken_spelled}
use Rattle.pgn_criteria.proofs.line.move_of.Goals as goal

pub returns-in_err-claim : goal.returns-in_err-claim
returns-in_err-claim c =
    rw c.from_residual.ensures (λ denied claim spells. c.in_err-claim.ensures claim
    (taken_read SpellsMove moves_are c.args.text.now c.after_not-is_denied.result.1.now
    c.after_not-is_denied.result.0 denied claim c.after_not-is_denied.ensures spells).1)

pub returns : goal.returns
returns c =
    taken_spelled SpellsMove moves_are c.args.text.now c.after_not-is_denied.result.1.now
    c.after_not-is_denied.result.0 (move_seen (λ bytes. bytes.now) c.in_ok-claim.claim)
    c.after_not-is_denied.ensures
    c.in_ok-claim.ensures
