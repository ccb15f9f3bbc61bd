use Rattle.pgn_criteria.proofs.Common.{◌+◌, drop, move_seen, stated, IsSoOfMoves}
use Rattle.pgn_criteria.proofs.MeetFacts.{alternatives_from}
use Rattle.pgn_criteria.proofs.StageFacts.{one_taken}
use Rattle.pgn_criteria.proofs.by_record.words_are_shown.Goals as goal

pub returns-then-not-claim_is_shown : goal.returns-then-not-claim_is_shown
returns-then-not-claim_is_shown c out P replay by ply all =
    let own = c.condition-item.result in
    let i = c.loop-condition.condition-index in
    c.claim_is_shown.ensures c.if-not-claim_is_shown.true P replay by ply
    (one_taken (IsSoOfMoves replay ply) (stated (move_seen (λ text. text.items)))
    c.args.conditions.now i own (drop (i + 1) c.args.conditions.now)
    (alternatives_from c.args.conditions.now i own c.loop-condition-test.true c.condition-item.is)
    c.if-not-condition.true all)
