use Rattle.pgn_criteria.proofs.Common.{◌+◌, drop, sym, ◌∙◌, seen}
use Rattle.pgn_criteria.proofs.MarkFacts.{one_needs}
use Rattle.pgn_criteria.proofs.MeetFacts.{alternatives_from}
use Rattle.pgn_criteria.proofs.marks.need_mark.Goals as goal

pub returns-then-asks_mark : goal.returns-then-asks_mark
returns-then-asks_mark c = λ t.
    let all = c.args.conditions.now in
    let i = c.loop-condition.condition-index in
    let own = c.condition-item.result in
    one_needs (seen (λ text. text.items)) c.args.mark all i own (drop (i + 1) all)
    (alternatives_from all i own c.loop-condition-test.true c.condition-item.is)
    c.if-not-condition.true
    (sym c.asks_mark.ensures ∙ c.if-asks_mark.true)
