use Rattle.pgn_criteria.proofs.Common.{◌+◌, drop, map, codes_in, SaysOfNumbers, position_seen, seen}
use Rattle.pgn_criteria.proofs.MarkFacts.{one_material, placed_of}
use Rattle.pgn_criteria.proofs.MeetFacts.{alternatives_from}
use Rattle.pgn_criteria.proofs.numbers.numbers_are_shown.Goals as goal

pub returns-then-not-material_may_fit : goal.returns-then-not-material_may_fit
returns-then-not-material_may_fit g c = λ same.
    let all = c.args.conditions.now in
    let i = c.loop-condition.condition-index in
    let own = c.condition-item.result in
    let S = c.args.start.now in
    let facts = c.material_may_fit.ensures c.if-not-material_may_fit.true in
    placed_of (SaysOfNumbers own.is_either (position_seen (λ text. text.items) own.claim))
    (map (seen (λ text. text.items)) all)
    (one_material (seen (λ text. text.items)) all i own (drop (i + 1) all)
    (alternatives_from all i own c.loop-condition-test.true c.condition-item.is) facts.0)
    (g.S.Seen.men S) (g.S.Seen.turn S) (g.S.Seen.checked S) (g.S.Seen.stuck S)
    (codes_in c.args.plies.now) facts.1
