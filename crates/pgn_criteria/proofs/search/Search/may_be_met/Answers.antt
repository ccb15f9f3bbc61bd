use Rattle.pgn_criteria.proofs.Common.{◌≡◌, ◌+◌, [], length, drop, map, subst, ap, ◌∙◌, arith}
use Rattle.pgn_criteria.proofs.Common.{drop-length, MeetsSeen, NowhereSeen, codes_in, on_positions}
use Rattle.pgn_criteria.proofs.MarkFacts.{none_seen, one_nowhere}
use Rattle.pgn_criteria.proofs.MeetFacts.{alternatives_from}
use Rattle.pgn_criteria.proofs.search.Search.may_be_met.Goals as goal

pub loop-alternative-init : goal.loop-alternative-init
loop-alternative-init g c = λ none.
    let S = c.args.start.now in
    subst (λ criteria.
    NowhereSeen (MeetsSeen criteria) (g.S.Seen.men S) (g.S.Seen.turn S) (g.S.Seen.checked S)
    (g.S.Seen.stuck S) (codes_in c.args.plies.now))
    (ap (map (λ a. on_positions a.now)) c.deref-alternative-items.ensures.value
    ∙ c.self.view_is) none

pub loop-alternative-preserved : goal.loop-alternative-preserved
loop-alternative-preserved g c = λ none.
    let all = c.deref-alternative-items.result.now in
    let i = c.loop-alternative.alternative-index in
    let own = c.alternative-item.result in
    let S = c.args.start.now in
    c.loop-alternative.invariant
    (one_nowhere (map (λ a. on_positions a.now) (drop i all))
    (map (λ a. on_positions a.now) (drop (i + 1) all)) own.now
    (ap (map (λ a. on_positions a.now))
    (alternatives_from all i own c.loop-alternative-test.true c.alternative-item.is))
    (g.S.Seen.men S) (g.S.Seen.turn S) (g.S.Seen.checked S) (g.S.Seen.stuck S)
    (codes_in c.args.plies.now) (c.may_be_met.ensures c.if-may_be_met.false) none)

pub returns : goal.returns
returns g c = λ same.
    let all = c.deref-alternative-items.result.now in
    let S = c.args.start.now in
    let end : c.loop-alternative.alternative-index ≡ length all = omega arith in
    let none : map (λ a. on_positions a.now) (drop c.loop-alternative.alternative-index all) ≡ [] =
    ap (λ n. map (λ a. on_positions a.now) (drop n all)) end
    ∙ ap (map (λ a. on_positions a.now)) (drop-length all) in
    c.loop-alternative.invariant
    (rw none (none_seen (g.S.Seen.men S) (g.S.Seen.turn S) (g.S.Seen.checked S) (g.S.Seen.stuck S)
    (codes_in c.args.plies.now)))
