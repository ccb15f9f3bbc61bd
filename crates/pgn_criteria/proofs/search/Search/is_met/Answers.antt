use Rattle.pgn_criteria.proofs.Common.{◌≡◌, ◌+◌, [], length, drop, map, subst, ap, ◌∙◌, arith}
use Rattle.pgn_criteria.proofs.Common.{drop-length, SomeHold, on_positions}
use Rattle.pgn_criteria.proofs.MeetFacts.{some_found, some_left, alternatives_from}
use Rattle.pgn_criteria.proofs.StageFacts.{reports_seen}
use Rattle.pgn_criteria.proofs.search.Search.is_met.Goals as goal

pub returns-then-is_met : goal.returns-then-is_met
returns-then-is_met g c P seen heading replay ply =
    let all = c.deref-alternative-items.result.now in
    let i = c.loop-alternative.alternative-index in
    let own = c.alternative-item.result in
    let S = c.args.seen.now in
    some_found heading replay ply P (map (λ a. on_positions a.now) (drop i all))
    (map (λ a. on_positions a.now) (drop (i + 1) all)) (on_positions own.now) c.is_met.result
    c.args.self.now
    (ap (map (λ a. on_positions a.now))
    (alternatives_from all i own c.loop-alternative-test.true c.alternative-item.is))
    c.if-is_met.true
    (reports_seen heading replay ply P own.now c.is_met.result (g.S.Seen.men S) (g.S.Seen.turn S)
    (g.S.Seen.checked S) (g.S.Seen.stuck S) seen c.is_met.ensures)
    (c.loop-alternative.invariant P seen heading replay ply)

pub loop-alternative-preserved : goal.loop-alternative-preserved
loop-alternative-preserved g c P seen heading replay ply =
    let all = c.deref-alternative-items.result.now in
    let i = c.loop-alternative.alternative-index in
    let own = c.alternative-item.result in
    let S = c.args.seen.now in
    some_left heading replay ply P (map (λ a. on_positions a.now) (drop i all))
    (map (λ a. on_positions a.now) (drop (i + 1) all)) (on_positions own.now) c.is_met.result
    c.args.self.now
    (ap (map (λ a. on_positions a.now))
    (alternatives_from all i own c.loop-alternative-test.true c.alternative-item.is))
    c.if-is_met.false
    (reports_seen heading replay ply P own.now c.is_met.result (g.S.Seen.men S) (g.S.Seen.turn S)
    (g.S.Seen.checked S) (g.S.Seen.stuck S) seen c.is_met.ensures)
    (c.loop-alternative.invariant P seen heading replay ply)

pub returns : goal.returns
returns g c P seen heading replay ply =
    let all = c.deref-alternative-items.result.now in
    let end : c.loop-alternative.alternative-index ≡ length all = omega arith in
    let none : map (λ a. on_positions a.now) (drop c.loop-alternative.alternative-index all) ≡ [] =
    ap (λ n. map (λ a. on_positions a.now) (drop n all)) end
    ∙ ap (map (λ a. on_positions a.now)) (drop-length all) in (
      λ t. absurd (cc),
      λ hold.
          absurd (subst (SomeHold heading replay ply P) none
          ((c.loop-alternative.invariant P seen heading replay ply).1 hold)),
    )
