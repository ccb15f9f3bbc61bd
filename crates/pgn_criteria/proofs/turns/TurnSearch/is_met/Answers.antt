use Rattle.pgn_criteria.proofs.Common.{◌≡◌, ◌+◌, [], length, drop, map, subst, ap, ◌∙◌, arith}
use Rattle.pgn_criteria.proofs.Common.{drop-length, SomeHold, on_plies, true, false}
use Rattle.pgn_criteria.proofs.MeetFacts.{some_found, some_left, alternatives_from, meets_at}
use Rattle.pgn_criteria.proofs.StageFacts.{turn_met}
use Rattle.pgn_criteria.proofs.turns.TurnSearch.is_met.Goals as goal

pub returns-then-fits_turn : goal.returns-then-fits_turn
returns-then-fits_turn c heading replay ply turn =
    let all = c.deref-alternative-items.result.now in
    let i = c.loop-alternative.alternative-index in
    let own = c.alternative-item.result in
    let P = c.args.turn.position.now in
    meets_at heading replay ply c.args.self.now P true turn.here
    (some_found heading replay ply P (map (λ a. on_plies a.now) (drop i all))
    (map (λ a. on_plies a.now) (drop (i + 1) all)) (on_plies own.now) c.fits_turn.result
    c.args.self.now
    (ap (map (λ a. on_plies a.now))
    (alternatives_from all i own c.loop-alternative-test.true c.alternative-item.is))
    c.if-fits_turn.true
    (turn_met heading replay ply P own.now c.fits_turn.result turn.here
    (c.fits_turn.ensures replay ply turn))
    (c.loop-alternative.invariant heading replay ply turn))

pub loop-alternative-preserved : goal.loop-alternative-preserved
loop-alternative-preserved c heading replay ply turn =
    let all = c.deref-alternative-items.result.now in
    let i = c.loop-alternative.alternative-index in
    let own = c.alternative-item.result in
    let P = c.args.turn.position.now in
    some_left heading replay ply P (map (λ a. on_plies a.now) (drop i all))
    (map (λ a. on_plies a.now) (drop (i + 1) all)) (on_plies own.now) c.fits_turn.result
    c.args.self.now
    (ap (map (λ a. on_plies a.now))
    (alternatives_from all i own c.loop-alternative-test.true c.alternative-item.is))
    c.if-fits_turn.false
    (turn_met heading replay ply P own.now c.fits_turn.result turn.here
    (c.fits_turn.ensures replay ply turn))
    (c.loop-alternative.invariant heading replay ply turn)

pub returns : goal.returns
returns c heading replay ply turn =
    let all = c.deref-alternative-items.result.now in
    let P = c.args.turn.position.now in
    let end : c.loop-alternative.alternative-index ≡ length all = omega arith in
    let none : map (λ a. on_plies a.now) (drop c.loop-alternative.alternative-index all) ≡ [] =
    ap (λ n. map (λ a. on_plies a.now) (drop n all)) end
    ∙ ap (map (λ a. on_plies a.now)) (drop-length all) in
    meets_at heading replay ply c.args.self.now P false turn.here (
      λ t. absurd (cc),
      λ hold.
          absurd (subst (SomeHold heading replay ply P) none
          ((c.loop-alternative.invariant heading replay ply turn).1 hold)),
    )
