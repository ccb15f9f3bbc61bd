use Rattle.std.proofs.lemmas.List.{append-nil}
use Rattle.pgn_criteria.proofs.Common.{◌≡◌, ◌↔◌, ◌++◌, ◌∷◌, ◌+◌, ℕ, length, drop, map, ap, ◌∙◌}
use Rattle.pgn_criteria.proofs.Common.{arith, map-append, drop-length, State, Replay, Heading}
use Rattle.pgn_criteria.proofs.Common.{SomeHold, on_positions}
use Rattle.pgn_criteria.proofs.MeetFacts.{good_from, alternatives_from}
use Rattle.pgn_criteria.proofs.StageFacts.{all_of_heading, not_of_heading, kept_one, dropped_one}
use Rattle.pgn_criteria.proofs.StageFacts.{same_plies, all_free_within}
use Rattle.pgn_criteria.proofs.meets.Criteria.watch_heading.Goals.{then-is_of_heading+else-not-is_free_of_moves+in_ok-push}
use Rattle.pgn_criteria.proofs.meets.Criteria.watch_heading.Goals.{else-is_of_heading}
use Rattle.pgn_criteria.proofs.meets.Criteria.watch_heading.Goals as goal

pub loop-alternative-preserved : goal.loop-alternative-preserved
loop-alternative-preserved g c =
    let heading : Heading = g.H.Headed.heading c.args.game.now in
    let all = c.deref-alternative-items.result.now in
    let i = c.loop-alternative.alternative-index in
    let own = c.alternative-item.result in
    let before = map (λ a. on_positions a.now) c.loop-alternative.left.items in
    let rest = drop (i + 1) all in
    let front = alternatives_from all i own c.loop-alternative-test.true c.alternative-item.is in
    let so_far : (replay : Replay) (ply : ℕ) (P : State)
    → SomeHold heading replay ply P (before ++ own ∷ rest)
    ↔ SomeHold heading replay ply P c.args.self.now =
    λ replay ply P. rw (← front) (c.loop-alternative.invariant.kept replay ply P) in
    record {
      good = (good_from all i own c.loop-alternative-test.true c.alternative-item.is
          c.loop-alternative.invariant.good).1;
      kept = λ replay ply P.
          elim c.if-is_of_heading.branch [
            | then-is_of_heading+else-not-is_free_of_moves+in_ok-push w ↦
                let of_game = all_of_heading heading replay own
                (w.is_free_of_moves.ensures.0 w.if-not-is_free_of_moves.false)
                (c.is_of_heading.ensures.0 w.if-is_of_heading.true) in
                let free = all_free_within own
                (w.is_free_of_moves.ensures.0 w.if-not-is_free_of_moves.false) in
                let one = kept_one heading replay ply P before rest own 0 of_game free in
                let items = ap (map (λ a. on_positions a.now)) (ap (λ v. v.items) w.left-is
                ∙ w.in_ok-push.ensures.items)
                ∙ map-append (λ a. on_positions a.now) c.loop-alternative.left.items _ in
                rw items (
                  λ s. (so_far replay ply P).0 (one.0 s),
                  λ s. one.1 ((so_far replay ply
                      P).1 s),
                )
            | else-is_of_heading w ↦
                let one = dropped_one heading replay ply P before rest own c.is_of_heading.result
                w.if-is_of_heading.false
                (not_of_heading heading replay own c.is_of_heading.result w.if-is_of_heading.false
                c.is_of_heading.ensures) in
                rw w.left-is (
                  λ s. (so_far replay ply P).0 (one.0 s),
                  λ s. one.1 ((so_far replay ply
                      P).1 s),
                )
          ];
    }

pub returns : goal.returns
returns g c replay =
    let heading : Heading = g.H.Headed.heading c.args.game.now in
    let all = c.deref-alternative-items.result.now in
    let left = map (λ a. on_positions a.now) c.loop-alternative.left.items in
    let end : c.loop-alternative.alternative-index ≡ length all = omega arith in
    let none : left ++ drop c.loop-alternative.alternative-index all ≡ left =
    ap (λ n. left ++ drop n all) end ∙ ap (λ x. left ++ x) (drop-length all) ∙ append-nil left
    in
    same_plies heading replay left c.args.self.now (λ ply P.
    rw (← none) (c.loop-alternative.invariant.kept replay ply P))
