use Rattle.std.proofs.lemmas.List.{append-nil}
use Rattle.pgn_criteria.proofs.Common.{◌≡◌, ◌↔◌, ◌++◌, ◌∷◌, ◌+◌, ℕ, length, drop, map, ap, ◌∙◌}
use Rattle.pgn_criteria.proofs.Common.{arith, map-append, drop-length, State, Replay, Heading}
use Rattle.pgn_criteria.proofs.Common.{SomeHold, on_plies}
use Rattle.pgn_criteria.proofs.MeetFacts.{good_from, alternatives_from}
use Rattle.pgn_criteria.proofs.StageFacts.{kept_turn, dropped_one, same_plies}
use Rattle.pgn_criteria.proofs.CountedFacts.{games_of_counted, not_counted}
use Rattle.pgn_criteria.proofs.meets.Criteria.watch_turns_of.Goals.{then-is_of_counted+else-not-is_of_turns+in_ok-push}
use Rattle.pgn_criteria.proofs.meets.Criteria.watch_turns_of.Goals.{else-is_of_counted}
use Rattle.pgn_criteria.proofs.meets.Criteria.watch_turns_of.Goals as goal

pub loop-alternative-preserved : goal.loop-alternative-preserved
loop-alternative-preserved g c =
    let heading : Heading = g.H.Headed.heading c.args.game.now in
    let plies = c.args.plies in
    let all = c.deref-alternative-items.result.now in
    let i = c.loop-alternative.alternative-index in
    let own = c.alternative-item.result in
    let before = map (λ a. on_plies a.now) c.loop-alternative.left.items in
    let rest = drop (i + 1) all in
    let front = alternatives_from all i own c.loop-alternative-test.true c.alternative-item.is in
    let so_far : (replay : Replay) → length replay.played ≡ plies → (ply : ℕ) (P : State)
    → SomeHold heading replay ply P (before ++ own ∷ rest)
    ↔ SomeHold heading replay ply P c.args.self.now =
    λ replay size ply P. rw (← front) (c.loop-alternative.invariant.kept replay size ply P) in
    record {
      good = (good_from all i own c.loop-alternative-test.true c.alternative-item.is
          c.loop-alternative.invariant.good).1;
      kept = λ replay size ply P.
          elim c.if-is_of_counted.branch [
            | then-is_of_counted+else-not-is_of_turns+in_ok-push w ↦
                let free = w.is_of_turns.ensures.0 w.if-not-is_of_turns.false in
                let of_game = games_of_counted heading replay plies size own.games free.0
                (c.is_of_counted.ensures.0 w.if-is_of_counted.true) in
                let one = kept_turn heading replay ply P before rest own of_game free.1 in
                let items = ap (map (λ a. on_plies a.now)) (ap (λ v. v.items) w.left-is
                ∙ w.in_ok-push.ensures.items)
                ∙ map-append (λ a. on_plies a.now) c.loop-alternative.left.items _ in
                rw items (
                  λ s. (so_far replay size ply P).0 (one.0 s),
                  λ s. one.1 ((so_far replay size ply P).1 s),
                )
            | else-is_of_counted w ↦
                let one = dropped_one heading replay ply P before rest own c.is_of_counted.result
                w.if-is_of_counted.false
                (not_counted heading replay plies size own c.is_of_counted.result
                w.if-is_of_counted.false c.is_of_counted.ensures) in
                rw w.left-is (
                  λ s. (so_far replay size ply P).0 (one.0 s),
                  λ s. one.1 ((so_far replay size ply P).1 s),
                )
          ];
    }

pub returns : goal.returns
returns g c replay size =
    let heading : Heading = g.H.Headed.heading c.args.game.now in
    let all = c.deref-alternative-items.result.now in
    let left = map (λ a. on_plies a.now) c.loop-alternative.left.items in
    let end : c.loop-alternative.alternative-index ≡ length all = omega arith in
    let none : left ++ drop c.loop-alternative.alternative-index all ≡ left =
    ap (λ n. left ++ drop n all) end ∙ ap (λ x. left ++ x) (drop-length all) ∙ append-nil left in
    same_plies heading replay left c.args.self.now (λ ply P.
    rw (← none) (c.loop-alternative.invariant.kept replay size ply P))
