use Rattle.std.proofs.lemmas.List.{append-nil}
use Rattle.pgn_criteria.proofs.Common.{◌≡◌, ◌↔◌, ◌++◌, ◌∷◌, ◌+◌, ℕ, length, drop, map, ap, ◌∙◌}
use Rattle.pgn_criteria.proofs.Common.{arith, map-append, drop-length, State, Heading}
use Rattle.pgn_criteria.proofs.Common.{SomeHold, on_positions}
use Rattle.pgn_criteria.proofs.MeetFacts.{good_from, within_from, alternatives_from}
use Rattle.pgn_criteria.proofs.BeginningFacts.{none_of_none}
use Rattle.pgn_criteria.proofs.StageFacts.{kept_one, dropped_one}
use Rattle.pgn_criteria.proofs.search.left_after.Goals.{then-is_of_game+in_ok-push, else-is_of_game}
use Rattle.pgn_criteria.proofs.search.left_after.Goals as goal

pub loop-alternative-preserved : goal.loop-alternative-preserved
loop-alternative-preserved g c =
    let heading : Heading = g.H.Headed.heading c.args.game.now in
    let replay = c.args.beginning.now in
    let all = c.args.alternatives.now in
    let i = c.loop-alternative.alternative-index in
    let own = c.alternative-item.result in
    let before = map (λ a. on_positions a.now) c.loop-alternative.left.items in
    let rest = drop (i + 1) all in
    let front = alternatives_from all i own c.loop-alternative-test.true c.alternative-item.is in
    let most = c.loop-alternative.invariant.still.0 in
    let asked = within_from most all i own c.loop-alternative-test.true c.alternative-item.is
    c.loop-alternative.invariant.still.1 in
    let so_far : (ply : ℕ) (P : State) → SomeHold heading replay ply P (before ++ own ∷ rest)
    ↔ SomeHold heading replay ply P c.args.alternatives.now =
    λ ply P. rw (← front) (c.loop-alternative.invariant.kept ply P) in
    record {
      good = (good_from all i own c.loop-alternative-test.true c.alternative-item.is
          c.loop-alternative.invariant.good).1;
      still = (most, asked.1);
      kept = λ ply P.
          elim c.if-is_of_game.branch [
            | then-is_of_game+in_ok-push w ↦
                let one = kept_one heading replay ply P before rest own most
                (c.is_of_game.ensures.0 w.if-is_of_game.true) asked.0 in
                let items = ap (map (λ a. on_positions a.now)) (ap (λ v. v.items) w.left-is
                ∙ w.in_ok-push.ensures.items)
                ∙ map-append (λ a. on_positions a.now) c.loop-alternative.left.items _ in
                rw items (λ s. (so_far ply P).0 (one.0 s), λ s. one.1 ((so_far ply P).1 s))
            | else-is_of_game w ↦
                let one = dropped_one heading replay ply P before rest own c.is_of_game.result
                w.if-is_of_game.false c.is_of_game.ensures in
                rw w.left-is (λ s. (so_far ply P).0 (one.0 s), λ s. one.1 ((so_far ply P).1 s))
          ];
    }

pub returns-clause-kept : goal.returns-clause-kept
returns-clause-kept g c ply P =
    let heading : Heading = g.H.Headed.heading c.args.game.now in
    let replay = c.args.beginning.now in
    let all = c.args.alternatives.now in
    let left = map (λ a. on_positions a.now) c.loop-alternative.left.items in
    let end : c.loop-alternative.alternative-index ≡ length all = omega arith in
    let none : left ++ drop c.loop-alternative.alternative-index all ≡ left =
    ap (λ n. left ++ drop n all) end ∙ ap (λ x. left ++ x) (drop-length all) ∙ append-nil left
    in
    rw (← none) (c.loop-alternative.invariant.kept ply P)

pub returns-clause-free : goal.returns-clause-free
returns-clause-free g c = none_of_none (λ a. a.now) c.loop-alternative.left.items
