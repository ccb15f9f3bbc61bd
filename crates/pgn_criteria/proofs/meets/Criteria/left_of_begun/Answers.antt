use Rattle.std.proofs.lemmas.List.{append-nil}
use Rattle.pgn_criteria.proofs.Common.{◌≡◌, ◌↔◌, ◌++◌, ◌∷◌, ◌+◌, [], ℕ, length, drop, map, ap, ◌∙◌}
use Rattle.pgn_criteria.proofs.Common.{arith, sym, subst, map-append, append_assoc, drop-length}
use Rattle.pgn_criteria.proofs.Common.{IsTrue, Conditions, State, SomeHold}
use Rattle.pgn_criteria.proofs.ColumnFacts.{each_more}
use Rattle.pgn_criteria.proofs.CountedFacts.{begun_of_all}
use Rattle.pgn_criteria.proofs.MeetFacts.{good_from, alternatives_from}
use Rattle.pgn_criteria.proofs.StageFacts.{dropped_one, same_plies}
use Rattle.pgn_criteria.specs.Private.Counted.{AllOfBegun, AskWords}
use Rattle.pgn_criteria.specs.Private.Stages.{AllOfGame, EachIs}
use Rattle.pgn_criteria.proofs.meets.Criteria.left_of_begun.Goals.{then-are_of_begun+in_ok-push}
use Rattle.pgn_criteria.proofs.meets.Criteria.left_of_begun.Goals.{else-are_of_begun}
use Rattle.pgn_criteria.proofs.meets.Criteria.left_of_begun.Goals as goal

pub loop-alternative-preserved : goal.loop-alternative-preserved
loop-alternative-preserved g c =
    let heading = g.H.Headed.heading c.args.game.now in
    let plies = c.args.plies in
    let all = c.deref-alternative-items.result.now in
    let i = c.loop-alternative.alternative-index in
    let own = c.alternative-item.result in
    let before = map (λ a. a.now) c.loop-alternative.left.items in
    let rest = drop (i + 1) all in
    let front = alternatives_from all i own c.loop-alternative-test.true c.alternative-item.is in
    let told : IsTrue c.are_of_begun.result
    ↔ AllOfBegun heading plies c.args.beginning.now own.games =
    subst (λ x. IsTrue c.are_of_begun.result ↔ AllOfBegun heading plies c.args.beginning.now x)
    (ap (λ (a : Conditions). a.games) c.alternative.view_is)
    (rw (← c.deref.ensures.value) c.are_of_begun.ensures) in
    record {
      good = (good_from all i own c.loop-alternative-test.true c.alternative-item.is
          c.loop-alternative.invariant.good).1;
      kept = λ most replay asks size fits.
          let (still, each, same) = c.loop-alternative.invariant.kept most replay asks size fits in
          let within = subst (EachIs (AskWords most)) front still in
          let says = begun_of_all heading replay plies size most c.args.beginning.now fits own.games
          within.0 in
          let so_far : (ply : ℕ) (P : State) → SomeHold heading replay ply P (before ++ own ∷ rest)
          ↔ SomeHold heading replay ply P c.args.self.now =
          λ ply P. rw (← front) (same ply P) in
          elim c.if-are_of_begun.branch [
            | then-are_of_begun+in_ok-push w ↦
                let of_game = says.0 (told.0 w.if-are_of_begun.true) in
                let items = ap (map (λ a. a.now)) (ap (λ v. v.items) w.left-is
                ∙ w.in_ok-push.ensures.items)
                ∙ map-append (λ a. a.now) c.loop-alternative.left.items _ in
                rw items (
                  within.1,
                  each_more (AllOfGame heading replay) before own each of_game,
                  λ ply P. subst (λ xs. SomeHold heading replay ply P xs
                      ↔ SomeHold heading replay ply P c.args.self.now)
                      (sym (append_assoc before (own ∷ []) rest)) (so_far ply P),
                )
            | else-are_of_begun w ↦ rw w.left-is (
              within.1,
              each,
              λ ply P.
                  let one = dropped_one heading replay ply P before rest own
                  c.are_of_begun.result w.if-are_of_begun.false
                  (λ t. says.0 (told.0 t), λ all. told.1 (says.1 all)) in (
                    λ s. (so_far ply P).0 (one.0 s),
                    λ s. one.1 ((so_far ply P).1 s),
                  ),
            )
          ];
    }

pub returns : goal.returns
returns g c most replay asks size fits =
    let heading = g.H.Headed.heading c.args.game.now in
    let all = c.deref-alternative-items.result.now in
    let left = map (λ a. a.now) c.loop-alternative.left.items in
    let end : c.loop-alternative.alternative-index ≡ length all = omega arith in
    let none : left ++ drop c.loop-alternative.alternative-index all ≡ left =
    ap (λ n. left ++ drop n all) end ∙ ap (λ x. left ++ x) (drop-length all) ∙ append-nil left in
    let (still, each, same) = c.loop-alternative.invariant.kept most replay asks size fits in
    (each, same_plies heading replay left c.args.self.now (λ ply P. rw (← none) (same ply P)))
