-- A move of the main line may have an opening after it, and another element changes nothing.
use Rattle.pgn_game.proofs.Common.{◌++◌, ◌∷◌, [], map, refl, subst, sym, arith, item_of, main_words}
use Rattle.pgn_game.proofs.Common.{err_from_is_err_and}
use Rattle.pgn_game.specs.Public.Openings.{ends_of}
use Rattle.pgn_game.proofs.WalkFacts.{walk_begins, stuck_at, walk_ends, items_step, items_end}
use Rattle.pgn_game.proofs.openings.Following.{HasFollowed, none_at_first, followed_step}
use Rattle.pgn_game.proofs.openings.Following.{plies_walked}
use Rattle.pgn_game.proofs.openings.Openings.follow.Goals.{then-is_some, else-is_some}
use Rattle.pgn_game.proofs.openings.Openings.follow.Goals as goal

pub loop-element-init : goal.loop-element-init
loop-element-init c =
    let begun = c.new-walk.ensures in
    record {
      plies = omega (arith, begun.1);
      depth = omega (arith, begun.2);
      followed = (
        [],
        [],
        walk_begins c.args.start c.new-walk.result (map item_of c.args.elements.now) begun.0 begun.1
            begun.2,
        sym begun.1,
        c.after-found.ensures [] refl (none_at_first (ends_of c.args.self.now)),
      );
    }

pub loop-element-preserved : goal.loop-element-preserved
loop-element-preserved c =
    let ends = ends_of c.args.self.now in
    let words = main_words (map item_of c.args.elements.now) 0 in
    let there = subst (λ items. HasFollowed ends c.args.start words c.loop-element.walk items
    c.loop-element.found)
    (items_step c.args.elements.now c.loop-element.element-index _ (omega arith))
    c.loop-element.invariant.followed in
    record {
      plies = omega arith;
      depth = omega arith;
      followed = elim c.if-is_some.branch [
        | then-is_some w ↦ rw w.found-is (followed_step ends c.loop-element.found _
            c.in_ok-step.field-0 there c.in_ok-step.ensures.stepped
            (λ _. w.after-found-then-is_some.ensures) (λ none.
            let some = w.if-is_some.ensures in absurd (cc)))
        | else-is_some w ↦ rw w.found-is (followed_step ends c.loop-element.found _
            c.in_ok-step.field-0 there c.in_ok-step.ensures.stepped (λ some.
            let none = w.if-is_some.ensures in absurd (cc)) (λ _. refl))
      ];
    }

pub returns : goal.returns
returns c =
    let words = main_words (map item_of c.args.elements.now) 0 in
    let there = subst (λ items. HasFollowed (ends_of c.args.self.now) c.args.start words
    c.loop-element.walk items c.loop-element.found)
    (items_end c.args.elements.now c.loop-element.element-index (omega arith))
    c.loop-element.invariant.followed in
    let line = walk_ends there.2 in (
      there.0 ++ c.loop-element.walk.position ∷ [],
      there.1,
      line,
      there.4,
      plies_walked c.args.start words there.0 c.loop-element.walk.position there.1
          c.loop-element.walk.plies there.3 line,
    )

pub returns-in_err-step : goal.returns-in_err-step
returns-in_err-step c =
    let words = main_words (map item_of c.args.elements.now) 0 in
    let p = err_from_is_err_and c.from_residual.result c.from_residual.ensures.1 in
    let there = subst (λ items. HasFollowed (ends_of c.args.self.now) c.args.start words
    c.loop-element.walk items c.loop-element.found)
    (items_step c.args.elements.now c.loop-element.element-index _ (omega arith))
    c.loop-element.invariant.followed in
    rw (p.1, p.2) (stuck_at _ there.2 c.in_err-step.ensures.stepped)
