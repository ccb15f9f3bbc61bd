use Rattle.pgn_game.proofs.Common.{◌++◌, ◌∷◌, [], map, subst, arith, err_from_is_err_and, item_of}
use Rattle.pgn_game.proofs.Common.{main_words}
use Rattle.pgn_game.proofs.WalkFacts.{HasGone, walk_begins, walked_on, stuck_at, walk_ends}
use Rattle.pgn_game.proofs.WalkFacts.{items_step, items_end}
use Rattle.pgn_game.proofs.replays.main_line.count_main_line.Goals as goal

pub loop-element-init : goal.loop-element-init
loop-element-init c = record {
  plies = omega arith;
  depth = omega arith;
  walked = (
    [],
    [],
    walk_begins c.args.start c.new-walk.result (map item_of c.args.elements.now)
        c.new-walk.ensures.0 c.new-walk.ensures.1 c.new-walk.ensures.2,
  );
}

pub returns-in_err-step : goal.returns-in_err-step
returns-in_err-step c =
    let words = main_words (map item_of c.args.elements.now) 0 in
    let i = c.loop-element.element-index in
    let p = err_from_is_err_and c.from_residual.result c.from_residual.ensures.1 in
    let gone =
    subst (HasGone c.args.start words c.loop-element.walk)
    (items_step c.args.elements.now i _ (omega arith)) c.loop-element.invariant.walked in
    rw (p.1, p.2) (stuck_at _ gone.2 c.in_err-step.ensures.stepped)

pub loop-element-preserved : goal.loop-element-preserved
loop-element-preserved c =
    let words = main_words (map item_of c.args.elements.now) 0 in
    let i = c.loop-element.element-index in
    record {
      plies = omega arith;
      depth = omega arith;
      walked =
          walked_on _
          (subst (HasGone c.args.start words c.loop-element.walk)
          (items_step c.args.elements.now i _ (omega arith)) c.loop-element.invariant.walked)
          c.in_ok-step.ensures.stepped;
    }

pub returns : goal.returns
returns c =
    let words = main_words (map item_of c.args.elements.now) 0 in
    let gone =
    subst (HasGone c.args.start words c.loop-element.walk)
    (items_end c.args.elements.now c.loop-element.element-index (omega arith))
    c.loop-element.invariant.walked in
    (gone.0 ++ c.loop-element.walk.position ∷ [], gone.1, walk_ends gone.2, gone.2.count)
